-- A walk over the bytes of a list, one turn a byte: the one recursion of every search. A turn sees the byte and
-- what follows it; it stops with an answer or goes on in another state. At the end of the list the state decides.
-- Three laws carry a loop of the code over it, at an index of the whole list. Assumes nothing.
use Rattle.std.specs.Prelude.{ℕ, ◌+◌, ◌≤◌, ◌<◌, ◌≡◌, List, [], ◌∷◌, length, drop, get_or}
use Rattle.std.proofs.Common.{drop_of_length-le}
use Rattle.common.specs.Lists.{split}

-- what a turn answers: it stops, or goes on
pub data Turn (S A : Type 0) : Type 0 where
  stop : A → Turn S A
  on : S → Turn S A

-- the answer of a turn, or what the walk goes on to answer
abbrev pub turned : {S A : Type 0} → Turn S A → (S → A) → A
turned (stop a) k = a
turned (on u) k = k u

-- a walk from the state s over the bytes, by turns; `z` answers where they end
unfoldable pub walk : {S A : Type 0} → (S → ℕ → List ℕ → Turn S A) → (S → A) → S → List ℕ → A
walk t z s [] = z s
walk t z s (c ∷ r) = turned (t s c r) (λ u. walk t z u r)

module _ {S A : Type 0} (t : S → ℕ → List ℕ → Turn S A) (z : S → A) where
  -- a walk from the list's end on answers by its state
  pub walk_ends : (s : S) (xs : List ℕ) (i : ℕ) → length xs ≤ i → walk t z s (drop i xs) ≡ z s
  unfolding walk
  walk_ends s xs i h = rw (drop_of_length-le xs h)

  -- a walk answers what its turn at i stops with
  pub walk_stops : (s : S) (xs : List ℕ) (i : ℕ) (a : A) → i < length xs → t s (get_or xs i 0) (drop (i + 1) xs) ≡ stop a → walk t z s (drop i xs) ≡ a
  unfolding walk
  walk_stops s xs i a h e = rw (split xs i h, e)

  -- a walk whose turn at i goes on answers as from the next byte on in the new state
  pub walk_goes : (s u : S) (xs : List ℕ) (i : ℕ) → i < length xs → t s (get_or xs i 0) (drop (i + 1) xs) ≡ on u → walk t z s (drop i xs) ≡ walk t z u (drop (i + 1) xs)
  unfolding walk
  walk_goes s u xs i h e = rw (split xs i h, e)
