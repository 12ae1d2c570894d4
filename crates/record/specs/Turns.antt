-- What one byte does to the walks of Text.antt, at an index of the whole text: the laws that the loops of the code go by.
-- Assumes nothing.
use Rattle.std.specs.Prelude.{ℕ, ◌+◌, ◌*◌, ◌-◌, ◌≤◌, ◌<◌, ◌≡◌, Bool, true, false, ◌&&◌, List, [], ◌∷◌, map, eqb, length, drop, get_or}
use Rattle.std.proofs.Math.Path.{refl, sym}
use Rattle.std.proofs.Common.{◌∙◌, ap, arith, le_refl, ne_eqb}
use Rattle.common.specs.Pick.{pick}
use Rattle.common.specs.Lists.{split}
use Rattle.lex.specs.Byte.{white}
use Rattle.common.specs.Walk.{stop, on, turned, walk, walk_stops, walk_goes}
use Rattle.record.specs.Text.{past_turn, NumberAndRest, number_and_rest, digit_turn, number_from, Keyed, opened, unopened, key_turn, keyword}
use Rattle.record.specs.Byte.{digit}
use Rattle.record.specs.Word.{same_bytes}

module _ (b : List ℕ) (i : ℕ) (h : i < length b) where
  -- the walk past bytes that pass a test ends at one that does not
  pub past_stops : (p : ℕ → Bool) (a : List ℕ) → p (get_or b i 0) ≡ false → walk (past_turn p) (λ u. []) tt (drop i b) ≡ a → drop i b ≡ a
  past_stops p a e inv = sym (walk_stops (past_turn p) (λ u. []) tt b i (drop i b) h (rw e (ap stop (sym (split b i h))))) ∙ inv

  -- the walk past bytes that pass a test goes on after one that does
  pub past_goes : (p : ℕ → Bool) (a : List ℕ) → p (get_or b i 0) ≡ true → walk (past_turn p) (λ u. []) tt (drop i b) ≡ a → walk (past_turn p) (λ u. []) tt (drop (i + 1) b) ≡ a
  past_goes p a e inv = sym (walk_goes (past_turn p) (λ u. []) tt tt b i h (rw e refl)) ∙ inv

  -- the walk over digits ends at a byte that is no digit, with the number so far
  pub digit_stops : (n : ℕ) (a : NumberAndRest) → digit (get_or b i 0) ≡ false → walk digit_turn (λ m. number_and_rest m []) n (drop i b) ≡ a → number_and_rest n (drop i b) ≡ a
  digit_stops n a e inv = sym (walk_stops digit_turn (λ m. number_and_rest m []) n b i (number_and_rest n (drop i b)) h (rw e (ap (λ (l : List ℕ). stop (number_and_rest n l)) (sym (split b i h))))) ∙ inv

  -- the walk over digits goes on after a digit, with that digit taken in
  pub digit_goes : (n : ℕ) (a : NumberAndRest) → digit (get_or b i 0) ≡ true → walk digit_turn (λ m. number_and_rest m []) n (drop i b) ≡ a → walk digit_turn (λ m. number_and_rest m []) (n * 10 + (get_or b i 0 - 48)) (drop (i + 1) b) ≡ a
  digit_goes n a e inv = sym (walk_goes digit_turn (λ m. number_and_rest m []) n (n * 10 + (get_or b i 0 - 48)) b i h (rw e refl)) ∙ inv

  -- the walk over a keyword ends at a `(`
  pub key_stops : (e : ℕ) (a : Keyed) → eqb (get_or b i 0) 40 ≡ true → walk key_turn (λ k. unopened) (drop e b) (drop i b) ≡ a → opened (drop e b) (drop i b) ≡ a
  key_stops e a q inv = sym (walk_stops key_turn (λ k. unopened) (drop e b) b i (opened (drop e b) (drop i b)) h (rw q (ap (λ (l : List ℕ). stop (opened (drop e b) l)) (sym (split b i h))))) ∙ inv

  -- the walk over a keyword goes on after a byte that is no `(`; a byte that is not white moves the keyword's end past it
  pub key_goes : (e k : ℕ) (a : Keyed) → eqb (get_or b i 0) 40 ≡ false → pick (white (get_or b i 0)) (drop e b) (drop (i + 1) b) ≡ drop k b → walk key_turn (λ l. unopened) (drop e b) (drop i b) ≡ a → walk key_turn (λ l. unopened) (drop k b) (drop (i + 1) b) ≡ a
  key_goes e k a q w inv = sym (walk_goes key_turn (λ l. unopened) (drop e b) (drop k b) b i h (rw q (ap on w))) ∙ inv

  -- a byte above a space is not white
  pub above_white : 32 < get_or b i 0 → white (get_or b i 0) ≡ false
  above_white l = rw (ne_eqb (get_or b i 0) 32 (λ e. omega arith), ne_eqb (get_or b i 0) 9 (λ e. omega arith), ne_eqb (get_or b i 0) 10 (λ e. omega arith), ne_eqb (get_or b i 0) 12 (λ e. omega arith), ne_eqb (get_or b i 0) 13 (λ e. omega arith)) refl

  -- a byte above `(` is no `(` and not white: `keyword` answers from the next byte on as from it
  pub key_solid : 40 < get_or b i 0 → keyword (drop (i + 1) b) ≡ keyword (drop i b)
  unfolding keyword
  key_solid l = key_goes i (i + 1) (keyword (drop i b)) (ne_eqb (get_or b i 0) 40 (λ e. omega arith)) (rw (above_white (omega arith)) refl) refl

-- further digits make no number smaller
pub number_grows : (n : ℕ) (xs : List ℕ) → n ≤ (number_from n xs).value
unfolding number_from walk
number_grows n [] = le_refl n
number_grows n (c ∷ r) = go (digit c) (number_grows (n * 10 + (c - 48)) r)
  where
    go : (t : Bool) → n * 10 + (c - 48) ≤ (number_from (n * 10 + (c - 48)) r).value → n ≤ (turned (pick t (on (n * 10 + (c - 48))) (stop (number_and_rest n (c ∷ r)))) (λ u. walk digit_turn (λ m. number_and_rest m []) u r)).value
    go true k = omega arith
    go false k = le_refl n

-- texts of different lengths are not the same
pub same_lengths : (x y : List ℕ) → (length x ≡ length y → ⊥) → same_bytes x y ≡ false
same_lengths [] [] h = absurd (h refl)
same_lengths [] (b ∷ y) h = refl
same_lengths (a ∷ x) [] h = refl
same_lengths (a ∷ x) (b ∷ y) h = go (eqb a b) (same_lengths x y (λ e. h (omega arith)))
  where
    go : (t : Bool) → same_bytes x y ≡ false → t && same_bytes x y ≡ false
    go true k = k
    go false k = refl

-- at an index of two texts, the first seen through f, the bytes there differ or agree
module _ (f : ℕ → ℕ) (x y : List ℕ) (i : ℕ) (a : Bool) (h : i < length x) (k : i < length y) where
  -- texts that differ at an index, the first seen through f, are not the same from there on
  pub same_stops : eqb (f (get_or x i 0)) (get_or y i 0) ≡ false → same_bytes (map f (drop i x)) (drop i y) ≡ a → false ≡ a
  same_stops e inv = sym (rw (split x i h, split y i k, e) refl) ∙ inv

  -- texts that agree at an index, the first seen through f, are the same from there on just where they are from the next on
  pub same_goes : eqb (f (get_or x i 0)) (get_or y i 0) ≡ true → same_bytes (map f (drop i x)) (drop i y) ≡ a → same_bytes (map f (drop (i + 1) x)) (drop (i + 1) y) ≡ a
  same_goes e inv = sym (rw (split x i h, split y i k, e) refl) ∙ inv
