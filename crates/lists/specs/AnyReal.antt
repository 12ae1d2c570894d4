-- Lists and grids of any reals: no refusal but 12, and what the class reads there is read the same. Shown once of all readings by which items are read.
-- Assumes nothing.
use Prim.Native.Nat.{ℕ, zero, suc, ◌+◌, ◌-◌}
use Rattle.std.specs.Prelude.{◌≡◌, refl, Bool}
use Rattle.std.proofs.Common.{◌∙◌, ap}
use Rattle.std.proofs.Math.Bool.{true, false}
use mathlib.Core.List.{List, [], ◌∷◌, map}
use Rattle.std.proofs.Math.ListN.{length}
use Rattle.common.specs.Pick.{pick}
use Rattle.common.specs.Compare.{clash}
use Rattle.reals.specs.Answer.{Answer, read, refused}
use Rattle.reals.specs.Scalar.{real_of, any_real_of}
use Rattle.reals.specs.OldClass.{any_kept, any_refused}
use Rattle.lists.specs.Answer.{Fate, fine, faulty, shifted, as_fate, consed}
use Rattle.lists.specs.Items.{item_end, item_text, indent, item_by, headed, past_comma, items_from, is_blank, items_by, Body, inside, bare, body_of, listed, list_by, list_of}
use Rattle.lists.specs.Any.{list_also}

-- ---- no refusal but 12
-- a text reads, or is refused with 12
abbrev pub Twelve : {A : Type 0} → Fate A → Type 0
Twelve (fine a) = Unit {0}
Twelve (faulty n o) = n ≡ 12

-- where a text reads or is refused with 12, its refusal's number is 12
pub twelve_only : {A : Type 0} {a : Fate A} → Twelve a → (n o : ℕ) → a ≡ faulty n o → n ≡ 12
twelve_only {a = fine v} h n o e = clash (cc)
twelve_only {a = faulty m p} h n o e = let z : n ≡ m = cc in z ∙ h

-- a text each of whose refusals has the number 12 reads or is refused with 12
pub twelve_is : {A : Type 0} (a : Fate A) → ((n o : ℕ) → a ≡ faulty n o → n ≡ 12) → Twelve a
twelve_is (fine v) h = tt
twelve_is (faulty n o) h = h n o refl

-- a text that reads or is refused with 12 does so seen from k bytes further back
shifted_twelve : {A : Type 0} (k : ℕ) (a : Fate A) → Twelve a → Twelve (shifted k a)
shifted_twelve k (fine v) h = tt
shifted_twelve k (faulty n o) h = h

module _ {A : Type 0} (g : List ℕ → Fate A) (only : (u : List ℕ) (n o : ℕ) → g u ≡ faulty n o → n ≡ 12) where
  -- an item reads or is refused with 12, where g refuses with 12 alone
  item_twelve : (o : ℕ) (t : List ℕ) → Twelve (shifted o (item_by g t))
  unfolding item_by
  item_twelve o t = shifted_twelve o (shifted (indent t) (g (item_text t))) (shifted_twelve (indent t) (g (item_text t)) (twelve_is (g (item_text t)) (only (item_text t))))

  -- an item with those that follow it reads or is refused with 12, where each of both does
  headed_twelve : (x : Fate A) (p : Unit {0} → Fate (List A)) → Twelve x → Twelve (p tt) → Twelve (headed x p)
  headed_twelve (fine v) p h k = go (p tt) k
    where
      go : (r : Fate (List A)) → Twelve r → Twelve (consed v r)
      go (fine vs) k = tt
      go (faulty n o) k = k
  headed_twelve (faulty n o) p h k = h

  -- what follows a comma reads or is refused with 12, where every rest does; where there is no comma, nothing follows
  past_twelve : (xs : List ℕ) (p : List ℕ → Fate (List A)) → ((r : List ℕ) → Twelve (p r)) → Twelve (past_comma xs p)
  past_twelve [] p h = tt
  past_twelve (c ∷ r) p h = h r

  -- the items from a rest on read or are refused with 12, where g refuses with 12 alone
  from_twelve : (n o : ℕ) (xs : List ℕ) → Twelve (items_from n g o xs)
  unfolding items_from
  from_twelve zero o xs = tt
  from_twelve (suc n) o xs =
      headed_twelve (shifted o (item_by g xs)) (λ u. past_comma (item_end xs) (λ r. items_from n g (o + (length xs - length r)) r)) (item_twelve o xs)
      (past_twelve (item_end xs) (λ r. items_from n g (o + (length xs - length r)) r) (λ r. from_twelve n (o + (length xs - length r)) r))

  -- a list of items that g reads is refused with 12 alone, where g refuses with 12 alone
  pub listed_12 : (t : List ℕ) (n o : ℕ) → list_by g t ≡ faulty n o → n ≡ 12
  unfolding list_by items_by
  listed_12 t = twelve_only (go (body_of t))
    where
      inner : (b : List ℕ) (z : Bool) → Twelve (pick z (fine []) (items_from (suc (length b)) g 0 b))
      inner b true = tt
      inner b false = from_twelve (suc (length b)) 0 b

      go : (b : Body) → Twelve (listed g b)
      go (inside b) = shifted_twelve 1 (pick (is_blank b) (fine []) (items_from (suc (length b)) g 0 b)) (inner b (is_blank b))
      go bare = refl

-- a list of scalars that f reads is refused with 12 alone, where f refuses with 12 alone
pub list_12 : {A : Type 0} (f : List ℕ → Answer A) → ((t : List ℕ) (n : ℕ) → f t ≡ refused n → n ≡ 12) → (t : List ℕ) (n o : ℕ) → list_of f t ≡ faulty n o → n ≡ 12
list_12 {A} f only = listed_12 (λ u. as_fate (f u)) (λ u n o. go u (f u) refl n o)
  where
    go : (u : List ℕ) (a : Answer A) → f u ≡ a → (n o : ℕ) → as_fate a ≡ faulty n o → n ≡ 12
    go u (read v) h n o e = clash (cc)
    go u (refused m) h n o e = let z : n ≡ m = cc in z ∙ only u m h

-- a grid of scalars that f reads is refused with 12 alone, where f refuses with 12 alone
pub grid_12 : {A : Type 0} (f : List ℕ → Answer A) → ((t : List ℕ) (n : ℕ) → f t ≡ refused n → n ≡ 12) → (t : List ℕ) (n o : ℕ) → list_by (list_of f) t ≡ faulty n o → n ≡ 12
grid_12 f only = listed_12 (list_of f) (list_12 f only)

-- a list of any reals is refused with 12 alone, never with 13
pub any_reals_refused : (t : List ℕ) (n o : ℕ) → list_of any_real_of t ≡ faulty n o → n ≡ 12
any_reals_refused = list_12 any_real_of any_refused

-- a grid of any reals is refused with 12 alone, never with 13
pub any_grid_refused : (t : List ℕ) (n o : ℕ) → list_by (list_of any_real_of) t ≡ faulty n o → n ≡ 12
any_grid_refused = grid_12 any_real_of any_refused

-- ---- what f reads, g reads the same
-- a list whose values are mapped each to itself is the list
map_same : {A : Type 0} (vs : List A) → map (λ (a : A). a) vs ≡ vs
map_same [] = refl
map_same {A} (v ∷ vs) = ap (λ (ws : List A). v ∷ ws) (map_same vs)

-- a list that f reads is read the same by g, where g reads each item that f reads the same
pub listed_kept : {A : Type 0} (f g : List ℕ → Fate A) → ((u : List ℕ) (v : A) → f u ≡ fine v → g u ≡ fine v) → (t : List ℕ) (vs : List A) → list_by f t ≡ fine vs → list_by g t ≡ fine vs
listed_kept {A} f g kept t vs e = list_also (λ (a : A). a) f g kept t vs e ∙ ap fine (map_same vs)

-- a list of scalars that f reads is read the same by g, where g reads each scalar that f reads the same
pub list_kept : {A : Type 0} (f g : List ℕ → Answer A) → ((t : List ℕ) (b : A) → f t ≡ read b → g t ≡ read b) → (t : List ℕ) (vs : List A) → list_of f t ≡ fine vs → list_of g t ≡ fine vs
list_kept {A} f g kept = listed_kept (λ u. as_fate (f u)) (λ u. as_fate (g u)) (λ u v. go u v (f u) refl)
  where
    go : (u : List ℕ) (v : A) (a : Answer A) → f u ≡ a → as_fate a ≡ fine v → as_fate (g u) ≡ fine v
    go u v (read b) h e = ap as_fate (kept u b h) ∙ e
    go u v (refused n) h e = clash (cc)

-- a grid of scalars that f reads is read the same by g, where g reads each scalar that f reads the same
pub grid_kept : {A : Type 0} (f g : List ℕ → Answer A) → ((t : List ℕ) (b : A) → f t ≡ read b → g t ≡ read b)
    → (t : List ℕ) (vs : List (List A)) → list_by (list_of f) t ≡ fine vs → list_by (list_of g) t ≡ fine vs
grid_kept f g kept = listed_kept (list_of f) (list_of g) (list_kept f g kept)

-- a list of the class's reals keeps its values where any real is read
pub any_reals_kept : (t : List ℕ) (vs : List ℕ) → list_of real_of t ≡ fine vs → list_of any_real_of t ≡ fine vs
any_reals_kept = list_kept real_of any_real_of any_kept

-- a grid of the class's reals keeps its values where any real is read
pub any_grid_kept : (t : List ℕ) (vs : List (List ℕ)) → list_by (list_of real_of) t ≡ fine vs → list_by (list_of any_real_of) t ≡ fine vs
any_grid_kept = grid_kept real_of any_real_of any_kept
