-- What one item does to a list that is known to read, its values being vs: the laws that the loops of the crates above go by, which
-- write what they read. Assumes nothing.
use Rattle.std.specs.Prelude.{ℕ, suc, ◌+◌, ◌-◌, ◌≤◌, ◌<◌, ◌≡◌, refl, List, [], ◌∷◌, ◌++◌, length, take, drop, get_or, set}
use Rattle.std.proofs.Common.{sym, ◌∙◌, ap, append_assoc, arith, length-drop, length-take-le, drop-drop, drop-cons, take-add, add-one}
use Rattle.std.proofs.Math.Decide.{ℕ_discrete}
use Rattle.std.proofs.lemmas.List.{set_at}
use Rattle.std.proofs.Math.Seq.{take-length}
use Rattle.common.specs.Compare.{clash}
use Rattle.lists.specs.declared.Item.{Item}
use Rattle.lists.specs.Items.{items_from, ItemAt, filled}
use Rattle.lists.specs.Answer.{Fate, fine, faulty, consed}
use Rattle.lists.specs.Laws.{items_bad, items_last, items_more}

-- a list with a value in front is fine only where the list is, and its values are then that value and the list's
consed_fine : {A : Type 0} (a : A) (x : Fate (List A)) (vs : List A) → consed a x ≡ fine vs → (r : List A) × (x ≡ fine r) × (vs ≡ a ∷ r)
consed_fine a (fine r) vs e = (r, refl, cc)
consed_fine a (faulty n o) vs e = clash (cc)

module _ {A : Type 0} (g : List ℕ → Fate A) (b : List ℕ) (i n : ℕ) (r : Item) (h : ItemAt b i r) (few : n ≤ length b) (vs : List A)
    (inv : items_from (suc (length b) - n) g i (drop i b) ≡ fine (drop n vs)) where
  -- the items from i on, counted as one and those after it, have the values that are left
  left : items_from (suc (length b - n)) g i (drop i b) ≡ fine (drop n vs)
  left = let e : suc (length b) - n ≡ suc (length b - n) = omega arith in ap (λ (m : ℕ). items_from m g i (drop i b)) (sym e) ∙ inv

  -- no item of a list that reads is bad
  pub fill_bad : (k o : ℕ) → faulty k o ≡ g (take (r.stop - r.start) (drop r.start b)) → ⊥
  fill_bad k o e = clash (cc (items_bad g b i r h (length b - n) k o e, left))

  -- the last item's value is all that is left of the list's values
  pub fill_last : (v : A) → fine v ≡ g (take (r.stop - r.start) (drop r.start b)) → r.bound ≡ length b → drop n vs ≡ v ∷ []
  fill_last v e k = cc (items_last g b i r h (length b - n) v e k, left)

  -- the value of an item before others is the next of the list's values, and the items after it have the values that are left
  pub fill_more : (v : A) → fine v ≡ g (take (r.stop - r.start) (drop r.start b)) → r.bound < length b
      → (drop n vs ≡ v ∷ drop (n + 1) vs) × (items_from (suc (length b) - (n + 1)) g (r.bound + 1) (drop (r.bound + 1) b) ≡ fine (drop (n + 1) vs))
  fill_more v e k =
      let (w, p, q) = consed_fine v (items_from (length b - n) g (r.bound + 1) (drop (r.bound + 1) b)) (drop n vs) (items_more g b i r h (length b - n) v e k ∙ left) in
      let d : drop (n + 1) vs ≡ w = sym (drop-drop 1 n vs) ∙ ap (drop 1) q in
      let m : suc (length b) - (n + 1) ≡ length b - n = omega arith in
      (q ∙ ap (λ (l : List A). v ∷ l) (sym d), ap (λ (j : ℕ). items_from j g (r.bound + 1) (drop (r.bound + 1) b)) m ∙ p ∙ ap fine (sym d))

  -- the value of an item is the first of the list's values that are left
  pub fill_head : (v : A) → fine v ≡ g (take (r.stop - r.start) (drop r.start b)) → (l : List A) × (drop n vs ≡ v ∷ l)
  fill_head v e = go (ℕ_discrete r.bound (length b))
    where
      go : Dec (r.bound ≡ length b) → (l : List A) × (drop n vs ≡ v ∷ l)
      go (yes k) = ([], fill_last v e k)
      go (no k) = (drop (n + 1) vs, (fill_more v e (omega (arith, h.within))).0)

module _ {A : Type 0} (vs out : List A) (n : ℕ) (v : A) (l : List A) (here : drop n vs ≡ v ∷ l) (room : length vs ≤ length out) where
  -- a value that is still to be written has its place in the list
  pub fill_place : n < length vs
  fill_place = omega (arith, length-drop n vs, ap length here)

  -- the first n + 1 values are the first n and the value at n
  more : take (n + 1) vs ≡ take n vs ++ (v ∷ [])
  more = take-add n 1 vs ∙ ap (λ (x : List A). take n vs ++ take 1 x) here

  -- to write the value at n is to have the first n + 1 values in front of the lent list
  pub fill_store : set (take n vs ++ drop n out) n v ≡ take (n + 1) vs ++ drop (n + 1) out
  fill_store =
      let p = fill_place in
      let q : drop n out ≡ get_or out n v ∷ drop (n + 1) out = rw add-one (drop-cons out n v (omega arith)) in
      ap (λ (x : List A). set (take n vs ++ x) n v) q ∙ set_at (take n vs) (get_or out n v) (drop (n + 1) out) v n (length-take-le n vs (omega arith))
      ∙ sym (ap (λ (x : List A). x ++ drop (n + 1) out) more ∙ append_assoc (take n vs) (v ∷ []) (drop (n + 1) out))

  -- once the last value is written, all values stand in front of the lent list
  pub fill_ends : l ≡ [] → (take (n + 1) vs ++ drop (n + 1) out ≡ filled vs out) × (n + 1 ≡ length vs)
  fill_ends e =
      let m : n + 1 ≡ length vs = omega (arith, length-drop n vs, ap length here, ap length e) in
      (ap (λ (k : ℕ). take k vs ++ drop k out) m ∙ ap (λ (x : List A). x ++ drop (length vs) out) (take-length vs), m)
