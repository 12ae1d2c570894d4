-- Laws for the code: a search from a row on, by its rule and by its turns; and a lookup over what `build` left.
-- Assumes nothing.
use Prim.Native.Nat.{ℕ, zero, suc, ◌+◌, ◌-◌, ◌≤◌, ◌<◌}
use Rattle.std.specs.Prelude.{◌≡◌, Bool, List, ◌⊎◌, length, Option, Some, None}
use Rattle.std.proofs.Math.Path.{refl, ap, subst}
use Rattle.std.proofs.Common.{sym, ◌∙◌, inl, inr, add-one}
use Rattle.std.proofs.Math.Bool.{true, false}
use native.Mathlib.Omega.{arith}
use Rattle.common.specs.Pick.{pick}
use Rattle.common.specs.Compare.{clash, ordered, less_or}
use Rattle.table.specs.Table.{rows_fit, id_of}
use Rattle.index.specs.KeyOrder.{table_room}
use Rattle.index.specs.Lookup.{lookup_of}
use Rattle.index.specs.Index.{Built}
use Rattle.index.specs.Search.{searched}
use Rattle.index.specs.SearchRight.{found_right}
use Rattle.index.specs.declared.Ids.{Ids}
use Rattle.lookup.specs.First.{first_from}
use Rattle.error.specs.Refusal.{Refusal, refusal, bad}
use Rattle.statement.specs.Rows.{Row}
use Rattle.lookup.specs.Lookup.{FirstForm, row_found, required, args_by}

module _ (p : ℕ → Bool) where
  -- where the test holds of row i, the search from there answers it
  pub first_stops : (n i : ℕ) → i < n → p i ≡ true → first_from p (n - i) i ≡ Some i
  unfolding first_from
  first_stops n i h e = let q : n - i ≡ suc (n - (i + 1)) = omega arith in ap (λ (z : ℕ). first_from p z i) q ∙ rw e refl

  -- where the test does not hold of row i, the search goes on from the next row
  pub first_goes : (n i : ℕ) → i < n → p i ≡ false → first_from p (n - i) i ≡ first_from p (n - (i + 1)) (i + 1)
  unfolding first_from
  first_goes n i h e = let q : n - i ≡ suc (n - (i + 1)) = omega arith in ap (λ (z : ℕ). first_from p z i) q ∙ (rw e refl) ∙ ap (first_from p (n - (i + 1))) (sym (add-one i))

  -- where no row is left, the search answers none
  pub first_ends : (n i : ℕ) → n ≤ i → first_from p (n - i) i ≡ None
  unfolding first_from
  first_ends n i h = let q : n - i ≡ 0 = omega arith in ap (λ (z : ℕ). first_from p z i) q

  -- the first row of which a test holds is so too with a row in front of which it does not hold
  form_more : (i z : ℕ) (o : Option ℕ) → p i ≡ false → FirstForm p (suc i) z o → FirstForm p i z o
  form_more i z None e h = λ j a b. go j b (ordered i j) a
    where
      go : (j : ℕ) → j < z → (i < j) ⊎ ((i ≡ j) ⊎ (j < i)) → i ≤ j → p j ≡ false
      go j b (inl l) a = h j l b
      go j b (inr (inl l)) a = subst (λ (x : ℕ). p x ≡ false) l e
      go j b (inr (inr l)) a = absurd (omega arith)
  form_more i z (Some k) e h =
      let a = h.0 in
      (omega arith, h.1, h.2, λ j b c. go j c (ordered i j) b)
    where
      go : (j : ℕ) → j < k → (i < j) ⊎ ((i ≡ j) ⊎ (j < i)) → i ≤ j → p j ≡ false
      go j b (inl l) a = h.3 j l b
      go j b (inr (inl l)) a = subst (λ (x : ℕ). p x ≡ false) l e
      go j b (inr (inr l)) a = absurd (omega arith)

  -- what `first_from` answers is the first row of which a test holds, among the next n from row i on
  first_is : (n i : ℕ) → FirstForm p i (i + n) (first_from p n i)
  unfolding first_from
  first_is zero i = λ j a b. absurd (omega arith)
  first_is (suc n) i = go (p i) refl (first_is n (suc i))
    where
      go : (t : Bool) → p i ≡ t → FirstForm p (suc i) (suc i + n) (first_from p n (suc i)) → FirstForm p i (i + suc n) (pick t (Some i) (first_from p n (suc i)))
      go true e f = (omega arith, omega arith, e, λ j a b. absurd (omega arith))
      go false e f = subst (λ (z : ℕ). FirstForm p i z (first_from p n (suc i))) (omega arith) (form_more i (suc i + n) (first_from p n (suc i)) e f)

  -- there is only one first row of which a test holds, or none
  pub first_one : (i z : ℕ) (a b : Option ℕ) → FirstForm p i z a → FirstForm p i z b → a ≡ b
  first_one i z None None f g = refl
  first_one i z None (Some k) f g = clash (let q : false ≡ true = sym (f k g.0 g.1) ∙ g.2 in cc)
  first_one i z (Some k) None f g = clash (let q : false ≡ true = sym (g k f.0 f.1) ∙ f.2 in cc)
  first_one i z (Some k) (Some m) f g = go (ordered k m)
    where
      go : (k < m) ⊎ ((k ≡ m) ⊎ (m < k)) → Some k ≡ Some m
      go (inl l) = clash (let q : false ≡ true = sym (g.3 k f.0 l) ∙ f.2 in cc)
      go (inr (inl e)) = ap Some e
      go (inr (inr l)) = clash (let q : false ≡ true = sym (f.3 m g.0 l) ∙ g.2 in cc)

  -- `by_kind`: the first row from `from` on and before n, or none
  pub first_right : (n from : ℕ) → FirstForm p from n (first_from p (n - from) from)
  first_right n from = go (less_or n from)
    where
      go : (n < from) ⊎ (from ≤ n) → FirstForm p from n (first_from p (n - from) from)
      go (inl h) = subst (FirstForm p from n) (sym (first_ends n from (omega arith))) (λ j a b. absurd (omega arith))
      go (inr h) = subst (λ (z : ℕ). FirstForm p from z (first_from p (n - from) from)) (omega arith) (first_is (n - from) from)

-- "Lookup of an id answers like a map written to in file order: the last record of that id, or none": `get` over what `build` left
pub lookup_right : (rows old slots : List ℕ) (count k : ℕ) (b : Ids) → Built (id_of rows) (table_room (rows_fit (length rows)) (length old) count) old slots b
    → row_found rows (searched rows slots b k) ≡ row_found rows (lookup_of (id_of rows) (table_room (rows_fit (length rows)) (length old) count) k)
lookup_right rows old slots count k b h = ap (row_found rows) (found_right rows old slots count k b h)

-- where the row asked of is refused, so are its arguments
pub args_refused : (len : ℕ) (o : Option Row) (q : Refusal) → bad q ≡ required o → bad q ≡ args_by len o
args_refused len None q e = let d : q ≡ refusal 14 0 0 = cc in ap bad d
args_refused len (Some w) q e = clash cc
