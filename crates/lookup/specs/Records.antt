-- Document 01, 'Reading the file', of the records themselves: "Lookup of an id answers like a map written to in file order: the
-- last record of that id, or none." And that a lookup over the memory that the records were laid in serves it.
-- Assumes nothing.
use Rattle.std.specs.Prelude.{ℕ, zero, suc, ◌<◌, ◌≡◌, refl, Bool, true, false, List, [], ◌∷◌, ◌++◌, eqb, length, take, drop, Option, Some, None}
use Rattle.std.proofs.Common.{sym, ◌∙◌, ap, subst, append_assoc, arith, length-append, length-take-le, eqb-true, eq-eqb, ne_eqb}
use Rattle.std.proofs.Math.ListN.{get_elem?}
use Rattle.std.proofs.Math.Option as maybe
use Rattle.std.proofs.lemmas.Bool.{eqb-false}
use Rattle.common.specs.Pick.{pick}
use Rattle.common.specs.Compare.{clash}
use Rattle.statement.specs.Rows.{Row}
use Rattle.table.specs.Table.{id_of, row_numbers, rows_laid}
use Rattle.table.specs.Laid.{row_is}
use Rattle.index.specs.Rules.{LookupForm}
use Rattle.lookup.specs.Lookup.{row_found}
use Rattle.lookup.specs.Rules.{NoneOf, IsLastOf, LastForm}

-- what was found, or else another
abbrev pub or_else : {A : Type 0} → Option A → Option A → Option A
or_else (Some a) o = Some a
or_else None o = o

-- the last record of an id, computed: that of the later records, or else this one
unfoldable pub last_of : ℕ → List Row → Option Row
last_of k [] = None
last_of k (w ∷ rs) = or_else (last_of k rs) (pick (eqb w.id k) (Some w) None)

-- among no records, none has the id
none_nil : (k : ℕ) → NoneOf k []
none_nil k [] back w e n = clash cc
none_nil k (v ∷ front) back w e n = clash cc

-- where no record has the id, none has it with one more in front that does not
none_more : (k : ℕ) (v : Row) (rs : List Row) → (v.id ≡ k → ⊥) → NoneOf k rs → NoneOf k (v ∷ rs)
none_more k v rs d h [] back w e n = d (let q : v ≡ w = cc in ap (λ (x : Row). x.id) q ∙ n)
none_more k v rs d h (u ∷ front) back w e n = h front back w (cc) n

-- where no record has the id, none of those after the first has it
none_less : (k : ℕ) (v : Row) (rs : List Row) → NoneOf k (v ∷ rs) → NoneOf k rs
none_less k v rs h front back w e n = h (v ∷ front) back w (ap (λ (x : List Row). v ∷ x) e) n

-- the last record of an id is so too with a record in front
last_more : (k : ℕ) (v : Row) (rs : List Row) (w : Row) → IsLastOf k rs w → IsLastOf k (v ∷ rs) w
last_more k v rs w h = record { front = v ∷ h.front; back = h.back; cut = ap (λ (x : List Row). v ∷ x) h.cut; named = h.named; after = h.after }

-- the last record of an id that is computed is that by the rules, or there is none
pub last_is : (k : ℕ) (rs : List Row) → LastForm k rs (last_of k rs)
unfolding last_of
last_is k [] = none_nil k
last_is k (v ∷ rs) = go (last_of k rs) (last_is k rs) (eqb v.id k) refl
  where
    go : (o : Option Row) → LastForm k rs o → (t : Bool) → eqb v.id k ≡ t → LastForm k (v ∷ rs) (or_else o (pick t (Some v) None))
    go (Some w) h t e = last_more k v rs w h
    go None h true e = record { front = []; back = rs; cut = refl; named = eqb-true v.id k e; after = h }
    go None h false e = none_more k v rs (eqb-false v.id k e) h

-- the last record of an id by the rules, or none, is what is computed
pub last_only : (k : ℕ) (rs : List Row) (o : Option Row) → LastForm k rs o → last_of k rs ≡ o
unfolding last_of
last_only k [] None h = refl
last_only k [] (Some w) h = absurd (none_nil k h.front h.back w h.cut h.named)
last_only k (v ∷ rs) None h = rw (last_only k rs None (none_less k v rs h), ne_eqb v.id k (h [] rs v refl)) refl
last_only k (v ∷ rs) (Some w) h = go h.front h.cut (λ o. last_only k rs o)
  where
    go : (front : List Row) → v ∷ rs ≡ front ++ (w ∷ h.back) → ((o : Option Row) → LastForm k rs o → last_of k rs ≡ o)
        → or_else (last_of k rs) (pick (eqb v.id k) (Some v) None) ≡ Some w
    go [] e ih =
        let p : v ≡ w = cc in
        let q : rs ≡ h.back = cc in
        rw (ih None (subst (NoneOf k) (sym q) h.after), eq-eqb v.id k (ap (λ (x : Row). x.id) p ∙ h.named)) (ap Some p)
    go (u ∷ front) e ih =
        let q : rs ≡ front ++ (w ∷ h.back) = cc in
        rw (ih (Some w) (record { front = front; back = h.back; cut = q; named = h.named; after = h.after })) refl

-- ---- the rows in lent memory
-- the record between two lists of records has as its number how many stand before it
elem_mid : {A : Type 0} (front : List A) (w : A) (back : List A) → get_elem? (front ++ (w ∷ back)) (length front) ≡ maybe.some w
elem_mid [] w back = refl
elem_mid (v ∷ front) w back = elem_mid front w back

-- where a record has a number, those before it and those after it are cut around it
elem_cut : {A : Type 0} (rs : List A) (r : ℕ) (w : A) → get_elem? rs r ≡ maybe.some w → rs ≡ take r rs ++ (w ∷ drop (suc r) rs)
elem_cut [] r w e = clash cc
elem_cut (v ∷ rs) zero w e = let q : v ≡ w = cc in ap (λ x. x ∷ rs) q
elem_cut (v ∷ rs) (suc r) w e = ap (λ x. v ∷ x) (elem_cut rs r w e)

module _ (rs : List Row) (old : List ℕ) where
  -- the memory that the records were laid in
  abbrev rows : List ℕ
  rows = rows_laid rs old

  -- the id in the row of a record that is cut out
  cut_id : (front : List Row) (w : Row) (back : List Row) → rs ≡ front ++ (w ∷ back) → (length front < length rs) × (id_of rows (length front) ≡ w.id)
  cut_id front w back e = (l, ap (λ (o : maybe.Option Row). id_in o) q)
    where
      id_in : maybe.Option Row → ℕ
      id_in (maybe.some v) = v.id
      id_in maybe.none = 0

      l : length front < length rs
      l = omega (arith, ap (λ (x : List Row). length x) e, length-append front (w ∷ back))

      q : maybe.some (row_numbers rows (length front)) ≡ maybe.some w
      q = sym (row_is rs old (length front) l) ∙ ap (λ (x : List Row). get_elem? x (length front)) e ∙ elem_mid front w back

  -- what a lookup of the rows answers is the record that is the last of that id, or there is none
  found_form : (k : ℕ) (o : Option ℕ) → LookupForm (id_of rows) (length rs) k o → LastForm k rs (row_found rows o)
  found_form k None h = λ front back w e n. let (l, i) = cut_id front w back e in h (length front) l (i ∙ n)
  found_form k (Some r) h = record { front = take r rs; back = drop (suc r) rs; cut = c; named = h.named; after = after }
    where
      w : Row
      w = row_numbers rows r

      c : rs ≡ take r rs ++ (w ∷ drop (suc r) rs)
      c = elem_cut rs r w (row_is rs old r h.row)

      after : NoneOf k (drop (suc r) rs)
      after front back v e n = h.last (length before) far at.0 (at.1 ∙ n)
        where
          before : List Row
          before = take r rs ++ (w ∷ front)

          far : r < length before
          far = omega (arith, length-append (take r rs) (w ∷ front), length-take-le r rs (omega (arith, h.row)))

          at : (length before < length rs) × (id_of rows (length before) ≡ v.id)
          at = cut_id before v back (c ∙ ap (λ (x : List Row). take r rs ++ (w ∷ x)) e ∙ sym (append_assoc (take r rs) (w ∷ front) (v ∷ back)))

  -- "the last record of that id, or none": a lookup of the rows serves it
  pub found_last : (k : ℕ) (o : Option ℕ) → LookupForm (id_of rows) (length rs) k o → row_found rows o ≡ last_of k rs
  found_last k o h = sym (last_only k rs (row_found rows o) (found_form k o h))
