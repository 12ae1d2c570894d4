-- The looks that come before a search, for many ids at once: a row that can be told without reading rows is what the search finds,
-- if it has the id. The laws say so for any slots and any numbers beside them.
-- Assumes nothing.
use Rattle.std.specs.Prelude.{ℕ, ◌+◌, ◌-◌, ◌*◌, ◌/◌, ◌%◌, ◌≤◌, ◌<◌, min, max, ◌≡◌, refl, Bool, true, false, ◌&&◌, List, ◌⊎◌, ltb, eqb, length, get_or, Some}
use Rattle.std.proofs.Common.{sym, ◌∙◌, ap, subst, inl, inr, arith, mul-le-mul_right, mul-div_cancel, div-add-mod', ltb-true, le-ltb, ne_eqb}
use Rattle.common.specs.Compare.{less_or}
use Rattle.table.specs.Table.{id_of, rows_fit}
use Rattle.index.specs.KeyOrder.{slot_id, table_room}
use Rattle.index.specs.Search.{bracket, range_width, range_end, end_of, row_has_id, first_row, searched}
use Rattle.index.specs.Guide.{start_in, end_all, end_even, end_guide, guide_is, range_finds, first_dense, first_none, even_place}
use Rattle.index.specs.SearchRight.{get_first, get_later, seek_hit}
use Rattle.index.specs.declared.Ids.{Ids}
use Rattle.find_many.specs.Finds.{row_number}

-- how many rows the index speaks of
abbrev pub indexed_rows : List ℕ → List ℕ → Ids → ℕ
indexed_rows rows slots b = table_room (rows_fit (length rows)) (length slots) b.count

-- what a search tells of an id, as a number
abbrev pub searched_number : List ℕ → List ℕ → Ids → ℕ → ℕ
searched_number rows slots b k = row_number (searched rows slots b k)

-- a row that is what the search finds of an id, if it has that id
abbrev pub Hint : List ℕ → List ℕ → Ids → ℕ → ℕ → Type 0
Hint rows slots b k r = row_has_id (id_of rows) (indexed_rows rows slots b) r k ≡ true → Some r ≡ searched rows slots b k

-- no row of a table is numbered 4294967295
out_of_room : (rows slots : List ℕ) (b : Ids) (k : ℕ) → false ≡ row_has_id (id_of rows) (indexed_rows rows slots b) 4294967295 k
out_of_room rows slots b k = sym (rw (le-ltb 4294967295 (indexed_rows rows slots b) (omega arith)) refl)

module _ (rows slots : List ℕ) (b : Ids) (k : ℕ) where
  -- a hint that has the id is what the search tells
  pub hint_row : (r : ℕ) → Hint rows slots b k r → row_has_id (id_of rows) (indexed_rows rows slots b) r k ≡ true → r ≡ searched_number rows slots b k
  hint_row r hint h = ap row_number (hint h)

  -- the row that a search looks at first is a hint, whatever it is
  pub first_hint : (r : ℕ) → r ≡ first_row slots b k → Hint rows slots b k r
  first_hint r e h = get_first (id_of rows) (rows_fit (length rows)) slots b k r e true (sym h) refl

  -- a number that no row has is a hint
  pub none_hint : (r : ℕ) → r ≡ 4294967295 → Hint rows slots b k r
  none_hint r e h = let z : false ≡ true = out_of_room rows slots b k ∙ ap (λ (m : ℕ). row_has_id (id_of rows) (indexed_rows rows slots b) m k) (sym e) ∙ h in absurd (let y : ◌≡◌ {A = ℕ} 0 1 = cc in omega arith)

  module _ (r : ℕ) (from : b.first ≤ k) where
    -- where ids are dense in file order, the row as far from the first as the id is from the first id is a hint
    pub dense_hint : b.direct ≡ true → (b.distinct && eqb b.shift 0) ≡ true → r ≡ k - b.first → Hint rows slots b k r
    dense_hint d e q = first_hint r (first_dense k b slots r from e (q ∙ sym (rw d refl)))

    module _ (d : b.direct ≡ true) (e : (b.distinct && eqb b.shift 0) ≡ false) where
      -- where ids rise in file order and are not dense, the row before an end of the search is a hint
      end_hint : r + 1 ≡ end_of k b slots (slot_id (id_of rows) b.direct slots) (indexed_rows rows slots b) → Hint rows slots b k r
      end_hint q h =
          seek_hit (id_of rows) (rows_fit (length rows)) slots b k (indexed_rows rows slots b) (r + 1) refl q r (rw d (omega arith)) (λ z. omega arith) true (sym h) refl
          ∙ get_later (id_of rows) (rows_fit (length rows)) slots b k 4294967295 (first_none k b slots from e) false (out_of_room rows slots b k) refl

      -- where ids rise by one step, the row so many steps from the first as the id is from the first id is a hint
      pub even_hint : (step : ℕ) → 0 < step → step * (indexed_rows rows slots b - 1) ≡ b.last - b.first → 1 < indexed_rows rows slots b → b.even ≡ true → r * step ≡ k - b.first → Hint rows slots b k r
      even_hint step pos span two even far h = go (less_or k b.last)
        where
          n : ℕ
          n = indexed_rows rows slots b

          inside : r < n
          inside = by (ltb r n) refl
            where
              by : (t : Bool) → ltb r n ≡ t → r < n
              by true p = ltb-true r n p
              by false p = absurd (let y : ◌≡◌ {A = Bool} false true = sym (rw p refl) ∙ h in let z : ◌≡◌ {A = ℕ} 0 1 = cc in omega arith)

          last_row : b.last ≤ k → r ≡ n - 1
          last_row l = by (less_or r (n - 1))
            where
              by : (r < n - 1) ⊎ (n - 1 ≤ r) → r ≡ n - 1
              by (inl o) = let m = mul-le-mul_right {m = r + 1} {n = n - 1} step (omega arith) in absurd (omega (arith, m, far, span, l, pos))
              by (inr o) = omega (arith, inside)

          place : (k - b.first) * (n - 1) / (b.last - b.first) ≡ r
          place =
              ap (λ (z : ℕ). (k - b.first) * (n - 1) / z) (sym span ∙ omega arith)
              ∙ even_place (k - b.first) (n - 1) step (omega (arith, two))
              ∙ ap (λ (z : ℕ). z / step) (sym far)
              ∙ mul-div_cancel r pos

          go : (k < b.last) ⊎ (b.last ≤ k) → Some r ≡ searched rows slots b k
          go (inl l) = end_hint (end_even k b slots (slot_id (id_of rows) b.direct slots) n (r + 1) l from even (ap (λ (z : ℕ). z + 1) (sym place))) h
          go (inr l) = end_hint (let q = last_row l in omega (arith, two, q) ∙ end_all k b slots (slot_id (id_of rows) b.direct slots) n l) h

      -- by the guide, the row where the id would stand if its range, which has rows, were filled evenly is a hint
      pub guide_hint : (q lo hi : ℕ) → b.even ≡ false → b.distinct ≡ true → k < b.last
          → q ≡ (k - b.first) / range_width b.shift → q + 1 < indexed_rows rows slots b
          → lo ≡ max 1 (min (get_or slots q 0) (indexed_rows rows slots b)) → hi ≡ min (min (get_or slots (q + 1) 0) (indexed_rows rows slots b)) (indexed_rows rows slots b - 1)
          → lo < hi → r ≡ lo + (k - (b.first + q * range_width b.shift)) * (hi - lo) / range_width b.shift → Hint rows slots b k r
      guide_hint q lo hi even distinct below range inside low high rows_left there h =
          end_hint (end_guide k b slots g n (r + 1) below from even d (guide_is k b.distinct g slots n b.first b.last b.shift q lo hi (b.first + q * range_width b.shift) (min (b.first + (q + 1) * range_width b.shift) b.last) (r + 1) range
          (low ∙ ap (λ (z : ℕ). max 1 z) (sym (start_in slots n q (omega arith)))) (high ∙ ap (λ (z : ℕ). min z (n - 1)) (sym (start_in slots n (q + 1) inside))) refl refl found)) h
        where
          n : ℕ
          n = indexed_rows rows slots b

          g : ℕ → ℕ
          g = slot_id (id_of rows) b.direct slots

          has : (b.distinct && eqb (g r) k) ≡ true
          has = subst (λ (t : Bool). (t && eqb (slot_id (id_of rows) b.direct slots r) k) ≡ true) (sym distinct) (subst (λ (t : Bool). (true && eqb (slot_id (id_of rows) t slots r) k) ≡ true) (sym d) (by (ltb r n) (eqb (id_of rows r) k) refl refl))
            where
              by : (s t : Bool) → ltb r n ≡ s → eqb (id_of rows r) k ≡ t → eqb (id_of rows r) k ≡ true
              by s true p o = o
              by true false p o = absurd (let y : ◌≡◌ {A = Bool} false true = sym (rw (p, o) refl) ∙ h in let z : ◌≡◌ {A = ℕ} 0 1 = cc in omega arith)
              by false false p o = absurd (let y : ◌≡◌ {A = Bool} false true = sym (rw p refl) ∙ h in let z : ◌≡◌ {A = ℕ} 0 1 = cc in omega arith)

          found : r + 1 ≡ range_end k b.distinct g (bracket lo hi (b.first + q * range_width b.shift) (min (b.first + (q + 1) * range_width b.shift) b.last) 4) (range_width b.shift)
          found = range_finds k b.distinct g (bracket lo hi (b.first + q * range_width b.shift) (min (b.first + (q + 1) * range_width b.shift) b.last) 4) (range_width b.shift) r (g r) there refl rows_left has

-- the row of an id where ids are dense: a number that no row has, or the one that is as far from the first as the id is from the first id
abbrev pub DenseRow : ℕ → ℕ → ℕ → Type 0
DenseRow first k r = (r ≡ 4294967295) ⊎ ((first ≤ k) × (r ≡ k - first))

-- the row of an id where ids rise by one step from the first: a number that no row has, or one that is so many steps from the first as the
-- id is from the first id
abbrev pub EvenRow : ℕ → ℕ → ℕ → ℕ → Type 0
EvenRow first step k r = (r ≡ 4294967295) ⊎ ((first ≤ k) × (r * step ≡ k - first))

-- which range of the guide an id is in
abbrev pub range_near : Ids → ℕ → ℕ
range_near b k = (k - b.first) / range_width b.shift

-- where an id's range begins by the guide to n rows; one in the last range counts as in the one before
abbrev pub start_near : List ℕ → ℕ → Ids → ℕ → ℕ
start_near slots n b k = min (get_or slots (min (range_near b k) (n - 2)) 0) n

-- for the ids of a part it is told where their ranges of the guide begin
abbrev pub StartsAt : List ℕ → ℕ → Ids → List ℕ → List ℕ → ℕ → ℕ → Type 0
StartsAt slots n b ids found from to = (i : ℕ) → from ≤ i → i < to → get_or found i 0 ≡ start_near slots n b (get_or ids i 0)

-- the first row of an id's range, of those between the first row of all and the last
abbrev pub low_near : List ℕ → ℕ → Ids → ℕ → ℕ
low_near slots n b k = max 1 (min (get_or slots (range_near b k) 0) n)

-- the row behind the last row of an id's range, of those between the first row of all and the last
abbrev pub high_near : List ℕ → ℕ → Ids → ℕ → ℕ
high_near slots n b k = min (min (get_or slots (range_near b k + 1) 0) n) (n - 1)

-- the row of an id where it would stand if its range, which has rows, were filled evenly
pub record Evenly (slots : List ℕ) (n : ℕ) (b : Ids) (k r : ℕ) : Type 0 where
  pub from : b.first ≤ k
  pub below : k < b.last
  pub inside : range_near b k + 1 < n
  pub filled : low_near slots n b k < high_near slots n b k
  pub there : r ≡ low_near slots n b k + (k - (b.first + range_near b k * range_width b.shift)) * (high_near slots n b k - low_near slots n b k) / range_width b.shift

-- the row where an id would stand if its range were filled evenly, or a number that no row has
abbrev pub NearRow : List ℕ → ℕ → Ids → ℕ → ℕ → Type 0
NearRow slots n b k r = (r ≡ 4294967295) ⊎ Evenly slots n b k r

-- the least of x and n - 1 is the least of x, n and n - 1
twice_least : (x n : ℕ) → min x (n - 1) ≡ min (min x n) (n - 1)
twice_least x n = omega arith

-- the row that the code computes is the one where the id would stand if its range were filled evenly
pub evenly_is : (slots : List ℕ) (n : ℕ) (b : Ids) (k q lo hi d sh : ℕ) → b.first ≤ k → k < b.last → q ≡ range_near b k → q + 1 < n
    → lo ≡ max 1 (start_near slots n b k) → hi ≡ min (get_or slots (q + 1) 0) (n - 1) → lo < hi
    → d ≡ (k - b.first) % range_width b.shift → sh ≡ d * (hi - lo) / range_width b.shift → Evenly slots n b k (lo + sh)
evenly_is slots n b k q lo hi d sh from below range inside low high filled far share =
    record {
      from = from;
      below = below;
      inside = omega (arith, range, inside);
      filled = subst (λ (z : ℕ). low_near slots n b k < z) high_is (subst (λ (z : ℕ). z < hi) low_is filled);
      there = ap (λ (z : ℕ). lo + z) share ∙ ap (λ (z : ℕ). lo + z * (hi - lo) / range_width b.shift) (far ∙ rest) ∙ ap (λ (z : ℕ). z + span * (hi - z) / range_width b.shift) low_is ∙ ap (λ (z : ℕ). low_near slots n b k + span * (z - low_near slots n b k) / range_width b.shift) high_is;
    }
  where
    span : ℕ
    span = k - (b.first + range_near b k * range_width b.shift)

    same : min (range_near b k) (n - 2) ≡ range_near b k
    same = omega (arith, range, inside)

    low_is : lo ≡ low_near slots n b k
    low_is = low ∙ ap (λ (z : ℕ). max 1 (min (get_or slots z 0) n)) same

    high_is : hi ≡ high_near slots n b k
    high_is = high ∙ ap (λ (z : ℕ). min (get_or slots (z + 1) 0) (n - 1)) range ∙ twice_least (get_or slots (range_near b k + 1) 0) n

    rest : (k - b.first) % range_width b.shift ≡ span
    rest = let e = div-add-mod' (k - b.first) (range_width b.shift) in omega (arith, e, from)

-- the numbers beside the slots say that the ids of n rows rise by so many in file order, and are not dense
pub record RisesByStep (b : Ids) (n step : ℕ) : Type 0 where
  pub direct : b.direct ≡ true
  pub apart : (b.distinct && eqb b.shift 0) ≡ false
  pub even : b.even ≡ true
  pub two : 1 < n
  pub span : step * (n - 1) ≡ b.last - b.first

-- the numbers beside the slots say that there is a guide to n rows, whose ids rise in file order by no one step
pub record Guided (b : Ids) (n : ℕ) : Type 0 where
  pub two : 1 < n
  pub direct : b.direct ≡ true
  pub apart : (b.distinct && eqb b.shift 0) ≡ false
  pub even : b.even ≡ false
  pub distinct : b.distinct ≡ true

-- where a range has more than one id, ids do not count as dense
pub apart_by : (s : Bool) (n : ℕ) → (n ≡ 0 → ⊥) → (s && eqb n 0) ≡ false
apart_by true n h = ne_eqb n 0 h
apart_by false n h = refl

module _ (rows slots : List ℕ) (b : Ids) where
  -- a row that is told by the guide is a hint
  pub near_hint : (n : ℕ) → n ≡ indexed_rows rows slots b → Guided b (indexed_rows rows slots b) → (k r : ℕ) → NearRow slots n b k r → Hint rows slots b k r
  near_hint n room h k r (inl z) = none_hint rows slots b k r z
  near_hint n room h k r (inr z) = subst (λ (m : ℕ). Evenly slots m b k r → Hint rows slots b k r) (sym room) (λ y. guide_hint rows slots b k r y.from h.direct h.apart (range_near b k) (low_near slots (indexed_rows rows slots b) b k) (high_near slots (indexed_rows rows slots b) b k) h.even h.distinct y.below refl y.inside refl refl y.filled y.there) z

  -- a row that is told by the step is a hint
  pub step_hint : (step : ℕ) → 0 < step → RisesByStep b (indexed_rows rows slots b) step → (k r : ℕ) → EvenRow b.first step k r → Hint rows slots b k r
  step_hint step pos h k r (inl z) = none_hint rows slots b k r z
  step_hint step pos h k r (inr z) = even_hint rows slots b k r z.0 h.direct h.apart step pos h.span h.two h.even z.1

  -- a row that is told by the distance from the first is a hint, where ids are dense in file order
  pub far_hint : b.direct ≡ true → (b.distinct && eqb b.shift 0) ≡ true → (k r : ℕ) → DenseRow b.first k r → Hint rows slots b k r
  far_hint d e k r (inl z) = none_hint rows slots b k r z
  far_hint d e k r (inr z) = dense_hint rows slots b k r z.0 d e z.1
