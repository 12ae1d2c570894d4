-- What one row does to a grid that reads and is written: the laws that the writing loops go by, for every kind of item.
-- Assumes nothing.
use Prim.Native.Nat.{ℕ, suc, ◌+◌, ◌-◌, ◌≤◌, ◌<◌, min}
use Rattle.std.specs.Prelude.{◌≡◌, set}
use Rattle.std.proofs.Math.Path.{refl, ap}
use Rattle.std.proofs.Common.{sym, ◌∙◌, length-drop, take-append-drop, length-take-le, drop-drop, take-add, take_at}
use mathlib.Core.List.{List, [], ◌∷◌, ◌++◌, append_assoc, append-nil}
use native.Mathlib.Omega.{arith}
use Rattle.std.proofs.Math.ListN.{length, take, drop, length-append}
use Rattle.std.proofs.Math.Seq.{take-length, drop_at, take-append_seam}
use Rattle.lists.specs.declared.Item.{Item}
use Rattle.lists.specs.Items.{items_from, items_in, list_by, ItemAt, Ready, filled}
use Rattle.lists.specs.Answer.{Fate, fine, faulty, values_of}
use Rattle.lists.specs.Laws.{item_in}
use Rattle.lists.specs.Fill.{fill_bad, fill_last, fill_more, fill_head, fill_store, fill_ends}
use Rattle.grids.specs.Grid.{flat, ends_from}
use Rattle.grids.specs.Code.{GridReady, laid_from}

module _ {A : Type 0} where
  -- the numbers of rows and more rows are those of the rows and then those of the more rows
  pub flat_append : (g h : List (List A)) → flat (g ++ h) ≡ flat g ++ flat h
  flat_append [] h = refl
  flat_append (r ∷ g) h = ap (λ (x : List A). r ++ x) (flat_append g h) ∙ sym (append_assoc r (flat g) (flat h))

  -- there is one row end for each row
  pub ends_length : (n : ℕ) (g : List (List A)) → length (ends_from n g) ≡ length g
  unfolding ends_from
  ends_length n [] = refl
  ends_length n (r ∷ g) = ap suc (ends_length (n + length r) g)

  -- the ends of more rows follow those of the rows before, counted on from their numbers
  pub ends_append : (n : ℕ) (g h : List (List A)) → ends_from n (g ++ h) ≡ ends_from n g ++ ends_from (n + length (flat g)) h
  unfolding ends_from
  ends_append n [] h = let e : n ≡ n + 0 = omega arith in ap (λ (k : ℕ). ends_from k h) e
  ends_append n (r ∷ g) h =
      let e : n + length r + length (flat g) ≡ n + length (r ++ flat g) = omega (arith, length-append r (flat g)) in
      ap (λ (x : List ℕ). (n + length r) ∷ x) (ends_append (n + length r) g h ∙ ap (λ (k : ℕ). ends_from (n + length r) g ++ ends_from k h) e)

  -- After m rows of a grid, the row v and the rows l are left, and n numbers were before them.
  module _ (g : List (List A)) (m : ℕ) (v : List A) (l : List (List A)) (here : drop m g ≡ v ∷ l) (n : ℕ) (so_far : n ≡ length (flat (take m g))) where
    -- a grid is its first m rows, the row v and the rows l
    whole : g ≡ take m g ++ (v ∷ l)
    whole = sym (take-append-drop m g) ∙ ap (λ (x : List (List A)). take m g ++ x) here

    -- there are m rows before the row v
    few : length (take m g) ≡ m
    few = length-take-le m g (omega (arith, ap length here, length-drop m g))

    -- the numbers left after the first m rows are those of the row v and of the rows l
    pub numbers_left : drop n (flat g) ≡ v ++ flat l
    numbers_left = ap (λ (x : List (List A)). drop n (flat x)) whole ∙ ap (drop n) (flat_append (take m g) (v ∷ l)) ∙ drop_at (flat (take m g)) (v ++ flat l) n (sym so_far)

    -- the row ends left after the first m are that of the row v and those of the rows l
    pub ends_left : drop m (ends_from 0 g) ≡ (n + length v) ∷ ends_from (n + length v) l
    unfolding ends_from
    ends_left =
        let e : 0 + length (flat (take m g)) ≡ n = omega arith in
        ap (λ (x : List (List A)). drop m (ends_from 0 x)) whole ∙ ap (drop m) (ends_append 0 (take m g) (v ∷ l))
        ∙ drop_at (ends_from 0 (take m g)) (ends_from (0 + length (flat (take m g))) (v ∷ l)) m (ends_length 0 (take m g) ∙ few) ∙ ap (λ (k : ℕ). ends_from k (v ∷ l)) e

    -- the numbers so far and those of the row v are the numbers of the first m + 1 rows
    pub more_numbers : n + length v ≡ length (flat (take (m + 1) g))
    more_numbers =
        let t : take (m + 1) g ≡ take m g ++ (v ∷ []) = take-add m 1 g ∙ ap (λ (x : List (List A)). take m g ++ take 1 x) here in
        sym (ap (λ (x : List (List A)). length (flat x)) t ∙ ap length (flat_append (take m g) (v ∷ [])) ∙ length-append (flat (take m g)) (v ++ []) ∙ omega (arith, ap length (append-nil v)))

-- A part v of the numbers xs is written, from the n-th on.
module _ {A : Type 0} (xs out : List A) (n : ℕ) (v l : List A) (here : drop n xs ≡ v ++ l) (within : n ≤ length xs) (room : length xs ≤ length out) where
  -- the part v from the n-th number on lies within the numbers xs
  pub part_fits : n + length v ≤ length xs
  part_fits = omega (arith, ap length here, length-append v l, length-drop n xs)

  -- it is written behind those that were, in the lent list w
  pub part_store : (w : List A) → w ≡ take n xs ++ drop n out → laid_from n v w ≡ take (n + length v) xs ++ drop (n + length v) out
  part_store w e =
      let p : length (take n xs) ≡ n = length-take-le n xs within in
      let d : drop n w ≡ drop n out = ap (drop n) e ∙ drop_at (take n xs) (drop n out) n p in
      let t : take n w ≡ take n xs = ap (take n) e ∙ take_at (take n xs) (drop n out) n p in
      let h : take (n + length v) xs ≡ take n xs ++ v = take-add n (length v) xs ∙ ap (λ (x : List A). take n xs ++ take (length v) x) here ∙ ap (λ (x : List A). take n xs ++ x) (take-append_seam v l) in
      ap (λ (x : List A). x ++ filled v (drop n w)) t ∙ ap (λ (x : List A). take n xs ++ filled v x) d ∙ ap (λ (x : List A). take n xs ++ (v ++ x)) (drop-drop (length v) n out)
      ∙ sym (append_assoc (take n xs) v (drop (n + length v) out)) ∙ ap (λ (x : List A). x ++ drop (n + length v) out) (sym h)

  -- once the last part is written, all numbers stand in front of the lent list
  pub part_ends : l ≡ [] → take (n + length v) xs ++ drop (n + length v) out ≡ filled xs out
  part_ends e =
      let m : n + length v ≡ length xs = omega (arith, ap length here, length-append v l, ap length e, length-drop n xs) in
      ap (λ (k : ℕ). take k xs ++ drop k out) m ∙ ap (λ (x : List A). x ++ drop (length xs) out) (take-length xs)

-- so many rows of a grid are written, n numbers in all: the lent lists were out₀ and ends₀ and are out and ends, and i is the place of
-- the next row
pub record Gridding {A : Type 0} (g : List ℕ → Fate A) (b : List ℕ) (out₀ out : List A) (ends₀ ends : List ℕ) (i m n : ℕ) : Type 0 where
  pub few : m ≤ i
  pub within : i ≤ length b
  pub room : length (flat (values_of (items_in (list_by g) b))) ≤ length out₀
  pub rows : length (values_of (items_in (list_by g) b)) ≤ length ends₀
  pub rest : items_from (suc (length b) - m) (list_by g) i (drop i b) ≡ fine (drop m (values_of (items_in (list_by g) b)))
  pub so_far : n ≡ length (flat (take m (values_of (items_in (list_by g) b))))
  pub done : out ≡ take n (flat (values_of (items_in (list_by g) b))) ++ drop n out₀
  pub marked : ends ≡ take m (ends_from 0 (values_of (items_in (list_by g) b))) ++ drop m ends₀

-- none is written yet
pub gridding_starts : {A : Type 0} (g : List ℕ → Fate A) (b : List ℕ) (out : List A) (ends : List ℕ) → GridReady (items_in (list_by g) b) (length out) (length ends) → Gridding g b out out ends ends 0 0 0
gridding_starts g b out ends (h, k, l) = let m : suc (length b) - 0 ≡ suc (length b) = omega arith in record {
  few = omega arith;
  within = omega arith;
  room = k;
  rows = l;
  rest = ap (λ (n : ℕ). items_from n (list_by g) 0 b) m ∙ h;
  so_far = refl;
  done = refl;
  marked = refl;
}

-- the first rows of a grid have no more numbers than all its rows
flat_few : {A : Type 0} (m : ℕ) (g : List (List A)) → length (flat (take m g)) ≤ length (flat g)
flat_few {A} m g = omega (arith, ap (λ (x : List (List A)). length (flat x)) (take-append-drop m g), ap length (flat_append (take m g) (drop m g)), length-append (flat (take m g)) (flat (drop m g)))

module _ {A : Type 0} (g : List ℕ → Fate A) (b : List ℕ) (out₀ out : List A) (ends₀ ends : List ℕ) (i m n : ℕ) (f : Gridding g b out₀ out ends₀ ends i m n) where
  -- the rows of the grid whose inside is b
  abbrev rows_of : List (List A)
  rows_of = values_of (items_in (list_by g) b)

  -- no more numbers were written than the grid has
  inside : n ≤ length (flat rows_of)
  inside = omega (arith, f.so_far, flat_few m rows_of)

  -- the lent numbers are as many as they were, and no fewer than were written
  pub gridding_room : (n ≤ length out) × (length out ≡ length out₀)
  gridding_room =
      let e : length out ≡ length out₀ = ap length f.done ∙ length-append (take n (flat rows_of)) (drop n out₀) ∙ omega (arith, inside, f.room, length-take-le n (flat rows_of) inside, length-drop n out₀) in
      (omega (arith, inside, f.room, e), e)

  module _ (r : Item) (found : ItemAt b (min i (length b)) r) where
    -- the item that was found is the next row's
    here : ItemAt b i r
    here = item_in b i r f.within found

    few_enough : m ≤ length b
    few_enough = omega (arith, f.few, f.within)

    -- the numbers of the next row
    abbrev this_row : List A
    this_row = values_of (list_by g (take (r.stop - r.start) (drop r.start b)))

    -- it reads, and its numbers fit
    pub row_ready : Ready (list_by g (take (r.stop - r.start) (drop r.start b))) (length out - n)
    row_ready = go (list_by g (take (r.stop - r.start) (drop r.start b))) refl
      where
        go : (x : Fate (List A)) → x ≡ list_by g (take (r.stop - r.start) (drop r.start b)) → Ready x (length out - n)
        go (fine v) e =
            let (l, k) = fill_head (list_by g) b i m r here few_enough rows_of f.rest v e in
            let p = part_fits (flat rows_of) out₀ n v (flat l) (numbers_left rows_of m v l k n f.so_far) inside f.room in
            (refl, omega (arith, p, f.room, gridding_room.1))
        go (faulty k o) e = absurd (fill_bad (list_by g) b i m r here few_enough rows_of f.rest k o e)

    -- The code writes the k of them.
    module _ (new : List A) (k : ℕ) (many : k ≡ length this_row) (laid : new ≡ laid_from n this_row out) where
      -- what the row reads as
      row_reads : fine this_row ≡ list_by g (take (r.stop - r.start) (drop r.start b))
      row_reads = sym row_ready.0

      module _ (l : List (List A)) (left : drop m rows_of ≡ this_row ∷ l) where
        -- the numbers are written
        stored : new ≡ take (n + k) (flat rows_of) ++ drop (n + k) out₀
        stored =
            laid ∙ part_store (flat rows_of) out₀ n this_row (flat l) (numbers_left rows_of m this_row l left n f.so_far) inside f.room out f.done
            ∙ ap (λ (d : ℕ). take (n + d) (flat rows_of) ++ drop (n + d) out₀) (sym many)

        -- what is left of the ends
        ends_here : drop m (ends_from 0 rows_of) ≡ (n + k) ∷ ends_from (n + length this_row) l
        ends_here = ends_left rows_of m this_row l left n f.so_far ∙ ap (λ (d : ℕ). (n + d) ∷ ends_from (n + length this_row) l) (sym many)

        -- the row's end too
        ended : set ends m (n + k) ≡ take (m + 1) (ends_from 0 rows_of) ++ drop (m + 1) ends₀
        ended =
            ap (λ (x : List ℕ). set x m (n + k)) f.marked
            ∙ fill_store (ends_from 0 rows_of) ends₀ m (n + k) (ends_from (n + length this_row) l) ends_here (omega (arith, ends_length 0 rows_of, f.rows))

      -- an end is written to a place of the list
      pub row_place : (n + k ≤ length out₀) × ((m < length ends₀) × (length ends ≡ length ends₀))
      row_place =
          let (l, left) = fill_head (list_by g) b i m r here few_enough rows_of f.rest this_row row_reads in
          let p = part_fits (flat rows_of) out₀ n this_row (flat l) (numbers_left rows_of m this_row l left n f.so_far) inside f.room in
          let q : m < length rows_of = omega (arith, ap length left, length-drop m rows_of) in
          let d = length-take-le m (ends_from 0 rows_of) (omega (arith, q, ends_length 0 rows_of)) in (
            omega (arith, p, many, f.room),
            (omega (arith, q, f.rows), ap length f.marked ∙ length-append (take m (ends_from 0 rows_of)) (drop m ends₀) ∙ omega (arith, d, q, f.rows, length-drop m ends₀)),
          )

      -- the last row
      pub row_last : r.bound ≡ length b → (new ≡ filled (flat rows_of) out₀) × (set ends m (n + k) ≡ filled (ends_from 0 rows_of) ends₀)
      unfolding ends_from
      row_last h =
          let left = fill_last (list_by g) b i m r here few_enough rows_of f.rest this_row row_reads h in
          let (x, y) = fill_ends (ends_from 0 rows_of) ends₀ m (n + k) [] (ends_here [] left) (omega (arith, ends_length 0 rows_of, f.rows)) refl in (
            stored [] left ∙ ap (λ (d : ℕ). take (n + d) (flat rows_of) ++ drop (n + d) out₀) many
                ∙ part_ends (flat rows_of) out₀ n this_row [] (numbers_left rows_of m this_row [] left n f.so_far) inside f.room refl,
            ended [] left ∙ x,
          )

      -- another row
      pub row_goes : r.bound < length b → Gridding g b out₀ new ends₀ (set ends m (n + k)) (r.bound + 1) (m + 1) (n + k)
      row_goes h =
          let (left, rest) = fill_more (list_by g) b i m r here few_enough rows_of f.rest this_row row_reads h in
          record {
            few = omega (arith, f.few, here.above);
            within = omega arith;
            room = f.room;
            rows = f.rows;
            rest = rest;
            so_far = ap (λ (d : ℕ). n + d) many ∙ more_numbers rows_of m this_row _ left n f.so_far;
            done = stored _ left;
            marked = ended _ left;
          }
