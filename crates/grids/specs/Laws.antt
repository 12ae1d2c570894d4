-- The answers of the readers of grids, put together from what the code's parts promise. Assumes nothing.
use Rattle.std.specs.Prelude.{ℕ, suc, ◌+◌, ◌-◌, ◌≤◌, ◌≡◌, Bool, true, false, ◌&&◌, List, [], ◌∷◌, ◌++◌, Result, map, leb, length, take, drop}
use Rattle.std.proofs.Math.Path.{refl}
use Rattle.std.proofs.Common.{sym, ◌∙◌, ap, arith, length-append, leb-true}
use Rattle.error.specs.Refusal.{Refusal, Told, good, bad, told_result}
use Rattle.error.specs.declared.Fault.{Fault}
use Rattle.params.specs.Reader.{param_of}
use Rattle.params.specs.Answer.{reading, Span}
use Rattle.lists.specs.Items.{items_in, list_by, filled, ShapeAt}
use Rattle.lists.specs.Answer.{Fate, fine, faulty, fated, mute, kind_of, roomed, next_by, written, values_of}
use Rattle.lists.specs.Laws.{tally, list_blank, shape_blank}
use Rattle.lists.specs.ReadLaws.{fills_none, fills_full, list_map, count_mute, roomed_told, roomed_good, onward_bad, next_uncut, next_cut}
use Rattle.lists.specs.Places.{Inward, place_of, list_inward, roomed_inward, told_inward, told_place, kind_inward, items_inward}
use Rattle.lists.specs.Lent.{item_value}
use Rattle.lists.specs.declared.Kind.{Kind}
use Rattle.lists.specs.declared.Kind.TheVariants.{References, Integers, Floats, Any}
use Rattle.lists.specs.declared.Shape.{Shape}
use Rattle.lists.specs.declared.Shape.TheVariants.{NotList, Blank, Full}
use Rattle.grids.specs.Grid.{Size, size, size_of, size_fits, grid_fits, flat, ends_from, how_large, numbers_of, ends_of, add_row, row_of}
use Rattle.grids.specs.Code.{size_told, GridReady}

-- a size into which rows are taken by their lengths has so many rows and so many numbers more
tally_rows : {A : Type 0} (s : Size) (g : List (List A)) → tally add_row s (map length g) ≡ size (s.rows + length g) (s.numbers + length (flat g))
tally_rows s [] =
    let e : s.rows ≡ s.rows + 0 = omega arith in
    let f : s.numbers ≡ s.numbers + 0 = omega arith in
    ap (λ (r : ℕ). size r s.numbers) e ∙ ap (λ (n : ℕ). size (s.rows + 0) n) f
tally_rows s (r ∷ g) =
    let e : s.rows + 1 + length g ≡ s.rows + suc (length g) = omega arith in
    let f : s.numbers + length r + length (flat g) ≡ s.numbers + length (r ++ flat g) = omega (arith, length-append r (flat g)) in
    tally_rows (add_row s (length r)) g ∙ ap (λ (k : ℕ). size k (s.numbers + length r + length (flat g))) e ∙ ap (λ (n : ℕ). size (s.rows + suc (length g)) n) f

-- a grid's size, counted row by row whatever its items read as, is that of the grid that is read
pub size_told_lem : {A : Type 0} (g : List ℕ → Fate A) (t : List ℕ)
    → fated (tally add_row (size 0 0)) (list_by (λ u. fated length (list_by (λ v. mute (g v)) u)) t) ≡ fated size_of (list_by (list_by g) t)
size_told_lem {A} g t =
    ap (λ (f : List ℕ → Fate ℕ). fated (tally add_row (size 0 0)) (list_by f t)) (λ i u. count_mute g u i)
    ∙ ap (fated (tally add_row (size 0 0))) (sym (list_map length (list_by g) t)) ∙ go (list_by (list_by g) t)
  where
    go : (x : Fate (List (List A))) → fated (tally add_row (size 0 0)) (fated (map length) x) ≡ fated size_of x
    go (fine rs) =
        let e : 0 + length rs ≡ length rs = omega arith in
        let f : 0 + length (flat rs) ≡ length (flat rs) = omega arith in
        ap fine (tally_rows (size 0 0) rs ∙ ap (λ (k : ℕ). size k (0 + length (flat rs))) e ∙ ap (λ (n : ℕ). size (length rs) n) f)
    go (faulty n o) = refl

-- the same by the kind of its items
size_valued : (kind : Kind) (t : List ℕ) → fated (tally add_row (size 0 0)) (list_by (row_of kind) t) ≡ fated size_of (list_by (list_by (item_value kind)) t)
size_valued References t = size_told_lem (item_value References) t
size_valued Integers t = size_told_lem (item_value Integers) t
size_valued (Floats which) t = size_told_lem (item_value (Floats which)) t
size_valued Any t = size_told_lem (item_value Any) t

-- what is told of a grid that starts at o, from its size
pub grid_told : (kind : Kind) (t : List ℕ) (room ends o : ℕ) (a : Told Size) → a ≡ roomed (size_fits room ends) o (fated (tally add_row (size 0 0)) (list_by (row_of kind) t))
    → a ≡ size_told (roomed (grid_fits room ends) o (list_by (list_by (item_value kind)) t))
grid_told kind t room ends o a e = e ∙ ap (roomed (size_fits room ends) o) (size_valued kind t) ∙ roomed_told size_of (size_fits room ends) o (list_by (list_by (item_value kind)) t)

-- where two tests put together by `&&` hold, both hold
and_true : (a b : Bool) → a && b ≡ true → (a ≡ true) × (b ≡ true)
and_true true true h = (refl, refl)
and_true true false h = (refl, h)
and_true false true h = (h, refl)
and_true false false h = (h, h)

module _ {A : Type 0} (x : Fate (List (List A))) (room ends o : ℕ) where
  -- there is room for a grid whose size is told
  pub grid_fits_lem : (s : Size) → good s ≡ size_told (roomed (grid_fits room ends) o x) → GridReady x room ends
  grid_fits_lem s e =
      let (g, k, l, r) = roomed_good size_of (grid_fits room ends) o x s e in
      let (m, n) = and_true (leb (length (flat g)) room) (leb (length g) ends) l in
      rw k (refl, leb-true (length (flat g)) room m, leb-true (length g) ends n)

  -- a grid whose size is told is written: its numbers and its row ends
  pub grid_written : (s : Size) (out w : List A) (marks m : List ℕ) → good s ≡ size_told (roomed (grid_fits room ends) o x) → w ≡ filled (flat (values_of x)) out → m ≡ filled (ends_from 0 (values_of x)) marks
      → (w ≡ written (numbers_of (roomed (grid_fits room ends) o x)) out) × (m ≡ written (ends_of (roomed (grid_fits room ends) o x)) marks)
  grid_written s out w marks m e h l = let (g, k, n, r) = roomed_good size_of (grid_fits room ends) o x s e in (rw r (rw k at h), rw r (rw k at l))

  -- a grid that is refused leaves the lent numbers and row ends as they were
  pub grid_refused : (q : Refusal) (out : List A) (marks : List ℕ) → bad q ≡ size_told (roomed (grid_fits room ends) o x)
      → (out ≡ written (numbers_of (roomed (grid_fits room ends) o x)) out) × (marks ≡ written (ends_of (roomed (grid_fits room ends) o x)) marks)
  grid_refused q out marks e = let k = onward_bad size_of (roomed (grid_fits room ends) o x) q e in (rw k refl, rw k refl)

-- What a grid that reads writes, by what its text is.
module _ {A : Type 0} (g : List ℕ → Fate A) (t : List ℕ) (r : Shape) (h : ShapeAt t r) where
  -- a text that reads as a grid is not told to be no list
  pub grid_none : (room ends : ℕ) → GridReady (list_by (list_by g) t) room ends → r ≡ NotList → ⊥
  grid_none room ends (k, l, m) e = fills_none (list_by g) t r h ends (k, m) e

  -- a grid without rows leaves the lent numbers and row ends as they were
  pub grid_blank : (out : List A) (marks : List ℕ) → r ≡ Blank → (out ≡ filled (flat (values_of (list_by (list_by g) t))) out) × (marks ≡ filled (ends_from 0 (values_of (list_by (list_by g) t))) marks)
  unfolding ends_from
  grid_blank out marks e = let (b, f, o) = shape_blank t r h e in let q = list_blank (list_by g) t b f o in (rw (← q) refl, rw (← q) refl)

  -- the rows of a grid that has rows are the items between its parentheses, and there is room for them
  pub grid_full : (room ends : ℕ) → GridReady (list_by (list_by g) t) room ends → r ≡ Full
      → (values_of (list_by (list_by g) t) ≡ values_of (items_in (list_by g) (take (length t - 1 - 1) (drop 1 t))))
      × GridReady (items_in (list_by g) (take (length t - 1 - 1) (drop 1 t))) room ends
  grid_full room ends (k, l, m) e = let (x, y) = fills_full (list_by g) t r h ends (k, m) e in (x, (y.0, rw x at l, y.1))

-- The answer's three parts: its size, the numbers and the row ends.
module _ {A : Type 0} (g : List ℕ → Fate (List (List A))) (out : List A) (marks : List ℕ) (room ends : ℕ) (s : List ℕ) (p e : ℕ) where
  -- where no parameter is cut, a reader of grids answers the cut's refusal, and both lent lists stay as they were
  pub grids_uncut : (q : Refusal) (p' e' : ℕ) → reading (bad q) p' e' ≡ param_of s p e
      → (reading (bad q) p' e' ≡ how_large (next_by g (grid_fits room ends) s p e)) × ((out ≡ written (numbers_of (next_by g (grid_fits room ends) s p e).answer) out) × (marks ≡ written (ends_of (next_by g (grid_fits room ends) s p e).answer) marks))
  grids_uncut q p' e' h = let k = next_uncut g (grid_fits room ends) s p e q p' e' h in (rw (← k) refl, (rw (← k) refl, rw (← k) refl))

  -- where a parameter is cut, a reader of grids answers what its text's grid tells, and writes what that writes
  pub grids_cut : (w : Span) (p' e' : ℕ) → reading (good w) p' e' ≡ param_of s p e → (r : Told Size) (v : List A) (m : List ℕ) → r ≡ size_told (roomed (grid_fits room ends) w.start (g (take (w.stop - w.start) (drop w.start s))))
      → v ≡ written (numbers_of (roomed (grid_fits room ends) w.start (g (take (w.stop - w.start) (drop w.start s))))) out → m ≡ written (ends_of (roomed (grid_fits room ends) w.start (g (take (w.stop - w.start) (drop w.start s))))) marks
      → (reading r p' e' ≡ how_large (next_by g (grid_fits room ends) s p e)) × ((v ≡ written (numbers_of (next_by g (grid_fits room ends) s p e).answer) out) × (m ≡ written (ends_of (next_by g (grid_fits room ends) s p e).answer) marks))
  grids_cut w p' e' h r v m k l n =
      let c = next_cut g (grid_fits room ends) s p e w p' e' h in
      (rw (← c) (ap (λ (y : Told Size). reading y p' e') k), (rw (← c) l, rw (← c) n))

-- the fault of a row of a kind lies in its text
pub row_inward : (kind : Kind) → Inward (row_of kind)
row_inward kind = told_inward length (list_by (kind_of kind)) (list_inward (kind_of kind) (kind_inward kind))

-- so has a grid's inside
pub tally_inward : (kind : Kind) (b : List ℕ) (n o : ℕ) → faulty n o ≡ fated (tally add_row (size 0 0)) (items_in (row_of kind) b) → o ≤ length b
tally_inward kind b n o e =
    told_place (tally add_row (size 0 0)) (items_in (row_of kind) b) n o (length b) e
    (omega (arith, items_inward (row_of kind) (row_inward kind) (suc (length b)) 0 b))

-- so has a grid, while it is counted
pub counted_inward : (kind : Kind) (t : List ℕ) (n o : ℕ) → faulty n o ≡ fated (tally add_row (size 0 0)) (list_by (row_of kind) t) → o ≤ length t
counted_inward kind t n o e = told_place (tally add_row (size 0 0)) (list_by (row_of kind) t) n o (length t) e (list_inward (row_of kind) (row_inward kind) t)

-- the place that the code tells of a grid's text, which stands at o, lies in that text
pub grid_inward : {A : Type 0} (g : List ℕ → Fate (List (List A))) → Inward g → (fits : List (List A) → Bool) (o : ℕ) (t : List ℕ) (r : Result Size Fault) → told_result r ≡ size_told (roomed fits o (g t)) → place_of (told_result r) ≤ o + length t
grid_inward {A} g inward fits o t r e = omega (arith, ap place_of e, size_place (roomed fits o (g t)), roomed_inward g inward fits o t)
  where
    size_place : (x : Told (List (List A))) → place_of (size_told x) ≡ place_of x
    size_place (good rs) = refl
    size_place (bad q) = refl
