-- "that two allowed answers coincide is proved": what is told of a counted list is one answer of the code, as error/specs/Only.antt and
-- params/specs/Only.antt have it of the readers of lists, and what they lay into a
-- lent list is one list. Assumes nothing.
use Rattle.std.specs.Prelude.{ℕ, ◌-◌, ◌≤◌, ◌≡◌, refl, List, [], ◌∷◌, map, T, Result, Ok, Err, Float, length, take, drop}
use Rattle.std.proofs.Common.{sym, ◌∙◌, ap, arith, length-drop, length-take-le}
use Rattle.std.specs.Float.{binary64}
use Rattle.std.specs.Float.Ieee.{to_bits, fits}
use Rattle.common.specs.Compare.{clash}
use Rattle.nearest.specs.Only.{bits_only}
use Rattle.lists.specs.declared.Item.{Item}
use Rattle.lists.specs.declared.Shape.{Shape}
use Rattle.lists.specs.declared.Shape.TheVariants.{NotList, Blank, Full}
use Rattle.reals.specs.declared.NotRead.{NotRead}
use Rattle.reals.specs.declared.NotRead.TheVariants as NotReadCode
use Rattle.scalars.specs.Answer.{number_of}
use Rattle.lists.specs.declared.BadItem.{BadItem}
use Rattle.lists.specs.Items.{ItemAt, ShapeAt}
use Rattle.lists.specs.Answer.{told_fate}

-- two places in b from which the same rest goes are one place
rest_place : (b : List ℕ) (i j : ℕ) → i ≤ length b → j ≤ length b → drop i b ≡ drop j b → i ≡ j
rest_place b i j h k e = omega (arith, ap length e, length-drop i b, length-drop j b)

-- `item_at`: at most one item is what it may tell of a place in the list
pub item_told_only : (b : List ℕ) (i : ℕ) (r s : Item) → ItemAt b i r → ItemAt b i s → r ≡ s
item_told_only b i r s h k =
    let x : r.start ≡ s.start = h.begins ∙ sym k.begins in
    let z : r.bound ≡ s.bound = rest_place b r.bound s.bound h.within k.within (h.ends ∙ sym k.ends) in
    let m : length (take (r.stop - r.start) (drop r.start b)) ≡ r.stop - r.start = length-take-le (r.stop - r.start) (drop r.start b) (omega (arith, h.ordered, h.short, h.within, length-drop r.start b)) in
    let n : length (take (s.stop - s.start) (drop s.start b)) ≡ s.stop - s.start = length-take-le (s.stop - s.start) (drop s.start b) (omega (arith, k.ordered, k.short, k.within, length-drop s.start b)) in
    let y : r.stop ≡ s.stop = omega (arith, m, n, ap length (h.text ∙ sym k.text), x, h.ordered, k.ordered) in
    ap (λ (a : ℕ). record { start = a; stop = r.stop; bound = r.bound }) x
    ∙ ap (λ (a : ℕ). record { start = s.start; stop = a; bound = r.bound }) y
    ∙ ap (λ (a : ℕ). record { start = s.start; stop = s.stop; bound = a }) z

-- why an item does not read is told by its number
why_only : (v w : NotRead) → number_of v ≡ number_of w → v ≡ w
why_only NotReadCode.Outside NotReadCode.Outside e = refl
why_only NotReadCode.Outside NotReadCode.NotReal e = absurd (omega arith)
why_only NotReadCode.NotReal NotReadCode.Outside e = absurd (omega arith)
why_only NotReadCode.NotReal NotReadCode.NotReal e = refl

-- `shape_of`: at most one shape is what it may tell of a text
pub shape_only : (t : List ℕ) (a b : Shape) → ShapeAt t a → ShapeAt t b → a ≡ b
shape_only t NotList NotList h k = refl
shape_only t NotList Blank h (b, e, n) = clash (cc)
shape_only t NotList Full h (l, e, n) = clash (cc)
shape_only t Blank NotList (b, e, n) k = clash (cc)
shape_only t Blank Blank h k = refl
shape_only t Blank Full (b, e, n) (l, f, m) = clash (cc)
shape_only t Full NotList (l, e, n) k = clash (cc)
shape_only t Full Blank (l, f, m) (b, e, n) = clash (cc)
shape_only t Full Full h k = refl

-- `count_list`: two answers that tell the same are one, and so of a grid's
pub fate_only : {A : Type 0} (a b : Result A BadItem) → told_fate a ≡ told_fate b → a ≡ b
fate_only (Ok x) (Ok y) e = cc
fate_only (Ok x) (Err d) e = clash (cc)
fate_only (Err c) (Ok y) e = clash (cc)
fate_only (Err c) (Err d) e =
    let n : number_of c.why ≡ number_of d.why = cc in
    let o : c.place ≡ d.place = cc in
    ap (λ (w : NotRead). Err (record { why = w; place = c.place })) (why_only c.why d.why n) ∙ ap (λ (i : ℕ). Err (record { why = d.why; place = i })) o

-- every float of a lent list is an f64, as every value of the type is
abbrev pub AllFit : List Float → Type 0
AllFit [] = Unit {0}
AllFit (x ∷ l) = T (fits binary64 x) × AllFit l

-- a lent list of f64s is fixed by their bits: `read_reals`, `next_f64_list`, `next_real_list`
pub reals_told_only : (l m : List Float) → AllFit l → AllFit m → map (to_bits binary64) l ≡ map (to_bits binary64) m → l ≡ m
reals_told_only [] [] h k e = refl
reals_told_only [] (y ∷ m) h k e = clash (cc)
reals_told_only (x ∷ l) [] h k e = clash (cc)
reals_told_only (x ∷ l) (y ∷ m) (h, i) (k, j) e =
    let a : to_bits binary64 x ≡ to_bits binary64 y = cc in
    let b : map (to_bits binary64) l ≡ map (to_bits binary64) m = cc in
    ap (λ (z : Float). z ∷ l) (bits_only x y h k a) ∙ ap (λ (n : List Float). y ∷ n) (reals_told_only l m i j b)
