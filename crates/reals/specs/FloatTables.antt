-- The tables of floats, each with its rule: one test that antt computes at every entry. Assumes nothing.
use Rattle.std.specs.Prelude.{ℕ, zero, suc, ◌+◌, ◌*◌, ◌%◌, ◌^◌, ◌≤◌, ◌<◌, ◌≡◌, Bool, true, false, ◌&&◌, cond, List, [], ◌∷◌, T, eqb, ltb, leb, length, get_or, Float}
use Rattle.std.proofs.Common.{sym, ◌∙◌, ap, subst, add-zero, zero-add, add-suc, suc-add, le_of_suc-le-suc, not-suc-le-zero, arith, lt-ltb, leb-true, eqb→eq, ltb→lt}
use Rattle.std.proofs.lemmas.Bool.{lt-leb}
use Rattle.std.specs.Float.{nan, binary64}
use Rattle.std.specs.Float.Ieee.{of_bits, to_bits}
use Rattle.std.specs.Float.Ieee.Fits.{and_l, and_r}
use Rattle.common.specs.Tests.{both}
use Rattle.nearest.specs.PatternUnits.{pattern_units, infinity}
use Rattle.nearest.specs.Product.{worth_of, finite, infinite, none, negative}

-- the test f passes at each entry of the list and its place, counted from i
abbrev pub every_float : (ℕ → Float → Bool) → ℕ → List Float → Bool
every_float f i [] = true
every_float f i (x ∷ xs) = f i x && every_float f (suc i) xs

-- a test that passes at each entry of a table, counted from i, passes at entry k
from : (f : ℕ → Float → Bool) (xs : List Float) (i : ℕ) → T (every_float f i xs) → (k : ℕ) → k < length xs → T (f (i + k) (get_or xs k nan))
from f [] i t k h = absurd (not-suc-le-zero h)
from f (x ∷ xs) i t zero h = subst (λ (m : ℕ). T (f m x)) (sym (add-zero i)) (and_l (f i x) (every_float f (suc i) xs) t)
from f (x ∷ xs) i t (suc k) h =
    subst (λ (m : ℕ). T (f m (get_or xs k nan))) (suc-add i k ∙ sym (add-suc i k))
    (from f xs (suc i) (and_r (f i x) (every_float f (suc i) xs) t) k (le_of_suc-le-suc h))

-- a test that passes at each entry of a table passes at entry k
pub float_passes : (f : ℕ → Float → Bool) (xs : List Float) → T (every_float f 0 xs) → (k : ℕ) → k < length xs → T (f k (get_or xs k nan))
float_passes f xs t k h = subst (λ (m : ℕ). T (f m (get_or xs k nan))) (zero-add k) (from f xs 0 t k h)

-- ---- powers of ten that an f64 holds exactly
-- the table of 10^0 to 10^22, by their patterns
abbrev pub powers : List Float
powers =
    of_bits binary64 4607182418800017408
    ∷ of_bits binary64 4621819117588971520
    ∷ of_bits binary64 4636737291354636288
    ∷ of_bits binary64 4652007308841189376
    ∷ of_bits binary64 4666723172467343360
    ∷ of_bits binary64 4681608360884174848
    ∷ of_bits binary64 4696837146684686336
    ∷ of_bits binary64 4711630319722168320
    ∷ of_bits binary64 4726483295884279808
    ∷ of_bits binary64 4741671816366391296
    ∷ of_bits binary64 4756540486875873280
    ∷ of_bits binary64 4771362005757984768
    ∷ of_bits binary64 4786511204640096256
    ∷ of_bits binary64 4801453603149578240
    ∷ of_bits binary64 4816244402031689728
    ∷ of_bits binary64 4831355200913801216
    ∷ of_bits binary64 4846369599423283200
    ∷ of_bits binary64 4861130398305394688
    ∷ of_bits binary64 4876203697187506176
    ∷ of_bits binary64 4891288408196988160
    ∷ of_bits binary64 4906019910204099648
    ∷ of_bits binary64 4921056587992461136
    ∷ of_bits binary64 4936209963552724370
    ∷ []

-- the test of the table of powers at entry k: it is worth 10 ^ k, and finite
abbrev is_power : ℕ → Float → Bool
is_power k x = eqb (pattern_units (to_bits binary64 x)) (10 ^ k * 2 ^ 1074) && ltb (to_bits binary64 x) infinity

-- every entry of the table of powers is worth its power
all_powers : T (every_float is_power 0 powers)
unfolding to_bits of_bits pattern_units
all_powers = tt

-- a finite pattern without a sign is worth its units, and is positive
plain : (p a : ℕ) → pattern_units p ≡ a → p < infinity → worth_of p ≡ finite false a
unfolding worth_of
plain p a e l =
    let m : p % 2 ^ 63 ≡ p = omega arith in
    let g : p < 2 ^ 63 = omega arith in
    ap (λ (r : ℕ). cond (ltb r infinity) (finite (negative p) (pattern_units r)) (cond (eqb r infinity) (infinite (negative p)) none)) m
    ∙ rw (lt-ltb p infinity l, lt-leb (2 ^ 63) p g) (ap (finite false) e)

-- entry k of the table of powers is worth 10 ^ k exactly
pub power_worth : (k : ℕ) → k < 23 → worth_of (to_bits binary64 (get_or powers k nan)) ≡ finite false (10 ^ k * 2 ^ 1074)
power_worth k h =
    let x = get_or powers k nan in
    let t = float_passes is_power powers all_powers k h in
    let A = eqb (pattern_units (to_bits binary64 x)) (10 ^ k * 2 ^ 1074) in
    let B = ltb (to_bits binary64 x) infinity in
    plain (to_bits binary64 x) (10 ^ k * 2 ^ 1074) (eqb→eq (pattern_units (to_bits binary64 x)) (10 ^ k * 2 ^ 1074) (and_l A B t)) (ltb→lt (to_bits binary64 x) infinity (and_r A B t))

-- the short path's test: the number and the power of ten are f64s
pub short_path : (m k : ℕ) → leb m (2 ^ 53) && leb k 22 ≡ true → (m ≤ 2 ^ 53) × (k < 23)
short_path m k e = let (p, q) = both (leb m (2 ^ 53)) (leb k 22) e in let l = leb-true k 22 q in (leb-true m (2 ^ 53) p, omega arith)
