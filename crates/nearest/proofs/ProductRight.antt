-- The language's `*` and `/` give the products and quotients of Product.antt (`mul_bits`, `div_bits`), and these are the nearest patterns to the exact results.
-- Assumes nothing.
use Rattle.std.specs.Prelude.{ℕ, zero, suc, ◌*◌, ◌^◌, ◌<◌, ◌≡◌, Bool, false, cond, T, eqb, Float}
use Rattle.std.proofs.Common.{◌∙◌, ap, mul-one, mul-pos, mul_assoc, mul_right_comm, arith, ne_eqb, pow_pos}
use Rattle.std.specs.Float.{binary64}
use Rattle.std.specs.Float.Ieee.{up, down, unlike, round, mul, div, fits, to_bits}
use Rattle.std.specs.Float.Ieee.Fits.{up_pos, down_pos}
use Rattle.nearest.specs.PatternUnits.{infinity}
use Rattle.nearest.specs.Nearest.{IsNearest, signed}
use Rattle.nearest.specs.Near.{near}
use Rattle.nearest.proofs.Near.{near_is, near_same}
use Rattle.nearest.specs.Round.{to_bits_inf}
use Rattle.nearest.proofs.Round.{round_near}
use Rattle.nearest.specs.Product.{Worth, finite, worth_of, quiet, times_of, over_of, product, quotient}
use Rattle.nearest.specs.ProductRight.{Like, like_nan, like_inf, like_fin, like_own, zero_both, swap_middle, cross, ratio, to_bits_nan, to_bits_zero, inf_or_nan, over_cases, as_first, some}

-- the language's product of two values is the product of what they stand for
mul_like : (x y : Float) (a b : Worth) → Like x a → Like y b → to_bits binary64 (mul binary64 x y) ≡ times_of a b
unfolding mul
mul_like x y a b like_nan w = to_bits_nan
mul_like x y a b like_inf like_nan = to_bits_nan
mul_like x y a b (like_inf {s = s}) (like_inf {s = t}) = to_bits_inf (unlike s t)
mul_like x y a b (like_inf {s = s}) (like_fin {s = t} {m = n} {e = d} {a = u} f) =
    inf_or_nan (eqb n 0) (eqb u 0) (unlike s t) (zero_both n (up d) u (down d) (up_pos d) (down_pos d) f)
mul_like x y a b (like_fin e) like_nan = to_bits_nan
mul_like x y a b (like_fin {s = s} {m = m} {e = d} {a = u} f) (like_inf {s = t}) =
    inf_or_nan (eqb m 0) (eqb u 0) (unlike s t) (zero_both m (up d) u (down d) (up_pos d) (down_pos d) f)
mul_like x y a b (like_fin {s = s} {m = m} {e = d} {a = u} f) (like_fin {s = t} {m = n} {e = k} {a = v} g) =
    round_near (unlike s t) (m * up d * (n * up k)) (down d * down k)
    ∙ ap (signed (unlike s t))
    (near_same (m * up d * (n * up k)) (down d * down k) (u * v) (2 ^ 1074 * 2 ^ 1074)
    (mul-pos (down_pos d) (down_pos k))
    (mul-pos (pow_pos 1074) (pow_pos 1074))
    (cross (m * up d) (n * up k) (2 ^ 1074) (2 ^ 1074) u v (down d) (down k) f g))

-- the language's quotient of two values is the quotient of what they stand for
div_like : (x y : Float) (a b : Worth) → Like x a → Like y b → to_bits binary64 (div binary64 x y) ≡ over_of a b
unfolding div
div_like x y a b like_nan w = to_bits_nan
div_like x y a b like_inf like_nan = to_bits_nan
div_like x y a b (like_inf {s = s}) (like_inf {s = t}) = to_bits_nan
div_like x y a b (like_inf {s = s}) (like_fin {s = t} f) = to_bits_inf (unlike s t)
div_like x y a b (like_fin e) like_nan = to_bits_nan
div_like x y a b (like_fin {s = s} f) (like_inf {s = t}) = to_bits_zero (unlike s t)
div_like x y a b (like_fin {s = s} {m = m} {e = d} {a = u} f) (like_fin {s = t} {m = n} {e = k} {a = v} g) =
    over_cases (eqb n 0) (eqb m 0) (eqb v 0) (eqb u 0) (unlike s t) (round binary64 (unlike s t) (m * up d * down k) (n * up k * down d)) (signed (unlike s t) (near u v))
    (zero_both n (up k) v (down k) (up_pos k) (down_pos k) g)
    (zero_both m (up d) u (down d) (up_pos d) (down_pos d) f)
    (λ z.
    round_near (unlike s t) (m * up d * down k) (n * up k * down d)
    ∙ ap (signed (unlike s t))
    (near_same (m * up d * down k) (n * up k * down d) u v
    (mul-pos (mul-pos (not_zero n (zero_both n (up k) v (down k) (up_pos k) (down_pos k) g ∙ z)) (up_pos k)) (down_pos d))
    (not_zero v z)
    (ratio (m * up d) (n * up k) (2 ^ 1074) u v (down d) (down k) (pow_pos 1074) f g)))
  where
    not_zero : (n : ℕ) → eqb n 0 ≡ false → 0 < n
    not_zero zero e = let q : ◌≡◌ {A = ℕ} 0 1 = cc in absurd (omega arith)
    not_zero (suc n) e = omega arith

-- the language's `*` gives the pattern that `product` does
pub mul_bits : (x y : Float) → T (fits binary64 x) → T (fits binary64 y) → to_bits binary64 (mul binary64 x y) ≡ product (to_bits binary64 x) (to_bits binary64 y)
mul_bits x y h k = mul_like x y (worth_of (to_bits binary64 x)) (worth_of (to_bits binary64 y)) (like_own x h) (like_own y k)

-- the language's `/` gives the pattern that `quotient` does
pub div_bits : (x y : Float) → T (fits binary64 x) → T (fits binary64 y) → to_bits binary64 (div binary64 x y) ≡ quotient (to_bits binary64 x) (to_bits binary64 y)
div_bits x y h k = div_like x y (worth_of (to_bits binary64 x)) (worth_of (to_bits binary64 y)) (like_own x h) (like_own y k)

-- the product of two whole numbers is the nearest pattern to the exact product, with the first one's sign
pub product_exact : (p q : ℕ) (s : Bool) (a b : ℕ) → worth_of p ≡ finite s (a * 2 ^ 1074) → worth_of q ≡ finite false (b * 2 ^ 1074) → product p q ≡ signed s (near (a * b) 1)
product_exact p q s a b e f =
    ap (λ (w : Worth). times_of w (worth_of q)) e
    ∙ ap (times_of (finite s (a * 2 ^ 1074))) f
    ∙ ap (λ (t : Bool). signed t (near (a * 2 ^ 1074 * (b * 2 ^ 1074)) (2 ^ 1074 * 2 ^ 1074))) (as_first s)
    ∙ ap (signed s)
    (near_same (a * 2 ^ 1074 * (b * 2 ^ 1074)) (2 ^ 1074 * 2 ^ 1074) (a * b) 1 (mul-pos (pow_pos 1074) (pow_pos 1074)) (pow_pos 0)
    (mul-one (a * 2 ^ 1074 * (b * 2 ^ 1074)) ∙ swap_middle a (2 ^ 1074) b (2 ^ 1074)))

-- the quotient of two whole numbers is the nearest pattern to their fraction, with the first one's sign
pub quotient_exact : (p q : ℕ) (s : Bool) (a b : ℕ) → 0 < b → worth_of p ≡ finite s (a * 2 ^ 1074) → worth_of q ≡ finite false (b * 2 ^ 1074) → quotient p q ≡ signed s (near a b)
quotient_exact p q s a b bp e f =
    let d = b * 2 ^ 1074 in
    let dp : 0 < b * 2 ^ 1074 = mul-pos bp (pow_pos 1074) in
    ap (λ (w : Worth). over_of w (worth_of q)) e
    ∙ ap (over_of (finite s (a * 2 ^ 1074))) f
    ∙ ap (λ (z : Bool). cond z (cond (eqb (a * 2 ^ 1074) 0) quiet (signed (unlike s false) infinity)) (signed (unlike s false) (near (a * 2 ^ 1074) (b * 2 ^ 1074)))) (ne_eqb (b * 2 ^ 1074) 0 (some (b * 2 ^ 1074) dp))
    ∙ ap (λ (t : Bool). signed t (near (a * 2 ^ 1074) (b * 2 ^ 1074))) (as_first s)
    ∙ ap (signed s) (near_same (a * 2 ^ 1074) (b * 2 ^ 1074) a b dp bp (mul_right_comm a (2 ^ 1074) b ∙ mul_assoc a b (2 ^ 1074)))

-- the product of numbers of a and b units is the nearest pattern to the exact product, negative where just one of them is
pub product_nearest : (p q : ℕ) (s t : Bool) (a b : ℕ) → worth_of p ≡ finite s a → worth_of q ≡ finite t b
    → (c : ℕ) × (product p q ≡ signed (unlike s t) c) × IsNearest (a * b) (2 ^ 1074 * 2 ^ 1074) c
product_nearest p q s t a b e f = (
  near (a * b) (2 ^ 1074 * 2 ^ 1074),
  ap (λ (w : Worth). times_of w (worth_of q)) e ∙ ap (times_of (finite s a)) f,
  near_is (a * b) (2 ^ 1074 * 2 ^ 1074) (mul-pos (pow_pos 1074) (pow_pos 1074)),
)

-- the quotient of numbers of a and b units, b not zero, is the nearest pattern to a / b, negative where just one of them is
pub quotient_nearest : (p q : ℕ) (s t : Bool) (a b : ℕ) → 0 < b → worth_of p ≡ finite s a → worth_of q ≡ finite t b
    → (c : ℕ) × (quotient p q ≡ signed (unlike s t) c) × IsNearest a b c
quotient_nearest p q s t a b bp e f = (
  near a b,
  ap (λ (w : Worth). over_of w (worth_of q)) e
      ∙ ap (over_of (finite s a)) f
      ∙ ap (λ (z : Bool). cond z (cond (eqb a 0) quiet (signed (unlike s t) infinity)) (signed (unlike s t) (near a b))) (ne_eqb b 0 (some b bp)),
  near_is a b bp,
)
