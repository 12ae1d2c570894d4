-- What `near` computes is a nearest pattern (`near_is`), and the only one (`near_only`). `near_digits` is the law from which each way of
-- computing it follows: whatever digits are kept, twice the rest against the divisor decides. Assumes nothing.
use Prim.Native.Nat.{ℕ, ◌+◌, ◌-◌, ◌*◌, ◌/◌, ◌%◌, ◌^◌, ◌≤◌, ◌<◌, min, compare}
use Rattle.std.specs.Prelude.{◌≡◌, ◌⊎◌}
use Rattle.std.proofs.Common.{sym, ◌∙◌, ap, subst, mul-pos, mul_assoc, mul_right_comm, div-add-mod', mod-lt, pow_pos}
use Rattle.std.proofs.Math.Nat.{div-div-eq-div-mul}
use Rattle.std.specs.Float.Ieee.{size, nearest}
use Rattle.std.specs.Float.Ieee.Fits.{kept-lt}
use Rattle.std.specs.Float.Ieee.Nearest.{div_same, closest_same}
use Rattle.nearest.specs.PatternUnits.{infinity}
use Rattle.nearest.specs.Nearest.{NearestTo, IsNearest}
use Rattle.nearest.specs.NearestRight.{nearest_only}
use Rattle.nearest.specs.Near.{dropped, pattern_at, near_units, near, digits_nearest, lead_kept}

-- what `near_units` computes is the nearest pattern to n / den units
near_units_is : (n den : ℕ) → 0 < den → NearestTo n den (near_units n den)
unfolding near_units
near_units_is n den dp =
    let k = dropped n den in
    let u = den * 2 ^ k in
    let e : n / u ≡ n / den / 2 ^ k = sym (div-div-eq-div-mul n den (2 ^ k)) in
    digits_nearest n den k (n / u) (n % u) dp (div-add-mod' n u) (mod-lt n (mul-pos dp (pow_pos k)))
    (subst (λ (x : ℕ). x < 2 ^ 53) (sym e) (kept-lt 53 (n / den)))
    (subst (λ (x : ℕ). (k ≡ 0) ⊎ (2 ^ 52 ≤ x)) (sym e) (lead_kept (n / den)))

-- ---- the theorems
-- what `near` computes is the nearest pattern to num / den
pub near_is : (num den : ℕ) → 0 < den → IsNearest num den (near num den)
unfolding near
near_is num den dp = near_units_is (num * 2 ^ 1074) den dp

-- no pattern but what `near` computes is the nearest to num / den
pub near_only : (num den b : ℕ) → 0 < den → IsNearest num den b → b ≡ near num den
near_only num den b dp h = nearest_only (num * 2 ^ 1074) den dp b (near num den) h (near_is num den dp)

-- num / den has the digits q at 2 ^ k units and r left over: how twice r compares with the divisor tells what `near` gives
pub near_digits : (num den k q r : ℕ) → 0 < den → q * (den * 2 ^ k) + r ≡ num * 2 ^ 1074 → r < den * 2 ^ k → q < 2 ^ 53 → (k ≡ 0) ⊎ (2 ^ 52 ≤ q) → near num den ≡ min infinity (k * 2 ^ 52 + nearest q (compare (r * 2) (den * 2 ^ k)))
near_digits num den k q r dp s rl qk l =
    sym (near_only num den (min infinity (k * 2 ^ 52 + nearest q (compare (r * 2) (den * 2 ^ k)))) dp (digits_nearest (num * 2 ^ 1074) den k q r dp s rl qk l))

-- equal fractions have one nearest pattern
pub near_same : (a b c d : ℕ) → 0 < b → 0 < d → a * d ≡ c * b → near a b ≡ near c d
unfolding near near_units
near_same a b c d bp dp e =
    let m : a * 2 ^ 1074 * d ≡ c * 2 ^ 1074 * b = mul_right_comm a (2 ^ 1074) d ∙ ap (λ (x : ℕ). x * 2 ^ 1074) e ∙ mul_right_comm c b (2 ^ 1074) in
    same_at (a * 2 ^ 1074) b (c * 2 ^ 1074) d bp dp m
  where
    same_at : (x b y d : ℕ) → 0 < b → 0 < d → x * d ≡ y * b → pattern_at x b (dropped x b) ≡ pattern_at y d (dropped y d)
    same_at x b y d bp dp m =
        let k = dropped y d in
        let f : x * (d * 2 ^ k) ≡ y * (b * 2 ^ k) = sym (mul_assoc x d (2 ^ k)) ∙ ap (λ (z : ℕ). z * 2 ^ k) m ∙ mul_assoc y b (2 ^ k) in
        ap (λ (z : ℕ). pattern_at x b (size z - 53)) (div_same x b y d bp dp m)
        ∙ ap (λ (z : ℕ). min infinity (k * 2 ^ 52 + z)) (closest_same x (b * 2 ^ k) y (d * 2 ^ k) (mul-pos bp (pow_pos k)) (mul-pos dp (pow_pos k)) f)
