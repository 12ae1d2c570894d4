-- Where the digits need not be read: the decimals so small that 0 is nearest (`far_zero` of proofs/Far.antt), and so large that infinity is. Assumes nothing.
use Rattle.std.specs.Prelude.{ℕ, zero, suc, ◌+◌, ◌-◌, ◌*◌, ◌^◌, ◌≤◌, ◌<◌, ◌≡◌, refl}
use Rattle.std.proofs.Common.{sym, ◌∙◌, ap, subst, le_trans, mul_assoc, mul-le-mul, mul-le-mul_left, mul-le-mul_right, one-mul, arith, leb-true, pow-add}
use Rattle.std.proofs.Math.Nat.{le_of_mul-le-mul_left, pow-le-pow_right, pow-succ'}
use Rattle.nearest.specs.PatternUnits.{infinity}
use Rattle.nearest.specs.Near.{near}
use Rattle.nearest.proofs.Borders.{near_infinity}
use Rattle.nearest.specs.PowerLaws.{ten_pos}

-- the power of ten from which on down a decimal is a zero: 10 ^ -324 is below half the least f64
abbrev pub vanishing_power : ℕ
vanishing_power = 324

-- the border of infinity is below 10 ^ 309
infinity_border : (2 ^ 54 - 1) * 2 ^ 970 ≤ 10 ^ 309
infinity_border = leb-true ((2 ^ 54 - 1) * 2 ^ 970) (10 ^ 309) refl

-- a number of n digits that is a tenth of 10 ^ n or more, divided by less than 10 ^ (n - 309), has the nearest f64 infinity
pub far_infinity : (num n k : ℕ) → 10 ^ n ≤ 10 * num → k + 309 < n → near num (10 ^ k) ≡ infinity
far_infinity num n k l h =
    let a : 10 ^ (k + 309) ≤ num =
    le_of_mul-le-mul_left {k = 10} (le_trans (subst (λ (x : ℕ). x ≤ 10 ^ n) (pow-succ' 10 (k + 309)) (pow-le-pow_right {n = 10} (omega arith) {i = suc (k + 309)} {j = n} h)) l) (omega arith) in
    near_infinity num (10 ^ k) (ten_pos k) (le_trans (mul-le-mul_left (10 ^ k) infinity_border) (subst (λ (x : ℕ). x ≤ num) (pow-add 10 k 309) a))

-- a number of n digits that is a tenth of 10 ^ n or more, times 10 ^ k, is infinity where n + k is above 309
pub high_infinity : (num n k : ℕ) → 10 ^ n ≤ 10 * num → 309 < n + k → near (num * 10 ^ k) 1 ≡ infinity
high_infinity num n k l h =
    let a : 10 * 10 ^ 309 ≤ 10 ^ (n + k) = pow-le-pow_right {n = 10} (omega arith) {i = 310} {j = n + k} h in
    let b : 10 ^ (n + k) ≤ 10 * (num * 10 ^ k) = subst (λ (x : ℕ). 10 ^ (n + k) ≤ x) (mul_assoc 10 num (10 ^ k)) (subst (λ (x : ℕ). x ≤ 10 * num * 10 ^ k) (sym (pow-add 10 n k)) (mul-le-mul_right (10 ^ k) l)) in
    let c : 10 ^ 309 ≤ num * 10 ^ k = le_of_mul-le-mul_left {m = 10 ^ 309} {n = num * 10 ^ k} {k = 10} (le_trans a b) (omega arith) in
    near_infinity (num * 10 ^ k) 1 (omega arith) (subst (λ (x : ℕ). x ≤ num * 10 ^ k) (sym (one-mul ((2 ^ 54 - 1) * 2 ^ 970))) (le_trans infinity_border c))

-- a `u64` has 20 digits at most
pub word_lt : (m : ℕ) → m < 2 ^ 64 → m < 10 ^ 20
word_lt m h = omega arith

-- 5 ^ k is at most 2 ^ (3 k)
five_le : (k : ℕ) → 5 ^ k ≤ 2 ^ (3 * k)
five_le zero = omega arith
five_le (suc k) =
    let e : 3 * suc k ≡ 3 + 3 * k = omega arith in
    let p : 2 ^ (3 * suc k) ≡ 8 * 2 ^ (3 * k) = ap (λ (n : ℕ). 2 ^ n) e ∙ pow-add 2 3 (3 * k) in
    subst (λ (x : ℕ). x ≤ 2 ^ (3 * suc k)) (sym (pow-succ' 5 k)) (subst (λ (x : ℕ). 5 * 5 ^ k ≤ x) (sym p) (mul-le-mul five (five_le k)))
  where
    five : 5 ≤ 8
    five = omega arith

-- a number moved up by 3 k + 64 binary digits has 64 of them left when it is divided by 5 ^ k
pub ahead_enough : (m k s : ℕ) → 0 < m → s ≡ 3 * k + 64 → 5 ^ k * 2 ^ 64 ≤ m * 2 ^ s
ahead_enough m k s h e =
    let a : 5 ^ k * 2 ^ 64 ≤ 2 ^ s = subst (λ (x : ℕ). 5 ^ k * 2 ^ 64 ≤ x) (sym (ap (λ (n : ℕ). 2 ^ n) e ∙ pow-add 2 (3 * k) 64)) (mul-le-mul_right (2 ^ 64) (five_le k)) in
    let b : 1 * 2 ^ s ≤ m * 2 ^ s = mul-le-mul_right (2 ^ s) h in
    le_trans a (subst (λ (x : ℕ). x ≤ m * 2 ^ s) (one-mul (2 ^ s)) b)
