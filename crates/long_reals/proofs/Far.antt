-- Where the digits need not be read: the decimals so small that 0 is nearest. Assumes nothing.
use Rattle.std.specs.Prelude.{ℕ, ◌+◌, ◌^◌, ◌≤◌, ◌<◌, ◌≡◌, refl}
use Rattle.std.proofs.Common.{subst, le_trans, le_of_lt, mul-le-mul, arith, leb-true, pow-add}
use Rattle.std.proofs.Math.Nat.{pow-le-pow_right}
use Rattle.nearest.specs.Near.{near}
use Rattle.nearest.proofs.Borders.{near_zero}
use Rattle.nearest.specs.PowerLaws.{ten_pos}
use Rattle.long_reals.specs.Far.{vanishing_power}

-- 10 ^ -324 is at most half the least f64
zero_border : 2 ^ 1075 ≤ 10 ^ vanishing_power
zero_border = leb-true (2 ^ 1075) (10 ^ vanishing_power) refl

-- a number below 10 ^ n, divided by 10 ^ (n + 324) or more, has the nearest f64 0
pub far_zero : (num n k : ℕ) → num < 10 ^ n → n + vanishing_power ≤ k → near num (10 ^ k) ≡ 0
far_zero num n k l h =
    near_zero num (10 ^ k) (ten_pos k)
    (le_trans (mul-le-mul (le_of_lt l) zero_border) (subst (λ (x : ℕ). x ≤ 10 ^ k) (pow-add 10 n vanishing_power) (pow-le-pow_right {n = 10} (omega arith) {i = n + vanishing_power} {j = k} h)))
