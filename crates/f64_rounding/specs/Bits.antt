-- A pattern as an f64: that of a number or of infinity is no NaN's, so it is read back as it was. Laws for the proofs; no promise names them.
-- Assumes nothing.
use Rattle.std.specs.Prelude.{ℕ, ◌+◌, ◌%◌, ◌^◌, ◌≤◌, ◌<◌, ◌≡◌, Bool, not, T}
use Rattle.std.proofs.Common.{subst, arith, le-ltb}
use Rattle.std.specs.Float.{binary64}
use Rattle.std.specs.Float.Ieee.{of_bits, to_bits, nan_bits}
use Rattle.std.specs.Float.Ieee.Bits.{to_bits-of_bits, nan_bits_is, nan_bits_above}
use Rattle.nearest.specs.PatternUnits.{infinity}

-- a pattern up to infinity's, whatever stands above its 63 digits, is no NaN's
up_to_lem : (b : ℕ) → b % 2 ^ 63 ≤ infinity → T (not (nan_bits binary64 b))
up_to_lem b h = rw (nan_bits_above binary64 b, le-ltb infinity (b % 2 ^ 63) h) tt

-- a pattern up to infinity's, without a sign, is no NaN's
pub no_nan : (b : ℕ) → b ≤ infinity → T (not (nan_bits binary64 b))
no_nan b h = up_to_lem b (omega arith)

-- a pattern up to infinity's, with the negative sign, is no NaN's
pub no_nan_minus : (b : ℕ) → b ≤ infinity → T (not (nan_bits binary64 (2 ^ 63 + b)))
no_nan_minus b h = up_to_lem (2 ^ 63 + b) (omega arith)

-- a pattern that is no NaN's is the pattern of the f64 that is made of it
pub bits_back : (b : ℕ) → b < 2 ^ 64 → T (not (nan_bits binary64 b)) → to_bits binary64 (of_bits binary64 b) ≡ b
bits_back b h k = to_bits-of_bits binary64 b h (subst (λ (t : Bool). T (not t)) (nan_bits_is binary64 b) k)
