-- "that two allowed answers coincide is proved": `lowered`, `raised` and `decimal` have one answer. Assumes nothing.
use Rattle.std.specs.Prelude.{ℕ, ◌*◌, ◌^◌, ◌≡◌, Bool, List, T, Float}
use Rattle.std.proofs.Common.{sym, ◌∙◌}
use Rattle.std.specs.Float.{binary64}
use Rattle.std.specs.Float.Ieee.{to_bits, fits}
use Rattle.nearest.specs.Near.{near}
use Rattle.nearest.specs.Nearest.{signed}
use Rattle.nearest.specs.Power.{near_by}
use Rattle.nearest.specs.Only.{bits_only}
use Rattle.long_reals.specs.Number.{number_in}

-- `lowered` has one answer; that of the crate `wide_reals` promises the same
pub lowered_only : (x y : Float) (neg : Bool) (m k : ℕ) → T (fits binary64 x) → T (fits binary64 y) → to_bits binary64 x ≡ signed neg (near m (10 ^ k)) → to_bits binary64 y ≡ signed neg (near m (10 ^ k)) → x ≡ y
lowered_only x y neg m k f g a b = bits_only x y f g (a ∙ sym b)

-- `raised` has one answer; that of the crate `wide_reals` promises the same
pub raised_only : (x y : Float) (neg : Bool) (m k : ℕ) → T (fits binary64 x) → T (fits binary64 y) → to_bits binary64 x ≡ signed neg (near (m * 10 ^ k) 1) → to_bits binary64 y ≡ signed neg (near (m * 10 ^ k) 1) → x ≡ y
raised_only x y neg m k f g a b = bits_only x y f g (a ∙ sym b)

-- `decimal` has one answer
pub decimal_only : (x y : Float) (neg : Bool) (t : List ℕ) (down : Bool) (k : ℕ) → T (fits binary64 x) → T (fits binary64 y) → to_bits binary64 x ≡ signed neg (near_by down (number_in 0 t) k) → to_bits binary64 y ≡ signed neg (near_by down (number_in 0 t) k) → x ≡ y
decimal_only x y neg t down k f g a b = bits_only x y f g (a ∙ sym b)
