-- The kit's rounding, to which each operation on floats hands its exact result, gives the nearest pattern: `round_near`, shown once
-- for all of them. Assumes nothing.
use Prim.Native.Nat.{ℕ, ◌*◌, ◌/◌, ◌%◌, ◌^◌, compare}
use Rattle.std.specs.Prelude.{◌≡◌, Bool}
use Rattle.std.proofs.Common.{◌∙◌, ap}
use Rattle.std.specs.Float.{binary64}
use Rattle.std.specs.Float.Ieee.{nearest, round, to_bits}
use Rattle.std.specs.Float.Ieee.Fits.{round_is}
use Rattle.nearest.specs.Near.{near, near_units, dropped}
use Rattle.nearest.specs.Nearest.{signed}
use Rattle.nearest.specs.Round.{units_pattern, kept_near}

-- what the kit rounds a fraction to is the nearest pattern, with the sign that it is given
pub round_near : (s : Bool) (num den : ℕ) → to_bits binary64 (round binary64 s num den) ≡ signed s (near num den)
unfolding near near_units
round_near s num den =
    let n = num * 2 ^ 1074 in
    let k = dropped n den in
    let u = den * 2 ^ k in
    let o = compare (n % u * 2) u in
    ap (to_bits binary64) (round_is binary64 s num den) ∙ units_pattern s (nearest (n / u) o) k (kept_near n den o)
