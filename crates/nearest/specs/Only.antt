-- "that two allowed answers coincide is proved": a float is told by its bits, and an f64's bits give it back; every NaN is one. Assumes nothing.
use Rattle.std.specs.Prelude.{◌≡◌, T, Float}
use Rattle.std.proofs.Common.{sym, ◌∙◌, ap}
use Rattle.std.specs.Float.{binary64}
use Rattle.std.specs.Float.Ieee.{to_bits, of_bits, fits}
use Rattle.std.specs.Float.Ieee.Bits.{of_bits-to_bits}

-- two f64s with the same bits are the same: `times`, `over` and every function whose promise tells the bits of its answer
pub bits_only : (x y : Float) → T (fits binary64 x) → T (fits binary64 y) → to_bits binary64 x ≡ to_bits binary64 y → x ≡ y
bits_only x y h k e = sym (of_bits-to_bits binary64 x h) ∙ ap (of_bits binary64) e ∙ of_bits-to_bits binary64 y k
