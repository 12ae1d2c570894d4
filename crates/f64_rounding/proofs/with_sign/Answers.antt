use mathlib.Core.Path.{sym, ◌∙◌, ap}
use mathlib.Core.Bool.{Bool}
use native.Mathlib.Nat.{zero-add}
use native.Mathlib.Omega.{arith}
use Rattle.nearest.specs.Nearest.{signed}
use Rattle.f64_rounding.specs.Bits.{no_nan, no_nan_minus, bits_back}
use Rattle.f64_rounding.proofs.with_sign.Goals as goal

-- `f64_rounding::with_sign` meets its contract: a pattern up to infinity's is no NaN's, and the sign is the highest bit. Assumes nothing.

pub float_from_bits-result : goal.float_from_bits-result
float_from_bits-result c = no_nan_minus c.min-bits.result (omega arith)

pub returns-then-neg : goal.returns-then-neg
returns-then-neg c =
    bits_back _ (omega arith) (no_nan_minus c.min-bits.result (omega arith)) ∙ ap (λ (b : Bool). signed b c.min-bits.result) (sym c.if-neg.true) ∙ ap (signed c.args.neg) c.min-bits.ensures

pub float_from_bits-result-2 : goal.float_from_bits-result-2
float_from_bits-result-2 c = no_nan c.min-bits.result (omega arith)

pub returns : goal.returns
returns c =
    bits_back _ (omega arith) (no_nan c.min-bits.result (omega arith)) ∙ sym (zero-add c.min-bits.result) ∙ ap (λ (b : Bool). signed b c.min-bits.result) (sym c.if-neg.false) ∙ ap (signed c.args.neg) c.min-bits.ensures
