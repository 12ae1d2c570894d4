use mathlib.Core.Path.{sym, subst}
use lib.Dec.{T}
use Rattle.nearest.proofs.ProductRight.{mul_bits}
use Rattle.nearest.proofs.times.Goals as goal

-- `nearest::times` meets its contract: the language's `*`, by `mul_bits`. Each operand is an f64's. Assumes nothing.

pub returns : goal.returns
returns c = mul_bits c.args.a c.args.b (subst T (sym c.well_formed.0.1) tt) (subst T (sym c.well_formed.1.0.1) tt)
