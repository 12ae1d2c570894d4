use mathlib.Core.Path.{sym, subst}
use lib.Dec.{T}
use Rattle.nearest.proofs.ProductRight.{div_bits}
use Rattle.nearest.proofs.over.Goals as goal

-- `nearest::over` meets its contract: the language's `/`, by `div_bits`. Each operand is an f64's. Assumes nothing.

pub returns : goal.returns
returns c = div_bits c.args.a c.args.b (subst T (sym c.well_formed.0.1) tt) (subst T (sym c.well_formed.1.0.1) tt)
