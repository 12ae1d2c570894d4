use native.Mathlib.Omega.{arith}
use Rattle.f64_rounding.specs.Drops.{drops}
use Rattle.wide_reals.proofs.surplus.Goals as goal

-- `wide_reals::surplus` meets its contract: w has 54 digits or more. Assumes nothing.

pub overflow_sub-result : goal.overflow_sub-result
overflow_sub-result c = let h = (drops c.args.w c.requires c.ranges.w.fits).0 in omega arith
