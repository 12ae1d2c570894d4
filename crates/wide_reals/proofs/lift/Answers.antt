use native.Mathlib.Omega.{arith}
use Rattle.wide_reals.specs.LongArithmetic.{lifts}
use Rattle.wide_reals.proofs.lift.Goals as goal

-- `wide_reals::lift` meets its contract: by the count of the zeros above it. Assumes nothing.

pub overflow_cast-result : goal.overflow_cast-result
overflow_cast-result c = let h = (lifts c.args.n c.requires c.ranges.n.fits).3 in record { fits = omega (arith, h) }

pub overflow_shl-result : goal.overflow_shl-result
overflow_shl-result c = (lifts c.args.n c.requires c.ranges.n.fits).3

pub returns : goal.returns
returns c = lifts c.args.n c.requires c.ranges.n.fits
