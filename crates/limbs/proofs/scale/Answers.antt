use native.Mathlib.Omega.{arith}
use borrow.Author.Rules.{rules}
use Rattle.limbs.specs.Steps.{scaling_starts, scaling_goes}
use Rattle.limbs.proofs.scale.Goals as goal

-- `limbs::scale` meets its contract: after each turn the digits below are multiplied, and the rest of the sum is carried. Assumes nothing.

pub loop-x-init : goal.loop-x-init
loop-x-init c = let p = c.args in scaling_starts p.a.now p.by p.add c.ranges.add.fits

pub loop-x-preserved : goal.loop-x-preserved
loop-x-preserved c =
    let p = c.args in
    scaling_goes p.a.now p.by p.add c.loop-x.a c.loop-x.carry c.loop-x.x-index (search rules) c.ranges.by.fits (omega arith) c.loop-x.invariant
