use native.Mathlib.Omega.{arith}
use Rattle.limbs.specs.Steps.{dividing_starts, dividing_goes}
use Rattle.limbs.proofs.divide.Goals as goal

-- `limbs::divide` meets its contract: after each turn the digits above are divided, and what they leave goes down to the next. Assumes nothing.

pub loop-i-init : goal.loop-i-init
loop-i-init c = let p = c.args in dividing_starts p.a.now p.by (omega arith)

pub loop-i-preserved : goal.loop-i-preserved
loop-i-preserved c =
    let p = c.args in
    dividing_goes p.a.now p.by c.loop-i.a c.loop-i.rest c.loop-i.i c.loop-i-test.true c.loop-i.invariant
