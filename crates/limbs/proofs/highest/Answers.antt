use mathlib.Core.Path.{ap}
use native.Mathlib.Omega.{arith}
use lib.Seq.{take-length}
use Rattle.limbs.specs.Worth.{worth}
use Rattle.limbs.specs.Steps.{without_top, highest_found, highest_none}
use Rattle.limbs.proofs.highest.Goals as goal

-- `limbs::highest` meets its contract: the digits from n on add nothing. Assumes nothing.

pub loop-i-init : goal.loop-i-init
loop-i-init c = ap worth (take-length c.args.a.now)

pub returns-then-a-i-ne0 : goal.returns-then-a-i-ne0
returns-then-a-i-ne0 c =
    highest_found c.args.a.now c.loop-i.i c.loop-i-test.true (omega arith) c.if-a-i-ne0.true c.loop-i.invariant

pub loop-i-preserved : goal.loop-i-preserved
loop-i-preserved c =
    without_top c.args.a.now c.loop-i.i (omega arith) (omega arith) (omega arith) c.loop-i.invariant

pub returns : goal.returns
returns c = highest_none c.args.a.now c.loop-i.i (omega arith) c.loop-i.invariant
