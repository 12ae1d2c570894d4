use Rattle.lex.specs.Blocks.{BlocksPassed}
use Rattle.std.proofs.Common.{◌≡◌, ◌+◌, ◌*◌, arith, sym, le_antisymm}
use Rattle.lex.proofs.pass_blocks.Goals as goal

pub loop-k-init : goal.loop-k-init
loop-k-init g c = let e : c.min-start.result + 64 * 0 ≡ c.min-start.result = omega arith in rw e BlocksPassed.none

pub returns-in_default-clause-passed : goal.returns-in_default-clause-passed
returns-in_default-clause-passed g c = rw (sym c.min-start.ensures) c.loop-k.invariant

pub loop-k-preserved : goal.loop-k-preserved
loop-k-preserved g c =
    let e : c.min-start.result + 64 * (c.loop-k.k + 1) ≡ c.min-start.result + 64 * c.loop-k.k + 64 = omega arith in
    rw e (BlocksPassed.more c.loop-k.invariant (omega arith, c.in-Some.ensures))

pub returns-clause-passed : goal.returns-clause-passed
returns-clause-passed g c =
    let e = le_antisymm c.loop-k.auto.k-end c.loop-k-test.false in rw (sym c.min-start.ensures, ← e) c.loop-k.invariant
