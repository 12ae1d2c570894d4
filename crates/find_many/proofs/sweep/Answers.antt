use Rattle.std.proofs.Common.{arith}
use Rattle.find_many.specs.Sweep.{sweep_none, sweep_next, sweep_old, sweep_end}
use Rattle.find_many.proofs.sweep.Goals as goal

pub loop-i-init : goal.loop-i-init
loop-i-init g c = sweep_none (omega arith) (omega arith) (omega arith)

pub tell-requires : goal.tell-requires
tell-requires g c = sweep_old c.loop-i.invariant (λ k r. goal.F-pre g c.args.tell k r) (omega arith) c.requires.tells

pub loop-i-preserved : goal.loop-i-preserved
loop-i-preserved g c = sweep_next c.loop-i.invariant (omega arith) c.tell.ensures

pub returns : goal.returns
returns g c = sweep_end c.loop-i.invariant (omega arith)
