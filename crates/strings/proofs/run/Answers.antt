use native.Mathlib.Omega.{arith}
use Rattle.strings.specs.Steps.{rest_is}
use Rattle.strings.specs.Ways.{run_whole}
use Rattle.strings.proofs.run.Goals as goal

pub returns : goal.returns
returns c =
    run_whole c.args.raw.now c.args.out.now c.args.n c.lay-at.result c.lay-at.new.out _ c.turns.result c.turns.new.out (omega arith) c.requires.0 c.requires.1 (rest_is c.args.raw.now c.args.n) c.lay-at.ensures c.turns.ensures
