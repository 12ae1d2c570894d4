use native.Mathlib.Omega.{arith}
use Rattle.words.specs.Laws.{name_short, name_undotted, name_dotted}
use Rattle.words.proofs.is_name.Goals as goal

pub returns-then-n-lt2 : goal.returns-then-n-lt2
returns-then-n-lt2 c = name_short c.args.t.now (omega arith)

pub returns-then-t-n : goal.returns-then-t-n
returns-then-t-n c = name_undotted c.args.t.now (omega arith) c.if-t-n.true

pub returns : goal.returns
returns c = name_dotted c.args.t.now c.is_valid.result (omega arith) c.if-t-n.false c.is_valid.ensures
