use Rattle.std.proofs.Common.{length, le-ltb, ◌∙◌, arith}
use Rattle.tokens.specs.Laws.{heads_at, heads_past}
use Rattle.tokens.proofs.is_at.Goals as goal

pub returns-then-i-s : goal.returns-then-i-s
returns-then-i-s c = heads_at c.args.b c.args.s.now c.args.i (omega arith)

pub returns-else-i-s : goal.returns-else-i-s
returns-else-i-s c = le-ltb c.args.i (length c.args.s.now) (omega arith) ∙ heads_past c.args.b c.args.s.now c.args.i (omega arith)
