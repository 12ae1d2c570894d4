use Rattle.common.specs.Noting.{Noting}
use Rattle.lex.specs.Answer.{Lacks}
use Rattle.lex.proofs.block_has.Given as goal

abbrev pub invariant-loop-k : goal.invariant-loop-k
invariant-loop-k l = Noting (Lacks l.b l.s l.at) 64 l.hit l.at l.k
