use Rattle.common.specs.Noting.{Noting}
use Rattle.lex.specs.PassedAtOnce.{Quiet}
use mathlib.Core.Bool.{◌||◌}
use Rattle.lex.proofs.block_ends.Given as goal

abbrev pub invariant-loop-k : goal.invariant-loop-k
invariant-loop-k l = Noting (Quiet l.s l.at) 64 ((l.quote || l.slash) || l.end) l.at l.k
