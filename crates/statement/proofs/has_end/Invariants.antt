use Rattle.common.specs.Noting.{Noting}
use Rattle.record.specs.Text.{past}
use Rattle.statement.specs.Tidy.{unended}
use lib.ListN.{drop}
use mathlib.Core.Path.{◌≡◌}
use Rattle.statement.proofs.has_end.Given as goal

abbrev pub invariant-loop-k : goal.invariant-loop-k
invariant-loop-k l = Noting (λ j. past unended (drop j l.s) ≡ past unended (drop l.i l.s)) 16 l.hit l.i l.k
