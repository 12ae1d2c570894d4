use Rattle.common.specs.Noting.{Noting}
use Rattle.record.specs.Text.{past}
use Rattle.statement.specs.Usual.{spoken}
use lib.ListN.{drop}
use mathlib.Core.Path.{◌≡◌}
use mathlib.Core.Bool.{◌||◌}
use Rattle.statement.proofs.block_stops.Given as goal

abbrev pub invariant-loop-k : goal.invariant-loop-k
invariant-loop-k l = Noting (λ j. past spoken (drop j l.s) ≡ past spoken (drop l.i l.s)) 64 (l.quote || l.end) l.i l.k
