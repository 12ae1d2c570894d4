use Rattle.line_column.specs.Spot.{LinesCounted}
use Rattle.line_column.proofs.spot.Given as goal

abbrev pub invariant-loop-b : goal.invariant-loop-b
invariant-loop-b l = LinesCounted l.before l.line l.column l.b-index
