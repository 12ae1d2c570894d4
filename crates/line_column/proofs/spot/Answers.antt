use Rattle.std.proofs.Common.{eq-eqb, ne_eqb, arith}
use Rattle.line_column.specs.Spot.{lines_counted_again, lines_counted_end}
use Rattle.line_column.proofs.spot.Goals.{then-b-eq10, else-b-eq10}
use Rattle.line_column.proofs.spot.Goals as goal

pub loop-b-preserved : goal.loop-b-preserved
loop-b-preserved c =
    let l = c.loop-b in
    elim c.if-b-eq10.branch [
      | then-b-eq10 w ↦ lines_counted_again c.args.before.now l.line l.column l.b-index _ _ (omega arith) l.invariant (rw (eq-eqb _ _ w.if-b-eq10.true) w.line-is) (rw (eq-eqb _ _ w.if-b-eq10.true) w.column-is)
      | else-b-eq10 w ↦ lines_counted_again c.args.before.now l.line l.column l.b-index _ _ (omega arith) l.invariant (rw (ne_eqb _ _ w.if-b-eq10.false) w.line-is) (rw (ne_eqb _ _ w.if-b-eq10.false) w.column-is)
    ]

pub returns-clause-line_value : goal.returns-clause-line_value
returns-clause-line_value c = (lines_counted_end c.args.before.now c.loop-b.line c.loop-b.column c.loop-b.b-index (omega arith) c.loop-b.invariant).0

pub returns-clause-column_value : goal.returns-clause-column_value
returns-clause-column_value c = (lines_counted_end c.args.before.now c.loop-b.line c.loop-b.column c.loop-b.b-index (omega arith) c.loop-b.invariant).1
