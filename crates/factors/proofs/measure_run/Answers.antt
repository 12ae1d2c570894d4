use Rattle.std.proofs.Common.{◌∙◌, eq-eqb, ne_eqb}
use Rattle.std.proofs.lemmas.Result.{err_from_is_err_and}
use Rattle.statement.specs.Rows.{told_row}
use Rattle.factors.specs.Unit.{measure_run}
use Rattle.factors.specs.Laws.{seen_record_out, measure_own, measure_part}
use Rattle.factors.proofs.measure_run.Goals as goal

pub returns-in_err-args : goal.returns-in_err-args
returns-in_err-args c =
    let p = err_from_is_err_and c.from_residual.result c.from_residual.ensures.1 in
    rw (p.1, p.2) (seen_record_out measure_run c.args.file.now (told_row c.args.row) c.in_err-args.ensures)

pub returns-then-row-ne1 : goal.returns-then-row-ne1
returns-then-row-ne1 c = measure_own c.args.file.now (told_row c.args.row) c.in_ok-args.ensures (ne_eqb _ _ c.if-row-ne1.true)

pub returns : goal.returns
returns c = c.part_args.ensures ∙ measure_part c.args.file.now (told_row c.args.row) c.in_ok-args.ensures (eq-eqb _ _ c.if-row-ne1.false)
