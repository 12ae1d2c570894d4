use Rattle.std.proofs.Common.{◌∙◌, ap}
use Rattle.std.proofs.lemmas.Result.{err_from_is_err_and}
use Rattle.statement.specs.Rows.{told_row}
use Rattle.params.specs.declared.State.{State}
use Rattle.scalars.specs.Scalars.{measure_of}
use Rattle.scalars.specs.Answer.{next_of}
use Rattle.factors.specs.Factor.{number_or_none}
use Rattle.factors.specs.Code.{find_in}
use Rattle.factors.specs.Laws.{find_none, find_row, number_missing, number_out, number_alone}
use Rattle.factors.proofs.angle_number.Goals as goal

pub returns-in_default : goal.returns-in_default
returns-in_default c = let r = c.args.records in
    number_missing r.file.now (find_in r) c.args.id (find_none r.file.now r.rows.now r.slots.now r.tables.ids c.args.id c.in_default.ensures)

pub returns-in_err-args_of : goal.returns-in_err-args_of
returns-in_err-args_of c = let r = c.args.records in
    let p = err_from_is_err_and c.from_residual.result c.from_residual.ensures.1 in
    rw (p.1, p.2) (number_out r.file.now (find_in r) c.args.id (told_row c.in-Some.measure) (find_row r.file.now r.rows.now r.slots.now r.tables.ids c.args.id c.in-Some.ensures) c.in_err-args_of.ensures)

pub returns : goal.returns
returns c = let r = c.args.records in
    c.measure_number.ensures.number
    ∙ ap (λ (o : State). number_or_none (next_of measure_of r.file.now o.place o.end).answer) c.reader-at.ensures
    ∙ number_alone r.file.now (find_in r) c.args.id (told_row c.in-Some.measure) (find_row r.file.now r.rows.now r.slots.now r.tables.ids c.args.id c.in-Some.ensures) c.in_ok-args_of.ensures
