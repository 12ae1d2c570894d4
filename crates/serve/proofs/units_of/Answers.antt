use Rattle.units.specs.Answer.{told_units}
use Rattle.serve.specs.Laws.{units_out, promised}
use Rattle.serve.proofs.units_of.Goals as goal

pub returns-clause-result_value : goal.returns-clause-result_value
returns-clause-result_value c =
    let a = c.args in
    let e = c.in_ok-t.ensures in
    (units_out c.in_ok-t.t (promised a.file.now a.headers.now a.rows.now a.slots.now e.result_value e.headers_after e.rows_after e.indexed) (told_units c.resolve.result) c.resolve.ensures).0
