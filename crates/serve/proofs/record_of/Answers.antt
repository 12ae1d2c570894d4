use Rattle.serve.specs.Laws.{record_out, promised}
use Rattle.serve.proofs.record_of.Goals as goal

pub returns-clause-result_value : goal.returns-clause-result_value
returns-clause-result_value c =
    let a = c.args in
    let e = c.in_ok-t.ensures in
    (record_out c.in_ok-t.t (promised a.file.now a.headers.now a.rows.now a.slots.now e.result_value e.headers_after e.rows_after e.indexed) a.id _ c.get.ensures).0
