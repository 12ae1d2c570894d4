use Rattle.std.proofs.Common.{rules, ◌≡◌, ◌∙◌, arith, Err}
use Rattle.statement.specs.Laws.{begun_found, begun_refused}
use Rattle.lex.specs.At.{end_at}
use Rattle.statement.proofs.sought_at.Goals as goal

pub invariant_of-found : goal.invariant_of-found
invariant_of-found c = let a = c.args in
    let e = end_at a.s.now a.start _ (omega arith) c.in_ok-end.ensures in record { ordered = e.1; within = e.2 }

pub returns-clause-result_value : goal.returns-clause-result_value
returns-clause-result_value c = let a = c.args in
    c.said.ensures.result_value ∙ begun_found a.s.now a.start a.section (omega arith) _ c.in_ok-end.ensures

pub returns-in_err-end-clause-result_value : goal.returns-in_err-end-clause-result_value
returns-in_err-end-clause-result_value c = let a = c.args in
    let k : c.from_residual.result ≡ Err c.in_err-end.field-0.0 = search rules in
    rw k (begun_refused a.s.now a.start a.section (omega arith) _ c.in_err-end.ensures)
