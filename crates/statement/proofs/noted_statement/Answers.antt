use Rattle.std.proofs.Common.{rules, ◌≡◌, ap, ◌∙◌, arith, length, Err}
use Rattle.statement.specs.Laws.{statement_none, statement_found, statement_over, statement_refused_lem, ahead_from}
use Rattle.statement.specs.Answer.{said_in}
use Rattle.statement.specs.Tidy.{tidy}
use Rattle.lex.specs.At.{trivia_at}
use Rattle.statement.proofs.noted_statement.Goals as goal

pub returns-then-s-i-clause-said_value : goal.returns-then-s-i-clause-said_value
returns-then-s-i-clause-said_value c = let a = c.args in statement_none a.s.now a.i a.section c.if-s-i.true

pub returns-then-s-i-clause-tidy_value : goal.returns-then-s-i-clause-tidy_value
returns-then-s-i-clause-tidy_value c = let a = c.args in ap (tidy a.s.now) (statement_none a.s.now a.i a.section c.if-s-i.true)

pub returns-then-s-start-clause-said_value : goal.returns-then-s-start-clause-said_value
returns-then-s-start-clause-said_value c = let a = c.args in
    statement_over a.s.now a.i a.section _ (omega arith) c.in_ok-start.ensures c.if-s-start.true

pub returns-then-s-start-clause-tidy_value : goal.returns-then-s-start-clause-tidy_value
returns-then-s-start-clause-tidy_value c = let a = c.args in
    ap (tidy a.s.now) (statement_over a.s.now a.i a.section _ (omega arith) c.in_ok-start.ensures c.if-s-start.true)

pub returns-in_err-start-clause-said_value : goal.returns-in_err-start-clause-said_value
returns-in_err-start-clause-said_value c = let a = c.args in
    let k : c.from_residual.result ≡ Err c.in_err-start.field-0.0 = search rules in
    rw k (statement_refused_lem a.s.now a.i a.section _ c.in_err-start.ensures)

pub returns-in_err-start-clause-tidy_value : goal.returns-in_err-start-clause-tidy_value
returns-in_err-start-clause-tidy_value c = let a = c.args in
    let k : c.from_residual.result ≡ Err c.in_err-start.field-0.0 = search rules in
    rw k (ap (tidy a.s.now) (statement_refused_lem a.s.now a.i a.section _ c.in_err-start.ensures))

pub returns-clause-said_value : goal.returns-clause-said_value
returns-clause-said_value c = let a = c.args in
    c.statement_at.ensures.said_value ∙ statement_found a.s.now a.i a.section _ (omega arith) c.in_ok-start.ensures

pub returns-clause-ahead : goal.returns-clause-ahead
returns-clause-ahead c = let a = c.args in
    ahead_from a.i _ (length a.s.now) (said_in c.statement_at.result) (trivia_at a.s.now a.i _ (omega arith) c.in_ok-start.ensures).1 c.statement_at.ensures.ahead

pub returns-clause-tidy_value : goal.returns-clause-tidy_value
returns-clause-tidy_value c = let a = c.args in
    c.statement_at.ensures.tidy_value ∙ ap (tidy a.s.now) (statement_found a.s.now a.i a.section _ (omega arith) c.in_ok-start.ensures)
