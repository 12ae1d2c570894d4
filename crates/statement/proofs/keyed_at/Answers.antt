use Rattle.std.proofs.Common.{rules, ◌≡◌, ap, ◌+◌, ◌∙◌, min, Err, drop, sym}
use Rattle.lex.specs.Search.{closing}
use Rattle.lex.specs.Answer.{placed}
use Rattle.statement.specs.Rows.{mapped, header_row}
use Rattle.statement.proofs.keyed_at.Goals as goal

pub returns-in_err-close : goal.returns-in_err-close
returns-in_err-close c = let a = c.args in
    let k : c.from_residual.result ≡ Err c.in_err-close.field-0.0 = search rules in
    rw (k, sym c.saturating_add-opening.ensures) (ap (mapped (λ q. header_row (min (a.start + a.head.start) 18446744073709551615) (min (a.start + a.head.end) 18446744073709551615) (min (c.saturating_add-opening.result + 1) 18446744073709551615) q)) c.in_err-close.ensures)

pub returns : goal.returns
returns c = let a = c.args in
    rw (sym c.saturating_add-opening.ensures, c.saturating_add.ensures, c.saturating_add-2.ensures, c.saturating_add-3.ensures) (ap (mapped (λ q. header_row (min (a.start + a.head.start) 18446744073709551615) (min (a.start + a.head.end) 18446744073709551615) (min (c.saturating_add-opening.result + 1) 18446744073709551615) q)) c.in_ok-close.ensures)
