use Rattle.std.proofs.Common.{subst, drop, ◌+◌, arith}
use Rattle.lex.specs.Quote.{single_quote}
use Rattle.lex.specs.Answer.{QuoteIs}
use Rattle.statement.specs.UsualLaws.{string_at_lem}
use Rattle.statement.proofs.string_past.Goals as goal

pub returns-in-Single : goal.returns-in-Single
returns-in-Single c = λ d.
    let r = c.text_run-q in
    let h = c.requires in
    let s = c.args.s.now in
    let q = r.result in
    let o = subst (λ x. QuoteIs (drop (q + 1) s) x) c.in-Single.is c.quote_before.ensures in
    (omega arith, omega arith, omega arith, string_at_lem s c.args.i d h.0 q h.1 r.ensures.s_value (omega arith) (omega arith) (single_quote (drop (q + 1) s) o))
