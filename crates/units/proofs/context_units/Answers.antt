use Rattle.std.proofs.Common.{◌∙◌, ap, sym}
use Rattle.std.proofs.lemmas.Result.{err_from_is_err_and}
use Rattle.error.specs.Refusal.{good}
use Rattle.statement.specs.Rows.{told_row}
use Rattle.factors.specs.SeenRecords.{seen_record_of}
use Rattle.factors.specs.Code.{find_in}
use Rattle.units.specs.Laws.{or_refused, or_other, or_context}
use Rattle.units.proofs.context_units.Goals as goal

pub returns-in_err-is_context : goal.returns-in_err-is_context
returns-in_err-is_context c = let r = c.args.records in let s = r.file.now in let find = find_in r in
    let p = err_from_is_err_and c.from_residual.result c.from_residual.ensures.1 in
    rw (p.1, p.2) (or_refused s find (seen_record_of s (told_row c.args.row)) c.in_err-is_context.ensures)

pub returns-then-not-branch : goal.returns-then-not-branch
returns-then-not-branch c = let r = c.args.records in let s = r.file.now in let find = find_in r in
    ap good c.assumed.ensures ∙ or_other s find (seen_record_of s (told_row c.args.row)) (ap good (sym c.if-not-branch.true) ∙ c.in_ok-is_context.ensures)

pub returns : goal.returns
returns c = let r = c.args.records in let s = r.file.now in let find = find_in r in
    or_context s find (seen_record_of s (told_row c.args.row)) (ap good (sym c.if-not-branch.false) ∙ c.in_ok-is_context.ensures) c.context.ensures
