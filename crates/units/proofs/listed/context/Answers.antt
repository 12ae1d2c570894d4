use Rattle.std.proofs.lemmas.Result.{err_from_is_err_and}
use Rattle.statement.specs.Rows.{told_row}
use Rattle.factors.specs.SeenRecords.{seen_record_of}
use Rattle.factors.specs.Code.{find_in}
use Rattle.units.specs.Laws.{context_refused, context_late, context_both}
use Rattle.units.proofs.listed.context.Goals as goal

pub returns-in_err-u : goal.returns-in_err-u
returns-in_err-u c = let r = c.args.records in let s = r.file.now in let find = find_in r in
    let p = err_from_is_err_and c.from_residual.result c.from_residual.ensures.1 in
    rw (p.1, p.2) (context_refused s find (seen_record_of s (told_row c.args.row)) c.in_err-u.ensures)

pub returns-in_err-tolerance : goal.returns-in_err-tolerance
returns-in_err-tolerance c = let r = c.args.records in let s = r.file.now in let find = find_in r in
    let p = err_from_is_err_and c.from_residual-in_err-tolerance.result c.from_residual-in_err-tolerance.ensures.1 in
    rw (p.1, p.2) (context_late s find (seen_record_of s (told_row c.args.row)) c.in_ok-u.ensures c.in_err-tolerance.ensures)

pub returns : goal.returns
returns c = let r = c.args.records in let s = r.file.now in let find = find_in r in context_both s find (seen_record_of s (told_row c.args.row)) c.in_ok-u.ensures c.in_ok-tolerance.ensures
