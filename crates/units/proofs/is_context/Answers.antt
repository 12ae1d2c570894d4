use Rattle.std.proofs.Common.{◌∙◌, ap, sym, Option, option_map}
use Rattle.std.proofs.lemmas.Result.{err_from_is_err_and}
use Rattle.error.specs.Refusal.{good}
use Rattle.statement.specs.Rows.{told_row}
use Rattle.statement.specs.declared.Range.{Range}
use Rattle.factors.specs.Answer.{span_of}
use Rattle.factors.specs.SeenRecords.{seen_record_of}
use Rattle.units.specs.Laws.{context_is, whole_reads}
use Rattle.units.proofs.is_context.Goals as goal

pub returns-in_err-args : goal.returns-in_err-args
returns-in_err-args c = let s = c.args.file.now in
    let p = err_from_is_err_and c.from_residual.result c.from_residual.ensures.1 in
    rw (p.1, p.2) (context_is s (seen_record_of s (told_row c.args.row)) c.in_err-args.ensures)

pub returns-in_default : goal.returns-in_default
returns-in_default c = let s = c.args.file.now in
    context_is s (seen_record_of s (told_row c.args.row)) (ap (λ (o : Option Range). good (option_map span_of o)) (sym c.in_default.is) ∙ c.in_ok-args.ensures)

pub returns : goal.returns
returns c = let s = c.args.file.now in
    whole_reads s c.in-Some.args.start c.in-Some.args.end c.reader-at.result c.reader-at.ensures c.next_i64.result c.next_i64.new.at c.is_ok.result c.next_i64.ensures c.is_ok.ensures.value
    ∙ context_is s (seen_record_of s (told_row c.args.row)) (ap (λ (o : Option Range). good (option_map span_of o)) (sym c.in-Some.is) ∙ c.in_ok-args.ensures)
