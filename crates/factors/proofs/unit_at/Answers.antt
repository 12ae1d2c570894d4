use Rattle.std.proofs.Common.{◌∙◌, ◌≡◌, ap, sym, rules, Option, option_map}
use Rattle.std.proofs.lemmas.Result.{err_from_is_err_and}
use Rattle.error.specs.Refusal.{good}
use Rattle.statement.specs.Rows.{told_row}
use Rattle.statement.specs.declared.Range.{Range}
use Rattle.factors.specs.Answer.{span_of}
use Rattle.factors.specs.SeenRecords.{seen_record_of}
use Rattle.factors.specs.declared.UnitArgs.TheVariants.{Conversion}
use Rattle.factors.specs.Laws.{seen_refused, seen_si, seen_late, seen_other}
use Rattle.factors.proofs.unit_at.Goals as goal

pub returns-in_err-args : goal.returns-in_err-args
returns-in_err-args c =
    let p = err_from_is_err_and c.from_residual.result c.from_residual.ensures.1 in
    rw (p.1, p.2) (seen_refused (seen_record_of c.args.file.now (told_row c.args.row)) c.in_err-args.ensures)

pub returns-in-Some : goal.returns-in-Some
returns-in-Some c = seen_si c.in-Some.args (seen_record_of c.args.file.now (told_row c.args.row)) (ap (λ (o : Option Range). good (option_map span_of o)) (sym c.in-Some.is) ∙ c.in_ok-args.ensures)

pub returns-in_err-conversion : goal.returns-in_err-conversion
returns-in_err-conversion c =
    let p = err_from_is_err_and c.from_residual-in_err-conversion.result c.from_residual-in_err-conversion.ensures.1 in
    rw (p.1, p.2) (seen_late (seen_record_of c.args.file.now (told_row c.args.row)) (ap (λ (o : Option Range). good (option_map span_of o)) (sym c.in_default.is) ∙ c.in_ok-args.ensures) c.in_err-conversion.ensures)

pub returns : goal.returns
returns c =
    let m : c.map.result ≡ option_map Conversion c.in_ok-conversion.conversion = search rules in
    ap good m
    ∙ seen_other c.in_ok-conversion.conversion (seen_record_of c.args.file.now (told_row c.args.row)) (ap (λ (o : Option Range). good (option_map span_of o)) (sym c.in_default.is) ∙ c.in_ok-args.ensures) c.in_ok-conversion.ensures
