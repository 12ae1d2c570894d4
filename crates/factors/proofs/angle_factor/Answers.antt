use Rattle.std.proofs.Common.{◌∙◌, ◌≡◌, ap, sym, Some}
use Rattle.std.proofs.lemmas.Result.{err_from_is_err_and}
use Rattle.error.specs.Refusal.{good}
use Rattle.params.specs.Answer.{onward}
use Rattle.statement.specs.Rows.{told_row}
use Rattle.factors.specs.SeenRecords.{seen_record_of}
use Rattle.factors.specs.Factor.{angle_number}
use Rattle.factors.specs.Code.{find_in}
use Rattle.factors.specs.declared.UnitArgs.TheVariants.{Si, Conversion}
use Rattle.factors.specs.Laws.{angle_refused, angle_si, angle_neither, angle_conversion}
use Rattle.factors.proofs.angle_factor.Goals as goal

pub returns-in_err-unit_at : goal.returns-in_err-unit_at
returns-in_err-unit_at c = let r = c.args.records in
    let p = err_from_is_err_and c.from_residual.result c.from_residual.ensures.1 in
    rw (p.1, p.2) (angle_refused r.file.now (find_in r) (seen_record_of r.file.now (told_row c.args.row)) c.in_err-unit_at.ensures)

pub returns-in-None : goal.returns-in-None
returns-in-None c = let r = c.args.records in
    angle_neither r.file.now (find_in r) (seen_record_of r.file.now (told_row c.args.row)) (ap good (sym c.in-None.is) ∙ c.in_ok-unit_at.ensures)

pub returns-in-Some-Si : goal.returns-in-Some-Si
returns-in-Some-Si c = let r = c.args.records in
    let e : c.in_ok-unit_at.field-0 ≡ Some (Si c.in-Some-Si.args) = cc in
    let h = ap good (sym e) ∙ c.in_ok-unit_at.ensures in
    angle_si r.file.now (find_in r) c.in-Some-Si.args (seen_record_of r.file.now (told_row c.args.row)) h c.si_angle.ensures

pub returns-in_err-measure_ref-in-Some-Conversion : goal.returns-in_err-measure_ref-in-Some-Conversion
returns-in_err-measure_ref-in-Some-Conversion c = let r = c.args.records in
    let e : c.in_ok-unit_at.field-0 ≡ Some (Conversion c.in-Some-Conversion.args) = cc in
    let h = ap good (sym e) ∙ c.in_ok-unit_at.ensures in
    let p = err_from_is_err_and c.from_residual-in_err-measure_ref-in-Some-Conversion.result c.from_residual-in_err-measure_ref-in-Some-Conversion.ensures.1 in
    rw (p.1, p.2) (angle_conversion r.file.now (find_in r) c.in-Some-Conversion.args (told_row c.args.row) h (ap (onward (angle_number r.file.now (find_in r))) c.in_err-measure_ref-in-Some-Conversion.ensures))

pub returns-in_ok-measure_ref-in-Some-Conversion : goal.returns-in_ok-measure_ref-in-Some-Conversion
returns-in_ok-measure_ref-in-Some-Conversion c = let r = c.args.records in
    let e : c.in_ok-unit_at.field-0 ≡ Some (Conversion c.in-Some-Conversion.args) = cc in
    let h = ap good (sym e) ∙ c.in_ok-unit_at.ensures in
    angle_conversion r.file.now (find_in r) c.in-Some-Conversion.args (told_row c.args.row) h (c.angle_number.ensures ∙ ap (onward (angle_number r.file.now (find_in r))) c.in_ok-measure_ref-in-Some-Conversion.ensures)
