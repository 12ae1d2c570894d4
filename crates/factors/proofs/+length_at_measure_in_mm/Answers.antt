use Rattle.std.proofs.Common.{◌∙◌, ◌≡◌, ap, sym, Option, Some, option_map, Float, ne_eqb}
use Rattle.std.proofs.lemmas.Result.{err_from_is_err_and}
use Rattle.std.specs.Float.{binary64}
use Rattle.std.specs.Float.Ieee.{to_bits}
use Rattle.error.specs.Refusal.{good}
use Rattle.nearest.specs.Product.{product}
use Rattle.statement.specs.Rows.{told_row}
use Rattle.statement.specs.declared.Range.{Range}
use Rattle.factors.specs.SeenRecords.{seen_record_of}
use Rattle.factors.specs.Factor.{length_of}
use Rattle.factors.specs.Answer.{span_of}
use Rattle.factors.specs.Code.{find_in}
use Rattle.factors.specs.declared.UnitArgs.TheVariants.{Si, Conversion}
use Rattle.factors.specs.Laws.{length_refused, length_neither, length_si, length_deep, length_unnamed, length_leads, find_none, find_row, measure_missing, measure_refused, measure_none, measure_some, at_refused, at_unread, at_read, base_unread, base_missing, base_row}
use Rattle.factors.proofs.+length_at_measure_in_mm.Goals as goal

pub length_at-returns-in_err-unit_at : goal.length_at-returns-in_err-unit_at
length_at-returns-in_err-unit_at t c = let r = c.args.records in
    let p = err_from_is_err_and c.from_residual.result c.from_residual.ensures.1 in
    rw (p.1, p.2) (length_refused r.file.now (find_in r) c.args.left (seen_record_of r.file.now (told_row c.args.row)) c.in_err-unit_at.ensures)

pub length_at-returns-in-None : goal.length_at-returns-in-None
length_at-returns-in-None t c = let r = c.args.records in length_neither r.file.now (find_in r) c.args.left (seen_record_of r.file.now (told_row c.args.row)) (ap good (sym c.in-None.is) ∙ c.in_ok-unit_at.ensures)

pub length_at-returns-in-Some-Si : goal.length_at-returns-in-Some-Si
length_at-returns-in-Some-Si t c = let r = c.args.records in
    let e : c.in_ok-unit_at.field-0 ≡ Some (Si c.in-Some-Si.args) = cc in
    let h = ap good (sym e) ∙ c.in_ok-unit_at.ensures in
    length_si r.file.now (find_in r) c.args.left c.in-Some-Si.args (seen_record_of r.file.now (told_row c.args.row)) h c.si_length.ensures

pub length_at-returns-then-left-eq0 : goal.length_at-returns-then-left-eq0
length_at-returns-then-left-eq0 t c = let r = c.args.records in
    let e : c.in_ok-unit_at.field-0 ≡ Some (Conversion c.in-Some-Conversion.args) = cc in
    let h = ap good (sym e) ∙ c.in_ok-unit_at.ensures in
    length_deep r.file.now (find_in r) c.args.left c.in-Some-Conversion.args (told_row c.args.row) h c.if-left-eq0.true

pub length_at-returns-in_err-id-in-Some-Conversion : goal.length_at-returns-in_err-id-in-Some-Conversion
length_at-returns-in_err-id-in-Some-Conversion t c = let r = c.args.records in
    let e : c.in_ok-unit_at.field-0 ≡ Some (Conversion c.in-Some-Conversion.args) = cc in
    let h = ap good (sym e) ∙ c.in_ok-unit_at.ensures in
    let p = err_from_is_err_and c.from_residual-in_err-id-in-Some-Conversion.result c.from_residual-in_err-id-in-Some-Conversion.ensures.1 in
    rw (p.1, p.2) (length_unnamed r.file.now (find_in r) c.args.left c.in-Some-Conversion.args (told_row c.args.row) h (ne_eqb _ _ c.if-left-eq0.false) c.in_err-id-in-Some-Conversion.ensures)

pub length_at-returns-in_ok-id-in-Some-Conversion : goal.length_at-returns-in_ok-id-in-Some-Conversion
length_at-returns-in_ok-id-in-Some-Conversion t c = let r = c.args.records in
    let e : c.in_ok-unit_at.field-0 ≡ Some (Conversion c.in-Some-Conversion.args) = cc in
    let h = ap good (sym e) ∙ c.in_ok-unit_at.ensures in
    c.measure_in_mm.ensures ∙ length_leads r.file.now (find_in r) c.args.left c.in-Some-Conversion.args (told_row c.args.row) h (ne_eqb _ _ c.if-left-eq0.false) c.in_ok-id-in-Some-Conversion.ensures

pub measure_in_mm-returns-in_default : goal.measure_in_mm-returns-in_default
measure_in_mm-returns-in_default t c = let r = c.args.records in
    measure_missing r.file.now (find_in r) (length_of r.file.now (find_in r) c.args.left) c.args.id (find_none r.file.now r.rows.now r.slots.now r.tables.ids c.args.id c.in_default.ensures)

pub measure_in_mm-returns-in_err-args : goal.measure_in_mm-returns-in_err-args
measure_in_mm-returns-in_err-args t c = let r = c.args.records in
    let p = err_from_is_err_and c.from_residual.result c.from_residual.ensures.1 in
    rw (p.1, p.2) (measure_refused r.file.now (find_in r) (length_of r.file.now (find_in r) c.args.left) c.args.id (seen_record_of r.file.now (told_row c.in-Some.measure)) (find_row r.file.now r.rows.now r.slots.now r.tables.ids c.args.id c.in-Some.ensures) c.in_err-args.ensures)

pub measure_in_mm-returns-in_default-2 : goal.measure_in_mm-returns-in_default-2
measure_in_mm-returns-in_default-2 t c = let r = c.args.records in
    measure_none r.file.now (find_in r) (length_of r.file.now (find_in r) c.args.left) c.args.id (seen_record_of r.file.now (told_row c.in-Some.measure)) (find_row r.file.now r.rows.now r.slots.now r.tables.ids c.args.id c.in-Some.ensures) (ap (λ (o : Option Range). good (option_map span_of o)) (sym c.in_default-2.is) ∙ c.in_ok-args.ensures)

pub measure_in_mm-returns-in_err-number : goal.measure_in_mm-returns-in_err-number
measure_in_mm-returns-in_err-number t c = let r = c.args.records in
    let p = err_from_is_err_and c.from_residual-in_err-number.result c.from_residual-in_err-number.ensures.1 in
    rw (p.1, p.2) (at_refused r.file.now (find_in r) (length_of r.file.now (find_in r) c.args.left) (span_of c.in-Some-2.args) c.reader-at.result c.reader-at.ensures c.in_err-number.ensures.number ∙ sym (measure_some r.file.now (find_in r) (length_of r.file.now (find_in r) c.args.left) c.args.id (seen_record_of r.file.now (told_row c.in-Some.measure)) (find_row r.file.now r.rows.now r.slots.now r.tables.ids c.args.id c.in-Some.ensures) (ap (λ (o : Option Range). good (option_map span_of o)) (sym c.in-Some-2.is) ∙ c.in_ok-args.ensures)))

pub measure_in_mm-returns-in_default-3 : goal.measure_in_mm-returns-in_default-3
measure_in_mm-returns-in_default-3 t c = let r = c.args.records in
    at_unread r.file.now (find_in r) (length_of r.file.now (find_in r) c.args.left) (span_of c.in-Some-2.args) c.reader-at.result c.reader-at.ensures (ap (λ (o : Option Float). good (option_map (to_bits binary64) o)) (sym c.in_default-3.is) ∙ c.in_ok-number.ensures.number)
    ∙ sym (measure_some r.file.now (find_in r) (length_of r.file.now (find_in r) c.args.left) c.args.id (seen_record_of r.file.now (told_row c.in-Some.measure)) (find_row r.file.now r.rows.now r.slots.now r.tables.ids c.args.id c.in-Some.ensures) (ap (λ (o : Option Range). good (option_map span_of o)) (sym c.in-Some-2.is) ∙ c.in_ok-args.ensures))

pub measure_in_mm-returns-in_default-next_ref : goal.measure_in_mm-returns-in_default-next_ref
measure_in_mm-returns-in_default-next_ref t c = let r = c.args.records in
    base_unread r.file.now (find_in r) (length_of r.file.now (find_in r) c.args.left) (to_bits binary64 c.in-Some-3.number) c.measure_number.new.at.place c.measure_number.new.at.end c.in_default-next_ref.ensures
    ∙ at_read r.file.now (find_in r) (length_of r.file.now (find_in r) c.args.left) (span_of c.in-Some-2.args) c.reader-at.result c.reader-at.ensures (to_bits binary64 c.in-Some-3.number) c.measure_number.new.at (ap (λ (o : Option Float). good (option_map (to_bits binary64) o)) (sym c.in-Some-3.is) ∙ c.in_ok-number.ensures.number) c.in_ok-number.ensures.at_after
    ∙ sym (measure_some r.file.now (find_in r) (length_of r.file.now (find_in r) c.args.left) c.args.id (seen_record_of r.file.now (told_row c.in-Some.measure)) (find_row r.file.now r.rows.now r.slots.now r.tables.ids c.args.id c.in-Some.ensures) (ap (λ (o : Option Range). good (option_map span_of o)) (sym c.in-Some-2.is) ∙ c.in_ok-args.ensures))

pub measure_in_mm-returns-in_default-get : goal.measure_in_mm-returns-in_default-get
measure_in_mm-returns-in_default-get t c = let r = c.args.records in
    base_missing r.file.now (find_in r) (length_of r.file.now (find_in r) c.args.left) (to_bits binary64 c.in-Some-3.number) c.measure_number.new.at.place c.measure_number.new.at.end c.in-Ok.ensures (find_none r.file.now r.rows.now r.slots.now r.tables.ids c.in-Ok.base c.in_default-get.ensures)
    ∙ at_read r.file.now (find_in r) (length_of r.file.now (find_in r) c.args.left) (span_of c.in-Some-2.args) c.reader-at.result c.reader-at.ensures (to_bits binary64 c.in-Some-3.number) c.measure_number.new.at (ap (λ (o : Option Float). good (option_map (to_bits binary64) o)) (sym c.in-Some-3.is) ∙ c.in_ok-number.ensures.number) c.in_ok-number.ensures.at_after
    ∙ sym (measure_some r.file.now (find_in r) (length_of r.file.now (find_in r) c.args.left) c.args.id (seen_record_of r.file.now (told_row c.in-Some.measure)) (find_row r.file.now r.rows.now r.slots.now r.tables.ids c.args.id c.in-Some.ensures) (ap (λ (o : Option Range). good (option_map span_of o)) (sym c.in-Some-2.is) ∙ c.in_ok-args.ensures))

pub measure_in_mm-returns-in_err-factor : goal.measure_in_mm-returns-in_err-factor
measure_in_mm-returns-in_err-factor t c = let r = c.args.records in
    let p = err_from_is_err_and c.from_residual-in_err-factor.result c.from_residual-in_err-factor.ensures.1 in
    rw (p.1, p.2) (
    base_row r.file.now (find_in r) (length_of r.file.now (find_in r) c.args.left) (to_bits binary64 c.in-Some-3.number) c.measure_number.new.at.place c.measure_number.new.at.end (seen_record_of r.file.now (told_row c.in-Some-get.unit)) c.in-Ok.ensures (find_row r.file.now r.rows.now r.slots.now r.tables.ids c.in-Ok.base c.in-Some-get.ensures) c.in_err-factor.ensures
    ∙ at_read r.file.now (find_in r) (length_of r.file.now (find_in r) c.args.left) (span_of c.in-Some-2.args) c.reader-at.result c.reader-at.ensures (to_bits binary64 c.in-Some-3.number) c.measure_number.new.at (ap (λ (o : Option Float). good (option_map (to_bits binary64) o)) (sym c.in-Some-3.is) ∙ c.in_ok-number.ensures.number) c.in_ok-number.ensures.at_after
    ∙ sym (measure_some r.file.now (find_in r) (length_of r.file.now (find_in r) c.args.left) c.args.id (seen_record_of r.file.now (told_row c.in-Some.measure)) (find_row r.file.now r.rows.now r.slots.now r.tables.ids c.args.id c.in-Some.ensures) (ap (λ (o : Option Range). good (option_map span_of o)) (sym c.in-Some-2.is) ∙ c.in_ok-args.ensures))
    )

pub measure_in_mm-returns : goal.measure_in_mm-returns
measure_in_mm-returns t c = let r = c.args.records in
    ap good c.scaled.ensures
    ∙ base_row r.file.now (find_in r) (length_of r.file.now (find_in r) c.args.left) (to_bits binary64 c.in-Some-3.number) c.measure_number.new.at.place c.measure_number.new.at.end (seen_record_of r.file.now (told_row c.in-Some-get.unit)) c.in-Ok.ensures (find_row r.file.now r.rows.now r.slots.now r.tables.ids c.in-Ok.base c.in-Some-get.ensures) c.in_ok-factor.ensures
    ∙ at_read r.file.now (find_in r) (length_of r.file.now (find_in r) c.args.left) (span_of c.in-Some-2.args) c.reader-at.result c.reader-at.ensures (to_bits binary64 c.in-Some-3.number) c.measure_number.new.at (ap (λ (o : Option Float). good (option_map (to_bits binary64) o)) (sym c.in-Some-3.is) ∙ c.in_ok-number.ensures.number) c.in_ok-number.ensures.at_after
    ∙ sym (measure_some r.file.now (find_in r) (length_of r.file.now (find_in r) c.args.left) c.args.id (seen_record_of r.file.now (told_row c.in-Some.measure)) (find_row r.file.now r.rows.now r.slots.now r.tables.ids c.args.id c.in-Some.ensures) (ap (λ (o : Option Range). good (option_map span_of o)) (sym c.in-Some-2.is) ∙ c.in_ok-args.ensures))
