use Rattle.std.proofs.Common.{◌∙◌, ◌≡◌, ap, sym, refl, Some, None}
use Rattle.std.proofs.lemmas.Result.{err_from_is_err_and}
use Rattle.error.specs.Refusal.{good}
use Rattle.statement.specs.Rows.{told_row}
use Rattle.factors.specs.SeenRecords.{seen_record_of}
use Rattle.factors.specs.Code.{find_in}
use Rattle.factors.specs.Laws.{find_none, find_row}
use Rattle.units.specs.Answer.{values_in}
use Rattle.units.specs.declared.role.Role.TheVariants.{Length, Angle, Solid}
use Rattle.units.specs.Laws.{unit_missing, unit_row, role_refused, role_none, role_solid, role_length, role_angle}
use Rattle.units.proofs.listed.one_unit.Goals as goal

pub returns-in_default : goal.returns-in_default
returns-in_default c = let r = c.args.records in let s = r.file.now in let find = find_in r in
    unit_missing s find (values_in c.args.u) c.args.id (find_none s r.rows.now r.slots.now r.tables.ids c.args.id c.in_default.ensures)

pub returns-in_err-role_of : goal.returns-in_err-role_of
returns-in_err-role_of c = let r = c.args.records in let s = r.file.now in let find = find_in r in
    let t = seen_record_of s (told_row c.in-Some.row) in
    let p = err_from_is_err_and c.from_residual.result c.from_residual.ensures.1 in
    rw (p.1, p.2) (unit_row s find (values_in c.args.u) c.args.id t (find_row s r.rows.now r.slots.now r.tables.ids c.args.id c.in-Some.ensures) (role_refused s find (values_in c.args.u) t c.in_err-role_of.ensures))

pub returns-in_err-length_factor-in-Some-Length : goal.returns-in_err-length_factor-in-Some-Length
returns-in_err-length_factor-in-Some-Length c = let r = c.args.records in let s = r.file.now in let find = find_in r in let t = seen_record_of s (told_row c.in-Some.row) in let e : c.in_ok-role_of.field-0 ≡ Some Length = cc in let h = ap good (sym e) ∙ c.in_ok-role_of.ensures in
    let p = err_from_is_err_and c.from_residual-in_err-length_factor-in-Some-Length.result c.from_residual-in_err-length_factor-in-Some-Length.ensures.1 in
    rw (p.1, p.2) (unit_row s find (values_in c.args.u) c.args.id t (find_row s r.rows.now r.slots.now r.tables.ids c.args.id c.in-Some.ensures) (role_length s find (values_in c.args.u) t h refl c.in_err-length_factor-in-Some-Length.ensures))

pub returns-in_ok-length_factor-in-Some-Length : goal.returns-in_ok-length_factor-in-Some-Length
returns-in_ok-length_factor-in-Some-Length c = let r = c.args.records in let s = r.file.now in let find = find_in r in let t = seen_record_of s (told_row c.in-Some.row) in let e : c.in_ok-role_of.field-0 ≡ Some Length = cc in let h = ap good (sym e) ∙ c.in_ok-role_of.ensures in
    unit_row s find (values_in c.args.u) c.args.id t (find_row s r.rows.now r.slots.now r.tables.ids c.args.id c.in-Some.ensures) (role_length s find (values_in c.args.u) t h (ap good c.with_length.ensures) c.in_ok-length_factor-in-Some-Length.ensures)

pub returns-in_err-angle_factor-in-Some-Angle : goal.returns-in_err-angle_factor-in-Some-Angle
returns-in_err-angle_factor-in-Some-Angle c = let r = c.args.records in let s = r.file.now in let find = find_in r in let t = seen_record_of s (told_row c.in-Some.row) in let e : c.in_ok-role_of.field-0 ≡ Some Angle = cc in let h = ap good (sym e) ∙ c.in_ok-role_of.ensures in
    let p = err_from_is_err_and c.from_residual-in_err-angle_factor-in-Some-Angle.result c.from_residual-in_err-angle_factor-in-Some-Angle.ensures.1 in
    rw (p.1, p.2) (unit_row s find (values_in c.args.u) c.args.id t (find_row s r.rows.now r.slots.now r.tables.ids c.args.id c.in-Some.ensures) (role_angle s find (values_in c.args.u) t h refl c.in_err-angle_factor-in-Some-Angle.ensures))

pub returns-in_ok-angle_factor-in-Some-Angle : goal.returns-in_ok-angle_factor-in-Some-Angle
returns-in_ok-angle_factor-in-Some-Angle c = let r = c.args.records in let s = r.file.now in let find = find_in r in let t = seen_record_of s (told_row c.in-Some.row) in let e : c.in_ok-role_of.field-0 ≡ Some Angle = cc in let h = ap good (sym e) ∙ c.in_ok-role_of.ensures in
    unit_row s find (values_in c.args.u) c.args.id t (find_row s r.rows.now r.slots.now r.tables.ids c.args.id c.in-Some.ensures) (role_angle s find (values_in c.args.u) t h (ap good c.with_angle.ensures) c.in_ok-angle_factor-in-Some-Angle.ensures)

pub returns-in-Some-Solid : goal.returns-in-Some-Solid
returns-in-Some-Solid c = let r = c.args.records in let s = r.file.now in let find = find_in r in let t = seen_record_of s (told_row c.in-Some.row) in let e : c.in_ok-role_of.field-0 ≡ Some Solid = cc in let h = ap good (sym e) ∙ c.in_ok-role_of.ensures in unit_row s find (values_in c.args.u) c.args.id t (find_row s r.rows.now r.slots.now r.tables.ids c.args.id c.in-Some.ensures) (role_solid s find (values_in c.args.u) t h)

pub returns-in-None : goal.returns-in-None
returns-in-None c = let r = c.args.records in let s = r.file.now in let find = find_in r in let t = seen_record_of s (told_row c.in-Some.row) in let e : c.in_ok-role_of.field-0 ≡ None = cc in let h = ap good (sym e) ∙ c.in_ok-role_of.ensures in unit_row s find (values_in c.args.u) c.args.id t (find_row s r.rows.now r.slots.now r.tables.ids c.args.id c.in-Some.ensures) (role_none s find (values_in c.args.u) t h)
