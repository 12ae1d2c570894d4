use Rattle.std.proofs.Common.{length, eq-eqb, ne_eqb}
use Rattle.std.proofs.lemmas.Result.{err_from_is_err_and}
use Rattle.statement.specs.Rows.{told_row}
use Rattle.factors.specs.Laws.{seen_record_out}
use Rattle.units.specs.Units.{role_of}
use Rattle.units.specs.Laws.{span_starts, role_simple, role_parts}
use Rattle.units.proofs.role.role_of.Goals as goal

pub returns-in_err-args : goal.returns-in_err-args
returns-in_err-args c =
    let p = err_from_is_err_and c.from_residual.result c.from_residual.ensures.1 in
    rw (p.1, p.2) (seen_record_out role_of c.args.file.now (told_row c.args.row) c.in_err-args.ensures)

pub returns-then-row-ne1 : goal.returns-then-row-ne1
returns-then-row-ne1 c = role_simple c.args.file.now (told_row c.args.row) c.in_ok-args.ensures (ne_eqb c.args.row.complex 1 c.if-row-ne1.true)

pub role_from-requires : goal.role_from-requires
role_from-requires c = span_starts (length c.args.file.now) c.args.row.args.start c.args.row.args.end c.in_ok-args.ensures

pub returns : goal.returns
returns c = role_parts c.args.file.now (told_row c.args.row) c.in_ok-args.ensures (eq-eqb c.args.row.complex 1 c.if-row-ne1.false) c.role_from.ensures
