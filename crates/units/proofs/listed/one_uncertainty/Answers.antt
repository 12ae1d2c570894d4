use Rattle.std.proofs.Common.{◌∙◌, ◌≡◌, ap, sym, rules, eq-eqb, ne_eqb}
use Rattle.std.proofs.lemmas.Result.{err_from_is_err_and}
use Rattle.statement.specs.Rows.{told_row}
use Rattle.factors.specs.SeenRecords.{seen_record_of}
use Rattle.factors.specs.Code.{find_in}
use Rattle.factors.specs.Laws.{find_none, find_row, seen_record_out}
use Rattle.units.specs.Answer.{uncertainty_of}
use Rattle.kinds.specs.Kind.{rank_one}
use Rattle.kinds.specs.Rules.{rank_of}
use Rattle.kinds.specs.declared.Kind.TheVariants.{UncertaintyMeasureWithUnit}
use Rattle.params.specs.declared.State.{State}
use Rattle.scalars.specs.Scalars.{measure_of}
use Rattle.scalars.specs.Answer.{next_of}
use Rattle.factors.specs.Factor.{number_or_none}
use Rattle.units.specs.Laws.{uncertain_missing, uncertain_row, uncertain_other, uncertain_own}
use Rattle.units.proofs.listed.one_uncertainty.Goals as goal

pub returns-in_default : goal.returns-in_default
returns-in_default c = let r = c.args.records in let s = r.file.now in let find = find_in r in
    uncertain_missing s find c.args.id (find_none s r.rows.now r.slots.now r.tables.ids c.args.id c.in_default.ensures)

pub returns-in_err-args : goal.returns-in_err-args
returns-in_err-args c = let r = c.args.records in let s = r.file.now in let find = find_in r in
    let w = told_row c.in-Some.row in
    let p = err_from_is_err_and c.from_residual.result c.from_residual.ensures.1 in
    rw (p.1, p.2) (uncertain_row s find c.args.id (seen_record_of s w) (find_row s r.rows.now r.slots.now r.tables.ids c.args.id c.in-Some.ensures) (seen_record_out (uncertainty_of s) s w c.in_err-args.ensures))

pub returns-then-ne : goal.returns-then-ne
returns-then-ne c = let r = c.args.records in let s = r.file.now in let find = find_in r in
    let w = told_row c.in-Some.row in
    let other : c.kind_in.result ≡ UncertaintyMeasureWithUnit → ⊥ = search rules in
    uncertain_row s find c.args.id (seen_record_of s w) (find_row s r.rows.now r.slots.now r.tables.ids c.args.id c.in-Some.ensures)
    (uncertain_other s find w c.in_ok-args.ensures (ne_eqb _ _ (λ e. other (c.kind_in.ensures ∙ rank_one _ _ e))))

pub returns : goal.returns
returns c = let r = c.args.records in let s = r.file.now in let find = find_in r in
    let w = told_row c.in-Some.row in
    let same : c.kind_in.result ≡ UncertaintyMeasureWithUnit = search rules in
    uncertain_row s find c.args.id (seen_record_of s w) (find_row s r.rows.now r.slots.now r.tables.ids c.args.id c.in-Some.ensures)
    (c.measure_number.ensures.number
    ∙ ap (λ (o : State). number_or_none (next_of measure_of s o.place o.end).answer) c.reader-at.ensures
    ∙ uncertain_own s find w c.in_ok-args.ensures (eq-eqb _ _ (ap rank_of (sym c.kind_in.ensures ∙ same))))
