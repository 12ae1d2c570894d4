use Rattle.std.proofs.Common.{◌∙◌, ap, sym, arith}
use Rattle.std.proofs.lemmas.Result.{err_from_is_err_and}
use Rattle.error.specs.Refusal.{good}
use Rattle.statement.specs.Rows.{told_row}
use Rattle.params.specs.Answer.{onward}
use Rattle.factors.specs.SeenRecords.{self_or, seen_record_of}
use Rattle.factors.specs.Code.{find_in}
use Rattle.units.specs.Answer.{defaults, refs_in}
use Rattle.units.specs.Units.{units_by}
use Rattle.kinds.specs.declared.Kind.TheVariants.{GlobalUnitAssignedContext}
use Rattle.units.specs.Laws.{refs_nothing, refs_inside, units_none, listed_units_is}
use Rattle.units.proofs.listed.listed_units.Goals as goal

pub returns-in_err-inside : goal.returns-in_err-inside
returns-in_err-inside c = let r = c.args.records in let s = r.file.now in let find = find_in r in
    let p = err_from_is_err_and c.from_residual.result c.from_residual.ensures.1 in
    rw (p.1, p.2) (ap (onward (units_by s find defaults)) (sym c.in_err-inside.ensures) ∙ listed_units_is s find (seen_record_of s (told_row c.args.row)))

pub slice_bounds-units_from-count : goal.slice_bounds-units_from-count
slice_bounds-units_from-count c = let r = c.args.records in let s = r.file.now in let find = find_in r in let h = refs_inside s (onward (refs_in s) (onward (self_or GlobalUnitAssignedContext) (seen_record_of s (told_row c.args.row)))) c.in_ok-inside.field-0 c.in-Some.inside c.in_ok-inside.ensures c.in-Some.is in h.0

pub slice_bounds-units_from-start : goal.slice_bounds-units_from-start
slice_bounds-units_from-start c = let r = c.args.records in let s = r.file.now in let find = find_in r in let h = refs_inside s (onward (refs_in s) (onward (self_or GlobalUnitAssignedContext) (seen_record_of s (told_row c.args.row)))) c.in_ok-inside.field-0 c.in-Some.inside c.in_ok-inside.ensures c.in-Some.is in omega (arith, h.0, h.1.0)

pub slice_bounds-units_from-end : goal.slice_bounds-units_from-end
slice_bounds-units_from-end c = let r = c.args.records in let s = r.file.now in let find = find_in r in let h = refs_inside s (onward (refs_in s) (onward (self_or GlobalUnitAssignedContext) (seen_record_of s (told_row c.args.row)))) c.in_ok-inside.field-0 c.in-Some.inside c.in_ok-inside.ensures c.in-Some.is in omega (arith, h.0, h.1.0)

pub units_from-requires : goal.units_from-requires
units_from-requires c = let r = c.args.records in let s = r.file.now in let find = find_in r in let h = refs_inside s (onward (refs_in s) (onward (self_or GlobalUnitAssignedContext) (seen_record_of s (told_row c.args.row)))) c.in_ok-inside.field-0 c.in-Some.inside c.in_ok-inside.ensures c.in-Some.is in h.1.1.0

pub returns-in-None : goal.returns-in-None
returns-in-None c = let r = c.args.records in let s = r.file.now in let find = find_in r in
    ap good c.assumed.ensures ∙ units_none s find defaults
    ∙ ap (onward (units_by s find defaults)) (sym (refs_nothing s (onward (refs_in s) (onward (self_or GlobalUnitAssignedContext) (seen_record_of s (told_row c.args.row)))) c.in_ok-inside.field-0 c.in_ok-inside.ensures c.in-None.is)) ∙ listed_units_is s find (seen_record_of s (told_row c.args.row))

pub returns-in-Some : goal.returns-in-Some
returns-in-Some c = let r = c.args.records in let s = r.file.now in let find = find_in r in let h = refs_inside s (onward (refs_in s) (onward (self_or GlobalUnitAssignedContext) (seen_record_of s (told_row c.args.row)))) c.in_ok-inside.field-0 c.in-Some.inside c.in_ok-inside.ensures c.in-Some.is in
    c.units_from.ensures ∙ ap (onward (units_by s find defaults)) (sym h.1.1.1) ∙ listed_units_is s find (seen_record_of s (told_row c.args.row))
