use Rattle.std.proofs.Common.{◌∙◌, ap, sym, arith}
use Rattle.std.proofs.lemmas.Result.{err_from_is_err_and}
use Rattle.error.specs.Refusal.{good}
use Rattle.statement.specs.Rows.{told_row}
use Rattle.params.specs.Answer.{onward}
use Rattle.factors.specs.SeenRecords.{self_or, seen_record_of}
use Rattle.factors.specs.Code.{find_in}
use Rattle.units.specs.Answer.{refs_in}
use Rattle.units.specs.Units.{tolerance_by}
use Rattle.kinds.specs.declared.Kind.TheVariants.{GlobalUncertaintyAssignedContext}
use Rattle.units.specs.Laws.{refs_nothing, refs_inside, tolerance_none, listed_tolerance_is, thousandth_bits}
use Rattle.units.proofs.listed.listed_tolerance.Goals as goal

pub returns-in_err-inside : goal.returns-in_err-inside
returns-in_err-inside c = let r = c.args.records in let s = r.file.now in let find = find_in r in
    let p = err_from_is_err_and c.from_residual.result c.from_residual.ensures.1 in
    rw (p.1, p.2) (ap (onward (tolerance_by s find)) (sym c.in_err-inside.ensures) ∙ listed_tolerance_is s find (seen_record_of s (told_row c.args.row)))

pub slice_bounds-tolerance_from-count : goal.slice_bounds-tolerance_from-count
slice_bounds-tolerance_from-count c = let r = c.args.records in let s = r.file.now in let find = find_in r in let h = refs_inside s (onward (refs_in s) (onward (self_or GlobalUncertaintyAssignedContext) (seen_record_of s (told_row c.args.row)))) c.in_ok-inside.field-0 c.in-Some.inside c.in_ok-inside.ensures c.in-Some.is in h.0

pub slice_bounds-tolerance_from-start : goal.slice_bounds-tolerance_from-start
slice_bounds-tolerance_from-start c = let r = c.args.records in let s = r.file.now in let find = find_in r in let h = refs_inside s (onward (refs_in s) (onward (self_or GlobalUncertaintyAssignedContext) (seen_record_of s (told_row c.args.row)))) c.in_ok-inside.field-0 c.in-Some.inside c.in_ok-inside.ensures c.in-Some.is in omega (arith, h.0, h.1.0)

pub slice_bounds-tolerance_from-end : goal.slice_bounds-tolerance_from-end
slice_bounds-tolerance_from-end c = let r = c.args.records in let s = r.file.now in let find = find_in r in let h = refs_inside s (onward (refs_in s) (onward (self_or GlobalUncertaintyAssignedContext) (seen_record_of s (told_row c.args.row)))) c.in_ok-inside.field-0 c.in-Some.inside c.in_ok-inside.ensures c.in-Some.is in omega (arith, h.0, h.1.0)

pub tolerance_from-requires : goal.tolerance_from-requires
tolerance_from-requires c = let r = c.args.records in let s = r.file.now in let find = find_in r in let h = refs_inside s (onward (refs_in s) (onward (self_or GlobalUncertaintyAssignedContext) (seen_record_of s (told_row c.args.row)))) c.in_ok-inside.field-0 c.in-Some.inside c.in_ok-inside.ensures c.in-Some.is in h.1.1.0

pub returns-in-None : goal.returns-in-None
returns-in-None c = let r = c.args.records in let s = r.file.now in let find = find_in r in
    ap good thousandth_bits ∙ tolerance_none s find
    ∙ ap (onward (tolerance_by s find)) (sym (refs_nothing s (onward (refs_in s) (onward (self_or GlobalUncertaintyAssignedContext) (seen_record_of s (told_row c.args.row)))) c.in_ok-inside.field-0 c.in_ok-inside.ensures c.in-None.is)) ∙ listed_tolerance_is s find (seen_record_of s (told_row c.args.row))

pub returns-in-Some : goal.returns-in-Some
returns-in-Some c = let r = c.args.records in let s = r.file.now in let find = find_in r in let h = refs_inside s (onward (refs_in s) (onward (self_or GlobalUncertaintyAssignedContext) (seen_record_of s (told_row c.args.row)))) c.in_ok-inside.field-0 c.in-Some.inside c.in_ok-inside.ensures c.in-Some.is in
    c.tolerance_from.ensures ∙ ap (onward (tolerance_by s find)) (sym h.1.1.1) ∙ listed_tolerance_is s find (seen_record_of s (told_row c.args.row))
