use Rattle.std.proofs.Common.{◌∙◌, ap, sym, arith, ℕ, Option}
use Rattle.std.proofs.lemmas.Result.{err_from_is_err_and}
use Rattle.factors.specs.Code.{find_in}
use Rattle.units.specs.Answer.{Units, defaults, values_in}
use Rattle.units.specs.Units.{units_by}
use Rattle.units.specs.Code.{ids_of}
use Rattle.lists.specs.Answer.{as_fate}
use Rattle.reals.specs.Answer.{told_reference}
use Rattle.units.specs.Laws.{refs_reading_starts, refs_reading_bad, refs_reading_here, refs_reading_last, refs_reading_goes, units_bad, units_more, units_last}
use Rattle.units.proofs.listed.units_from.Goals as goal

pub loop-id-init : goal.loop-id-init
loop-id-init c = let r = c.args.records in let s = r.file.now in let find = find_in r in let b = c.args.b.now in
    refs_reading_starts b (units_by s find (values_in c.assumed-u.result)) (units_by s find defaults (ids_of b)) c.requires (ap (λ (u : Units). units_by s find u (ids_of b)) c.assumed-u.ensures)

pub slice_bounds-parse_ref-count : goal.slice_bounds-parse_ref-count
slice_bounds-parse_ref-count c = c.item_at-item.ensures.ordered

pub slice_bounds-parse_ref-start : goal.slice_bounds-parse_ref-start
slice_bounds-parse_ref-start c = omega (arith, c.item_at-item.ensures.ordered, c.item_at-item.ensures.short, c.item_at-item.ensures.within)

pub slice_bounds-parse_ref-end : goal.slice_bounds-parse_ref-end
slice_bounds-parse_ref-end c = omega (arith, c.item_at-item.ensures.ordered, c.item_at-item.ensures.short, c.item_at-item.ensures.within)

pub returns-in_default : goal.returns-in_default
returns-in_default c = let r = c.args.records in let s = r.file.now in let find = find_in r in let b = c.args.b.now in
    absurd (refs_reading_bad b (units_by s find (values_in c.loop-id.u)) (units_by s find defaults (ids_of b)) c.loop-id.i c.loop-id.invariant c.item_at-item.result c.item_at-item.ensures 12 0 (ap (λ (o : Option ℕ). as_fate (told_reference o)) (sym c.in_default.is) ∙ ap as_fate c.parse_ref.ensures))

pub overflow_add-i : goal.overflow_add-i
overflow_add-i c = omega (arith, c.item_at-item.ensures.within)

pub loop-id-smaller : goal.loop-id-smaller
loop-id-smaller c = omega (arith, c.item_at-item.ensures.within, c.item_at-item.ensures.above, c.if-item-b.false)

pub returns-in_err-u : goal.returns-in_err-u
returns-in_err-u c = let r = c.args.records in let s = r.file.now in let find = find_in r in let b = c.args.b.now in
    let (l, k) = refs_reading_here b (units_by s find (values_in c.loop-id.u)) (units_by s find defaults (ids_of b)) c.loop-id.i c.loop-id.invariant c.item_at-item.result c.item_at-item.ensures c.in-Some.id (ap (λ (o : Option ℕ). as_fate (told_reference o)) (sym c.in-Some.is) ∙ ap as_fate c.parse_ref.ensures) in
    let p = err_from_is_err_and c.from_residual.result c.from_residual.ensures.1 in
    rw (p.1, p.2) (units_bad s find (values_in c.loop-id.u) c.in-Some.id l c.in_err-u.ensures ∙ k)

pub returns-then-item-b : goal.returns-then-item-b
returns-then-item-b c = let r = c.args.records in let s = r.file.now in let find = find_in r in let b = c.args.b.now in
    units_last s find (values_in c.loop-id.u) c.in-Some.id c.in_ok-u.ensures ∙ refs_reading_last b (units_by s find (values_in c.loop-id.u)) (units_by s find defaults (ids_of b)) c.loop-id.i c.loop-id.invariant c.item_at-item.result c.item_at-item.ensures c.in-Some.id (ap (λ (o : Option ℕ). as_fate (told_reference o)) (sym c.in-Some.is) ∙ ap as_fate c.parse_ref.ensures) c.if-item-b.true

pub loop-id-preserved : goal.loop-id-preserved
loop-id-preserved c = let r = c.args.records in let s = r.file.now in let find = find_in r in let b = c.args.b.now in
    refs_reading_goes b (units_by s find (values_in c.loop-id.u)) (units_by s find defaults (ids_of b)) c.loop-id.i c.loop-id.invariant c.item_at-item.result c.item_at-item.ensures c.in-Some.id (ap (λ (o : Option ℕ). as_fate (told_reference o)) (sym c.in-Some.is) ∙ ap as_fate c.parse_ref.ensures) (units_by s find (values_in c.in_ok-u.u)) (units_more s find (values_in c.loop-id.u) c.in-Some.id c.in_ok-u.ensures) (omega (arith, c.item_at-item.ensures.within, c.if-item-b.false))
