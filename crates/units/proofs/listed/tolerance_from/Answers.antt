use Rattle.std.proofs.Common.{◌∙◌, ap, sym, refl, arith, ℕ, Option, option_map, Float}
use Rattle.std.proofs.lemmas.Result.{err_from_is_err_and}
use Rattle.std.specs.Float.{binary64}
use Rattle.std.specs.Float.Ieee.{to_bits}
use Rattle.error.specs.Refusal.{good}
use Rattle.factors.specs.Code.{find_in}
use Rattle.units.specs.Units.{tolerance_by}
use Rattle.units.specs.Code.{ids_of}
use Rattle.lists.specs.Answer.{as_fate}
use Rattle.reals.specs.Answer.{told_reference}
use Rattle.units.specs.Laws.{refs_reading_starts, refs_reading_bad, refs_reading_here, refs_reading_last, refs_reading_goes, thousandth_bits, tolerance_is, tolerance_bad, tolerance_more, tolerance_last}
use Rattle.units.proofs.listed.tolerance_from.Goals as goal

pub loop-id-init : goal.loop-id-init
loop-id-init c = let r = c.args.records in let s = r.file.now in let find = find_in r in let b = c.args.b.now in
    refs_reading_starts b (tolerance_by s find) (tolerance_by s find (ids_of b)) c.requires refl

pub slice_bounds-parse_ref-count : goal.slice_bounds-parse_ref-count
slice_bounds-parse_ref-count c = c.item_at-item.ensures.ordered

pub slice_bounds-parse_ref-start : goal.slice_bounds-parse_ref-start
slice_bounds-parse_ref-start c = omega (arith, c.item_at-item.ensures.ordered, c.item_at-item.ensures.short, c.item_at-item.ensures.within)

pub slice_bounds-parse_ref-end : goal.slice_bounds-parse_ref-end
slice_bounds-parse_ref-end c = omega (arith, c.item_at-item.ensures.ordered, c.item_at-item.ensures.short, c.item_at-item.ensures.within)

pub returns-in_default : goal.returns-in_default
returns-in_default c = let r = c.args.records in let s = r.file.now in let find = find_in r in let b = c.args.b.now in
    absurd (refs_reading_bad b (tolerance_by s find) (tolerance_by s find (ids_of b)) c.loop-id.i c.loop-id.invariant c.item_at-item.result c.item_at-item.ensures 12 0 (ap (λ (o : Option ℕ). as_fate (told_reference o)) (sym c.in_default.is) ∙ ap as_fate c.parse_ref.ensures))

pub overflow_add-i : goal.overflow_add-i
overflow_add-i c = omega (arith, c.item_at-item.ensures.within)

pub loop-id-smaller : goal.loop-id-smaller
loop-id-smaller c = omega (arith, c.item_at-item.ensures.within, c.item_at-item.ensures.above, c.if-item-b.false)

pub returns-in_err-tolerance : goal.returns-in_err-tolerance
returns-in_err-tolerance c = let r = c.args.records in let s = r.file.now in let find = find_in r in let b = c.args.b.now in
    let (l, k) = refs_reading_here b (tolerance_by s find) (tolerance_by s find (ids_of b)) c.loop-id.i c.loop-id.invariant c.item_at-item.result c.item_at-item.ensures c.in-Some.id (ap (λ (o : Option ℕ). as_fate (told_reference o)) (sym c.in-Some.is) ∙ ap as_fate c.parse_ref.ensures) in
    let p = err_from_is_err_and c.from_residual.result c.from_residual.ensures.1 in
    rw (p.1, p.2) (tolerance_bad s find c.in-Some.id l c.in_err-tolerance.ensures ∙ k)

pub returns-in-Some-2 : goal.returns-in-Some-2
returns-in-Some-2 c = let r = c.args.records in let s = r.file.now in let find = find_in r in let b = c.args.b.now in
    let (l, k) = refs_reading_here b (tolerance_by s find) (tolerance_by s find (ids_of b)) c.loop-id.i c.loop-id.invariant c.item_at-item.result c.item_at-item.ensures c.in-Some.id (ap (λ (o : Option ℕ). as_fate (told_reference o)) (sym c.in-Some.is) ∙ ap as_fate c.parse_ref.ensures) in
    tolerance_is s find c.in-Some.id l (ap (λ (o : Option Float). good (option_map (to_bits binary64) o)) (sym c.in-Some-2.is) ∙ c.in_ok-tolerance.ensures) ∙ k

pub returns-then-item-b : goal.returns-then-item-b
returns-then-item-b c = let r = c.args.records in let s = r.file.now in let find = find_in r in let b = c.args.b.now in
    ap good thousandth_bits ∙ tolerance_last s find c.in-Some.id (ap (λ (o : Option Float). good (option_map (to_bits binary64) o)) (sym c.in_default-2.is) ∙ c.in_ok-tolerance.ensures) ∙ refs_reading_last b (tolerance_by s find) (tolerance_by s find (ids_of b)) c.loop-id.i c.loop-id.invariant c.item_at-item.result c.item_at-item.ensures c.in-Some.id (ap (λ (o : Option ℕ). as_fate (told_reference o)) (sym c.in-Some.is) ∙ ap as_fate c.parse_ref.ensures) c.if-item-b.true

pub loop-id-preserved : goal.loop-id-preserved
loop-id-preserved c = let r = c.args.records in let s = r.file.now in let find = find_in r in let b = c.args.b.now in
    refs_reading_goes b (tolerance_by s find) (tolerance_by s find (ids_of b)) c.loop-id.i c.loop-id.invariant c.item_at-item.result c.item_at-item.ensures c.in-Some.id (ap (λ (o : Option ℕ). as_fate (told_reference o)) (sym c.in-Some.is) ∙ ap as_fate c.parse_ref.ensures) (tolerance_by s find) (tolerance_more s find c.in-Some.id (ap (λ (o : Option Float). good (option_map (to_bits binary64) o)) (sym c.in_default-2.is) ∙ c.in_ok-tolerance.ensures)) (omega (arith, c.item_at-item.ensures.within, c.if-item-b.false))
