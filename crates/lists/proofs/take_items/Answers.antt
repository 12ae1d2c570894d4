use Rattle.lists.specs.Keep.{keeping_starts, keeping_bad, keeping_last, keeping_goes}
use Rattle.scalars.specs.Answer.{number_of}
use Rattle.lists.specs.Answer.{faulty}
use Rattle.lists.specs.Lent.{item_value, lent_in, same_rooms}
use native.Mathlib.Omega.{arith}
use mathlib.Core.Path.{◌≡◌, refl, ap, ◌∙◌}
use Prim.Native.Nat.{◌+◌}
use Rattle.lists.proofs.take_items.Goals as goal

pub loop-n-init : goal.loop-n-init
loop-n-init c = let t = c.args in
    (keeping_starts (item_value t.kind) t.b.now (lent_in t.kind t.rooms.now), (refl, refl, refl, refl, refl, refl))

pub slice_bounds-t-count : goal.slice_bounds-t-count
slice_bounds-t-count c = c.item_at-w.ensures.ordered

pub slice_bounds-t-start : goal.slice_bounds-t-start
slice_bounds-t-start c = omega (arith, c.item_at-w.ensures.ordered, c.item_at-w.ensures.short, c.item_at-w.ensures.within)

pub slice_bounds-t-end : goal.slice_bounds-t-end
slice_bounds-t-end c = omega (arith, c.item_at-w.ensures.ordered, c.item_at-w.ensures.short, c.item_at-w.ensures.within)

pub overflow_add-n : goal.overflow_add-n
overflow_add-n c = omega (arith, c.loop-n.invariant.0.few, c.loop-n.invariant.0.within)

pub returns-in-Err : goal.returns-in-Err
returns-in-Err c = let t = c.args in
    let why = number_of c.in-Err.why in
    let e : c.item_at-w.result.start ≡ c.item_at-w.result.start + 0 = omega arith in
    let (x, y) = keeping_bad (item_value t.kind) t.b.now _ _ _ _ _ c.loop-n.invariant.0 c.item_at-w.result c.item_at-w.ensures c.take_item.ensures.reals_after why 0 c.in-Err.ensures.result_value in
    record { same = same_rooms c.args.rooms.now c.loop-n.rooms c.take_item.new.rooms c.loop-n.invariant.1 c.take_item.ensures.same; result_value = ap (faulty why) e ∙ x; counted_in = omega (arith, c.item_at-w.ensures.ordered, c.item_at-w.ensures.short, c.item_at-w.ensures.within); kept = y }

pub returns-then-w-b : goal.returns-then-w-b
returns-then-w-b c = let t = c.args in
    let (x, y) = keeping_last (item_value t.kind) t.b.now _ _ _ _ _ c.loop-n.invariant.0 c.item_at-w.result c.item_at-w.ensures c.take_item.ensures.reals_after c.in-Ok.ensures.result_value c.if-w-b.true in
    record { same = same_rooms c.args.rooms.now c.loop-n.rooms c.take_item.new.rooms c.loop-n.invariant.1 c.take_item.ensures.same; result_value = x; counted_in = omega (arith, c.loop-n.invariant.0.few, c.loop-n.invariant.0.within); kept = y }

pub overflow_add-i : goal.overflow_add-i
overflow_add-i c = omega (arith, c.item_at-w.ensures.within)

pub loop-n-smaller : goal.loop-n-smaller
loop-n-smaller c = omega (arith, c.item_at-w.ensures.within, c.item_at-w.ensures.above, c.if-w-b.false)

pub loop-n-preserved : goal.loop-n-preserved
loop-n-preserved c = let t = c.args in
    (keeping_goes (item_value t.kind) t.b.now _ _ _ _ _ c.loop-n.invariant.0 c.item_at-w.result c.item_at-w.ensures c.take_item.ensures.reals_after c.in-Ok.ensures.result_value (omega (arith, c.item_at-w.ensures.within, c.if-w-b.false)), same_rooms c.args.rooms.now c.loop-n.rooms c.take_item.new.rooms c.loop-n.invariant.1 c.take_item.ensures.same)
