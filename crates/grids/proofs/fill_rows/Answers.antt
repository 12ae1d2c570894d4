use Rattle.grids.specs.Rows.{gridding_starts, gridding_room, row_ready, row_place, row_last, row_goes}
use Rattle.grids.specs.Row.{room_bound}
use Rattle.lists.specs.Lent.{item_value, lent_of, room_lent}
use native.Mathlib.Omega.{arith}
use lib.ListN.{length, length-set}
use mathlib.Core.List.{[]}
use mathlib.Core.Path.{refl, ◌∙◌}
use Rattle.grids.proofs.fill_rows.Goals as goal

pub loop-kind-init : goal.loop-kind-init
loop-kind-init c = let t = c.args in
    (gridding_starts (item_value t.kind) t.b.now (lent_of t.kind t.refs.now [] t.reals.now) t.ends.now (c.requires.0, omega (arith, c.requires.1, room_lent t.kind t.refs.now [] t.reals.now), c.requires.2), (refl, refl))

pub slice_bounds-fill_row-count : goal.slice_bounds-fill_row-count
slice_bounds-fill_row-count c = c.item_at-w.ensures.ordered

pub slice_bounds-fill_row-start : goal.slice_bounds-fill_row-start
slice_bounds-fill_row-start c = omega (arith, c.item_at-w.ensures.ordered, c.item_at-w.ensures.short, c.item_at-w.ensures.within)

pub slice_bounds-fill_row-end : goal.slice_bounds-fill_row-end
slice_bounds-fill_row-end c = omega (arith, c.item_at-w.ensures.ordered, c.item_at-w.ensures.short, c.item_at-w.ensures.within)

pub fill_row-k-requires : goal.fill_row-k-requires
fill_row-k-requires c = let t = c.args in
    let e = room_lent t.kind c.loop-kind.refs [] c.loop-kind.reals in
    let (p, q) = gridding_room (item_value t.kind) t.b.now _ _ _ _ _ _ _ c.loop-kind.invariant.0 in
    let (x, y) = row_ready (item_value t.kind) t.b.now _ _ _ _ _ _ _ c.loop-kind.invariant.0 c.item_at-w.result c.item_at-w.ensures in
    record { base_bound = omega (arith, p, e); ready = (x, omega (arith, y, e)) }

pub overflow_add-numbers : goal.overflow_add-numbers
overflow_add-numbers c = let t = c.args in
    let (x, y) = row_place (item_value t.kind) t.b.now _ _ _ _ _ _ _ c.loop-kind.invariant.0 c.item_at-w.result c.item_at-w.ensures _ _ c.fill_row-k.ensures.value c.fill_row-k.ensures.reals_after in
    omega (arith, x, room_lent t.kind t.refs.now [] t.reals.now, room_bound t.kind (length t.refs.now) (length t.reals.now), c.well_formed.1.1.0.1, c.well_formed.1.1.1.0.1)

pub offset_bounds-ends-rows : goal.offset_bounds-ends-rows
offset_bounds-ends-rows c = let t = c.args in
    let (x, y) = row_place (item_value t.kind) t.b.now _ _ _ _ _ _ _ c.loop-kind.invariant.0 c.item_at-w.result c.item_at-w.ensures _ _ c.fill_row-k.ensures.value c.fill_row-k.ensures.reals_after in
    omega (arith, y.0, c.well_formed.1.1.1.1.0.1)

pub bounds-ends-rows : goal.bounds-ends-rows
bounds-ends-rows c = let t = c.args in
    let (x, y) = row_place (item_value t.kind) t.b.now _ _ _ _ _ _ _ c.loop-kind.invariant.0 c.item_at-w.result c.item_at-w.ensures _ _ c.fill_row-k.ensures.value c.fill_row-k.ensures.reals_after in
    omega (arith, y.0, y.1)

pub overflow_add-rows : goal.overflow_add-rows
overflow_add-rows c = omega (arith, c.loop-kind.invariant.0.few, c.loop-kind.invariant.0.within)

pub shape_of-ends-then-w-b : goal.shape_of-ends-then-w-b
shape_of-ends-then-w-b c = let t = c.args in
    let (x, y) = row_place (item_value t.kind) t.b.now _ _ _ _ _ _ _ c.loop-kind.invariant.0 c.item_at-w.result c.item_at-w.ensures _ _ c.fill_row-k.ensures.value c.fill_row-k.ensures.reals_after in
    length-set c.loop-kind.ends c.loop-kind.rows _ ∙ y.1

pub returns-then-w-b : goal.returns-then-w-b
returns-then-w-b c = let t = c.args in
    let q = row_last (item_value t.kind) t.b.now _ _ _ _ _ _ _ c.loop-kind.invariant.0 c.item_at-w.result c.item_at-w.ensures _ _ c.fill_row-k.ensures.value c.fill_row-k.ensures.reals_after c.if-w-b.true in record { reals_after = q.0; ends_after = q.1 }

pub overflow_add-i : goal.overflow_add-i
overflow_add-i c = omega (arith, c.item_at-w.ensures.within)

pub loop-kind-smaller : goal.loop-kind-smaller
loop-kind-smaller c = omega (arith, c.item_at-w.ensures.within, c.item_at-w.ensures.above, c.if-w-b.false)

pub loop-kind-preserved : goal.loop-kind-preserved
loop-kind-preserved c = let t = c.args in
    (row_goes (item_value t.kind) t.b.now _ _ _ _ _ _ _ c.loop-kind.invariant.0 c.item_at-w.result c.item_at-w.ensures _ _ c.fill_row-k.ensures.value c.fill_row-k.ensures.reals_after (omega (arith, c.item_at-w.ensures.within, c.if-w-b.false)), (omega arith, omega arith))
