use Rattle.lists.specs.Laws.{tally_starts, tally_bad, tally_last, tally_more}
use Rattle.grids.specs.Grid.{size, add_row, row_of}
use Rattle.std.proofs.Math.Nat.{min-eq_left}
use native.Mathlib.Omega.{arith}
use lib.ListN.{drop, length-drop}
use lib.Seq.{length-take-le}
use Prim.Native.Nat.{◌+◌, ◌-◌, ◌≤◌}
use Rattle.grids.proofs.count_rows.Goals as goal

pub loop-k-init : goal.loop-k-init
loop-k-init c = (omega arith, omega arith, omega arith, tally_starts (row_of c.args.kind) add_row (size 0 0) c.args.b.now)

pub slice_bounds-count_list-count : goal.slice_bounds-count_list-count
slice_bounds-count_list-count c = c.item_at-w.ensures.ordered

pub slice_bounds-count_list-start : goal.slice_bounds-count_list-start
slice_bounds-count_list-start c = omega (arith, c.item_at-w.ensures.ordered, c.item_at-w.ensures.short, c.item_at-w.ensures.within)

pub slice_bounds-count_list-end : goal.slice_bounds-count_list-end
slice_bounds-count_list-end c = omega (arith, c.item_at-w.ensures.ordered, c.item_at-w.ensures.short, c.item_at-w.ensures.within)

pub overflow_add-numbers : goal.overflow_add-numbers
overflow_add-numbers c = let w = length-take-le (c.item_at-w.result.stop - c.item_at-w.result.start) (drop c.item_at-w.result.start c.args.b.now) (omega (arith, c.item_at-w.ensures.short, c.item_at-w.ensures.within, length-drop c.item_at-w.result.start c.args.b.now)) in
    omega (arith, w, c.item_at-w.ensures.ordered, c.item_at-w.ensures.short, c.item_at-w.ensures.within, c.item_at-w.ensures.begins, c.in-Ok.ensures.counted_in)

pub returns-in-Err : goal.returns-in-Err
returns-in-Err c = let w = length-take-le (c.item_at-w.result.stop - c.item_at-w.result.start) (drop c.item_at-w.result.start c.args.b.now) (omega (arith, c.item_at-w.ensures.short, c.item_at-w.ensures.within, length-drop c.item_at-w.result.start c.args.b.now)) in
    let l : c.item_at-w.result.start + c.in-Err.bad.place ≤ 18446744073709551615 = omega (arith, w, c.item_at-w.ensures.ordered, c.item_at-w.ensures.short, c.item_at-w.ensures.within, c.item_at-w.ensures.begins, c.in-Err.ensures.counted_in) in
    rw (c.moved.ensures, min-eq_left l) (tally_bad (row_of c.args.kind) add_row c.args.b.now c.loop-k.i c.loop-k.rows c.item_at-w.result c.item_at-w.ensures (omega arith) (omega arith) (size c.loop-k.rows c.loop-k.numbers) _ c.loop-k.invariant.3 _ _ c.in-Err.ensures.result_value)

pub returns-then-w-b : goal.returns-then-w-b
returns-then-w-b c = let w = length-take-le (c.item_at-w.result.stop - c.item_at-w.result.start) (drop c.item_at-w.result.start c.args.b.now) (omega (arith, c.item_at-w.ensures.short, c.item_at-w.ensures.within, length-drop c.item_at-w.result.start c.args.b.now)) in
    tally_last (row_of c.args.kind) add_row c.args.b.now c.loop-k.i c.loop-k.rows c.item_at-w.result c.item_at-w.ensures (omega arith) (omega arith) (size c.loop-k.rows c.loop-k.numbers) _ c.loop-k.invariant.3 _ c.in-Ok.ensures.result_value c.if-w-b.true

pub overflow_add-i : goal.overflow_add-i
overflow_add-i c = omega (arith, c.item_at-w.ensures.within)

pub loop-k-smaller : goal.loop-k-smaller
loop-k-smaller c = omega (arith, c.item_at-w.ensures.within, c.item_at-w.ensures.above, c.if-w-b.false)

pub loop-k-preserved : goal.loop-k-preserved
loop-k-preserved c = let w = length-take-le (c.item_at-w.result.stop - c.item_at-w.result.start) (drop c.item_at-w.result.start c.args.b.now) (omega (arith, c.item_at-w.ensures.short, c.item_at-w.ensures.within, length-drop c.item_at-w.result.start c.args.b.now)) in
    let a = c.item_at-w.ensures.above in
    let z = c.item_at-w.ensures.within in (
      omega (arith, a),
      omega (arith, w, c.item_at-w.ensures.ordered, c.item_at-w.ensures.short, c.item_at-w.ensures.within, c.item_at-w.ensures.begins, c.in-Ok.ensures.counted_in),
      omega (arith, z, c.if-w-b.false),
      tally_more (row_of c.args.kind) add_row c.args.b.now c.loop-k.i c.loop-k.rows c.item_at-w.result c.item_at-w.ensures (omega arith) (omega arith) (size c.loop-k.rows c.loop-k.numbers) _ c.loop-k.invariant.3 _ c.in-Ok.ensures.result_value (omega (arith, z, c.if-w-b.false)),
    )
