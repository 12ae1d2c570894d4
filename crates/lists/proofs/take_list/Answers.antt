use Rattle.lists.specs.Keep.{kept_none, kept_blank, kept_full}
use Rattle.lists.specs.Laws.{shape_full, body_length}
use Rattle.lists.specs.Lent.{item_value, lent_of}
use Rattle.std.proofs.Math.Nat.{min-eq_left}
use native.Mathlib.Omega.{arith}
use borrow.Author.Rules.{rules}
use Prim.Native.Nat.{◌+◌, ◌≤◌}
use Rattle.lists.proofs.take_list.Goals as goal

pub overflow_sub-n : goal.overflow_sub-n
overflow_sub-n c = let (n, f, o) = shape_full _ _ c.shape_of.ensures c.in-Full.is in omega (arith, n)

pub slice_bounds-take_items-count : goal.slice_bounds-take_items-count
slice_bounds-take_items-count c = let (n, f, o) = shape_full _ _ c.shape_of.ensures c.in-Full.is in omega (arith, n)

pub slice_bounds-take_items-start : goal.slice_bounds-take_items-start
slice_bounds-take_items-start c = let (n, f, o) = shape_full _ _ c.shape_of.ensures c.in-Full.is in omega (arith, n)

pub returns-in-NotList : goal.returns-in-NotList
returns-in-NotList c = let a = c.args in
    let (x, y) = kept_none (item_value a.kind) a.t.now _ c.shape_of.ensures (lent_of a.kind a.rooms.now.refs.now a.rooms.now.wholes.now a.rooms.now.reals.now) c.in-NotList.is in
    record { same = search rules; result_value = x; counted_in = omega arith; kept = y }

pub returns-in-Blank : goal.returns-in-Blank
returns-in-Blank c = let a = c.args in
    let (x, y) = kept_blank (item_value a.kind) a.t.now _ c.shape_of.ensures (lent_of a.kind a.rooms.now.refs.now a.rooms.now.wholes.now a.rooms.now.reals.now) c.in-Blank.is in
    record { same = search rules; result_value = x; counted_in = omega arith; kept = y }

pub returns-in-Ok : goal.returns-in-Ok
returns-in-Ok c = let a = c.args in
    let t = a.t.now in
    let (n, f, o) = shape_full t _ c.shape_of.ensures c.in-Full.is in
    let (x, y) = kept_full (item_value a.kind) t _ c.shape_of.ensures (lent_of a.kind a.rooms.now.refs.now a.rooms.now.wholes.now a.rooms.now.reals.now) c.in-Full.is _ _ c.in-Ok.ensures.result_value c.take_items.ensures.kept in
    record { same = c.take_items.ensures.same; result_value = x; counted_in = omega (arith, n, body_length t n, c.in-Ok.ensures.counted_in); kept = y }

pub returns-in-Err : goal.returns-in-Err
returns-in-Err c = let a = c.args in
    let t = a.t.now in
    let (n, f, o) = shape_full t _ c.shape_of.ensures c.in-Full.is in
    let (x, y) = kept_full (item_value a.kind) t _ c.shape_of.ensures (lent_of a.kind a.rooms.now.refs.now a.rooms.now.wholes.now a.rooms.now.reals.now) c.in-Full.is _ _ c.in-Err.ensures.result_value c.take_items.ensures.kept in
    let l : 1 + c.in-Err.bad.place ≤ 18446744073709551615 = omega (arith, n, body_length t n, c.in-Err.ensures.counted_in) in
    rw (c.moved.ensures, min-eq_left l) (record { same = c.take_items.ensures.same; result_value = x; counted_in = omega (arith, n, body_length t n, c.in-Err.ensures.counted_in); kept = y })
