use Rattle.lists.specs.Laws.{tally, shape_none, shape_blank, shape_full, body_length, told_full, list_none, list_blank}
use Rattle.lists.specs.Answer.{fated}
use Rattle.grids.specs.Grid.{size, add_row, row_of}
use Rattle.grids.specs.Laws.{tally_inward}
use Rattle.std.proofs.Math.Nat.{min-eq_left}
use native.Mathlib.Omega.{arith}
use mathlib.Core.Path.{ap}
use lib.ListN.{length, take, drop}
use Prim.Native.Nat.{◌+◌, ◌-◌, ◌≤◌}
use Rattle.grids.proofs.count_grid.Goals as goal

pub overflow_sub-n : goal.overflow_sub-n
overflow_sub-n c = let (n, f, o) = shape_full _ _ c.shape_of.ensures c.in-Full.is in omega (arith, n)

pub slice_bounds-count_rows-count : goal.slice_bounds-count_rows-count
slice_bounds-count_rows-count c = let (n, f, o) = shape_full _ _ c.shape_of.ensures c.in-Full.is in omega (arith, n)

pub slice_bounds-count_rows-start : goal.slice_bounds-count_rows-start
slice_bounds-count_rows-start c = let (n, f, o) = shape_full _ _ c.shape_of.ensures c.in-Full.is in omega (arith, n)

pub returns-in-Err : goal.returns-in-Err
returns-in-Err c = let t = c.args in
    let (n, f, o) = shape_full t.t.now _ c.shape_of.ensures c.in-Full.is in
    let l : 1 + c.in-Err.bad.place ≤ 18446744073709551615 = omega (arith, n, body_length t.t.now n, tally_inward t.kind (take (length t.t.now - 1 - 1) (drop 1 t.t.now)) _ _ c.in-Err.ensures) in
    rw (c.moved.ensures, min-eq_left l) (told_full (tally add_row (size 0 0)) (row_of t.kind) t.t.now _ c.shape_of.ensures c.in-Full.is _ c.in-Err.ensures)

pub returns-in-NotList : goal.returns-in-NotList
returns-in-NotList c = let t = c.args in
    ap (fated (tally add_row (size 0 0))) (list_none (row_of t.kind) t.t.now (shape_none t.t.now _ c.shape_of.ensures c.in-NotList.is))

pub returns-in-Blank : goal.returns-in-Blank
returns-in-Blank c = let t = c.args in
    let (b, e, h) = shape_blank t.t.now _ c.shape_of.ensures c.in-Blank.is in
    ap (fated (tally add_row (size 0 0))) (list_blank (row_of t.kind) t.t.now b e h)

pub returns-in-Ok : goal.returns-in-Ok
returns-in-Ok c = let t = c.args in
    told_full (tally add_row (size 0 0)) (row_of t.kind) t.t.now _ c.shape_of.ensures c.in-Full.is _ c.in-Ok.ensures
