use Rattle.lists.specs.Items.{list_by}
use Rattle.lists.specs.Lent.{item_value, lent_of}
use Rattle.grids.specs.Laws.{grid_told, grid_fits_lem, grid_written, grid_refused}
use Rattle.std.proofs.lemmas.Result.{err_from_is_err_and}
use native.Mathlib.Omega.{arith}
use lib.ListN.{length}
use mathlib.Core.List.{[]}
use Rattle.grids.proofs.read_grid.Goals as goal

pub returns-in_err-size : goal.returns-in_err-size
returns-in_err-size c = let t = c.args in
    let p = err_from_is_err_and c.from_residual.result c.from_residual.ensures.1 in
    let e = grid_told t.kind t.t.now t.room (length t.ends.now) t.start _ c.in_err-size.ensures in
    let (x, y) = grid_refused (list_by (list_by (item_value t.kind)) t.t.now) t.room (length t.ends.now) t.start _ (lent_of t.kind t.refs.now [] t.reals.now) t.ends.now e in
    rw (p.1, p.2) (record { result_value = e; reals_after = x; ends_after = y })

pub fill_grid-requires : goal.fill_grid-requires
fill_grid-requires c = let t = c.args in
    let e = grid_told t.kind t.t.now t.room (length t.ends.now) t.start _ c.in_ok-size.ensures in
    let (x, y, z) = grid_fits_lem (list_by (list_by (item_value t.kind)) t.t.now) t.room (length t.ends.now) t.start _ e in
    (x, omega (arith, y, c.requires.roomy), z)

pub returns : goal.returns
returns c = let t = c.args in
    let e = grid_told t.kind t.t.now t.room (length t.ends.now) t.start _ c.in_ok-size.ensures in
    let (x, y) = grid_written (list_by (list_by (item_value t.kind)) t.t.now) t.room (length t.ends.now) t.start _ (lent_of t.kind t.refs.now [] t.reals.now) _ t.ends.now _ e c.fill_grid.ensures.reals_after c.fill_grid.ensures.ends_after in
    record { result_value = e; reals_after = x; ends_after = y }
