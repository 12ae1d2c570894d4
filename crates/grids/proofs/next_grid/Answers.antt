use Rattle.lists.specs.Items.{list_by}
use Rattle.lists.specs.Lent.{item_value, lent_of}
use Rattle.grids.specs.Laws.{grids_uncut, grids_cut}
use Rattle.std.proofs.lemmas.Result.{err_from_is_err_and}
use native.Mathlib.Omega.{arith}
use lib.ListN.{length, drop, length-take, length-drop}
use mathlib.Core.List.{[]}
use Prim.Native.Nat.{◌-◌}
use Rattle.grids.proofs.next_grid.Goals as goal

pub read_grid-requires : goal.read_grid-requires
read_grid-requires c = let h = c.in_ok-w.ensures.next_param_in in
    let s = c.args.file.now in
    let w = c.in_ok-w.w in
    record { short = omega (arith, h.0, h.1, length-take (w.stop - w.start) (drop w.start s), length-drop w.start s); roomy = c.requires }

pub returns-in_err-w : goal.returns-in_err-w
returns-in_err-w c = let t = c.args in
    let p = err_from_is_err_and c.from_residual.result c.from_residual.ensures.1 in
    let q = grids_uncut (list_by (list_by (item_value t.kind))) (lent_of t.kind t.refs.now [] t.reals.now) t.ends.now t.room (length t.ends.now) t.file.now t.at.now.place t.at.now.end _ _ _ c.in_err-w.ensures.result_value in
    rw (p.1, p.2) (record { result_value = q.0; reals_after = q.1.0; ends_after = q.1.1 })

pub returns : goal.returns
returns c = let t = c.args in
    let (x, y) = grids_cut (list_by (list_by (item_value t.kind))) (lent_of t.kind t.refs.now [] t.reals.now) t.ends.now t.room (length t.ends.now) t.file.now t.at.now.place t.at.now.end _ _ _
    c.in_ok-w.ensures.result_value _ _ _ c.read_grid.ensures.result_value c.read_grid.ensures.reals_after c.read_grid.ensures.ends_after in
    record { result_value = x; reals_after = y.0; ends_after = y.1 }
