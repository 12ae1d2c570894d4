use Rattle.lists.specs.ReadLaws.{lists_uncut, lists_cut}
use Rattle.lists.specs.Lent.{item_value, lent_of, kind_room}
use Rattle.lists.specs.Items.{list_by}
use Rattle.std.proofs.lemmas.Result.{err_from_is_err_and}
use native.Mathlib.Omega.{arith}
use lib.ListN.{length, drop, length-take, length-drop}
use Prim.Native.Nat.{◌-◌}
use mathlib.Core.Path.{refl}
use Rattle.lists.proofs.next_list.Goals as goal

pub read_list-requires : goal.read_list-requires
read_list-requires c = let h = c.in_ok-w.ensures.next_param_in in
    let s = c.args.file.now in
    let w = c.in_ok-w.w in
    omega (arith, h.0, h.1, length-take (w.stop - w.start) (drop w.start s), length-drop w.start s)

pub returns-in_err-w : goal.returns-in_err-w
returns-in_err-w c = let t = c.args in
    let p = err_from_is_err_and c.from_residual.result c.from_residual.ensures.1 in
    let q = lists_uncut (list_by (item_value t.kind)) (lent_of t.kind t.rooms.now.refs.now t.rooms.now.wholes.now t.rooms.now.reals.now) (kind_room t.kind (length t.rooms.now.refs.now) (length t.rooms.now.wholes.now) (length t.rooms.now.reals.now)) t.file.now t.at.now.place t.at.now.end _ _ _ c.in_err-w.ensures.result_value in
    rw (p.1, p.2) (record { same = (refl, refl, refl, refl, refl, refl); result_value = q.0; reals_after = q.1 })

pub returns : goal.returns
returns c = let t = c.args in
    let (x, y) = lists_cut (list_by (item_value t.kind)) (lent_of t.kind t.rooms.now.refs.now t.rooms.now.wholes.now t.rooms.now.reals.now) (kind_room t.kind (length t.rooms.now.refs.now) (length t.rooms.now.wholes.now) (length t.rooms.now.reals.now)) t.file.now t.at.now.place t.at.now.end _ _ _
    c.in_ok-w.ensures.result_value _ _ c.read_list.ensures.result_value c.read_list.ensures.reals_after in
    record { same = c.read_list.ensures.same; result_value = x; reals_after = y }
