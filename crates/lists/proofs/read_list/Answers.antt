use Rattle.lists.specs.Keep.{kept_bad, kept_short, kept_fits, kept_ready}
use Rattle.lists.specs.Lent.{item_value, lent_of, kind_room}
use Rattle.lists.specs.First.{first_held}
use Rattle.lists.specs.Items.{list_by}
use Rattle.std.proofs.Math.Nat.{min-eq_left}
use native.Mathlib.Omega.{arith}
use lib.ListN.{length}
use borrow.Author.Rules.{rules}
use Prim.Native.Nat.{◌+◌, ◌≤◌}
use Rattle.lists.proofs.read_list.Goals as goal

pub returns-then-room_of-n : goal.returns-then-room_of-n
returns-then-room_of-n c = let t = c.args in
    let q = kept_short (list_by (item_value t.kind) t.t.now) (kind_room t.kind (length t.rooms.now.refs.now) (length t.rooms.now.wholes.now) (length t.rooms.now.reals.now)) t.start (lent_of t.kind t.rooms.now.refs.now t.rooms.now.wholes.now t.rooms.now.reals.now) _ c.in-Ok.ensures.result_value (omega (arith, c.room_of.ensures, c.if-room_of-n.true)) in record { same = search rules; result_value = q.0; reals_after = q.1 }

pub write_list-requires : goal.write_list-requires
write_list-requires c = let t = c.args in
    let (x, (y, z)) = kept_ready (list_by (item_value t.kind) t.t.now) (kind_room t.kind (length t.rooms.now.refs.now) (length t.rooms.now.wholes.now) (length t.rooms.now.reals.now)) _ _ _ c.in-Ok.ensures.result_value (omega (arith, c.room_of.ensures, c.if-room_of-n.false)) c.first_pass.ensures.kept in
    record { ready = x; n_value = y; held = first_held t.kind (list_by (item_value t.kind) t.t.now) _ _ _ z }

pub returns-in-Err : goal.returns-in-Err
returns-in-Err c = let t = c.args in
    let q = kept_bad (list_by (item_value t.kind) t.t.now) (kind_room t.kind (length t.rooms.now.refs.now) (length t.rooms.now.wholes.now) (length t.rooms.now.reals.now)) t.start (lent_of t.kind t.rooms.now.refs.now t.rooms.now.wholes.now t.rooms.now.reals.now) _ _ c.in-Err.ensures.result_value in
    let l : t.start + c.in-Err.bad.place ≤ 18446744073709551615 = omega (arith, c.requires, c.in-Err.ensures.counted_in) in
    rw (c.fault.ensures, min-eq_left l) (record { same = search rules; result_value = q.0; reals_after = q.1 })

pub returns : goal.returns
returns c = let t = c.args in
    let q = kept_fits (list_by (item_value t.kind) t.t.now) (kind_room t.kind (length t.rooms.now.refs.now) (length t.rooms.now.wholes.now) (length t.rooms.now.reals.now)) t.start (lent_of t.kind t.rooms.now.refs.now t.rooms.now.wholes.now t.rooms.now.reals.now) _ _ c.in-Ok.ensures.result_value (omega (arith, c.room_of.ensures, c.if-room_of-n.false)) c.write_list.ensures.reals_after in record { same = c.write_list.ensures.same; result_value = q.0; reals_after = q.1 }
