use Rattle.reals.specs.declared.NotRead.TheVariants.{NotReal}
use Rattle.lists.specs.Answer.{as_fate}
use Rattle.lists.specs.Lent.{item_taken, real_unread}
use Rattle.lists.specs.Keep.{map_set}
use Rattle.lists.specs.declared.Kind.TheVariants.{References, Integers, Floats, Any}
use Rattle.std.proofs.Common.{Ok, Err, refl, ap, ◌∙◌}
use lib.Ieee.{binary64, to_bits}
use mathlib.Core.List.{map}
use borrow.Author.Rules.{rules}
use lib.IntN.{ℤ}
use lib.ListN.{set}
use mir.ValLaws.{to_z-of_z}
use mir.Syntax.{w64}
use Rattle.lists.proofs.take_item.Goals as goal

pub returns-in-Some : goal.returns-in-Some
returns-in-Some c = let t = c.args in
    let q = item_taken t.kind t.t.now t.n (Ok tt) t.rooms.now.refs.now _ t.rooms.now.wholes.now _ t.rooms.now.reals.now _ References c.in-References.is _ (ap as_fate c.in-Some.ensures) refl c.keep.ensures in
    record { same = search rules; result_value = q.0; reals_after = q.1 }

pub returns-in-None : goal.returns-in-None
returns-in-None c = let t = c.args in
    let q = item_taken t.kind t.t.now t.n (Err NotReal) t.rooms.now.refs.now _ t.rooms.now.wholes.now _ t.rooms.now.reals.now _ References c.in-References.is _ (ap as_fate c.in-None.ensures) refl refl in
    record { same = search rules; result_value = q.0; reals_after = q.1 }

pub returns-in-Some-parse_int : goal.returns-in-Some-parse_int
returns-in-Some-parse_int c = let t = c.args in
    let q = item_taken t.kind t.t.now t.n (Ok tt) t.rooms.now.refs.now _ t.rooms.now.wholes.now _ t.rooms.now.reals.now _ Integers c.in-Integers.is _ (ap as_fate c.in-Some-parse_int.ensures) refl (c.keep-in-Some-parse_int.ensures ∙ ap (λ (z : ℤ). set t.rooms.now.wholes.now t.n z) (to_z-of_z w64 c.in-Some-parse_int.v (search rules))) in
    record { same = search rules; result_value = q.0; reals_after = q.1 }

pub returns-in-None-parse_int : goal.returns-in-None-parse_int
returns-in-None-parse_int c = let t = c.args in
    let q = item_taken t.kind t.t.now t.n (Err NotReal) t.rooms.now.refs.now _ t.rooms.now.wholes.now _ t.rooms.now.reals.now _ Integers c.in-Integers.is _ (ap as_fate c.in-None-parse_int.ensures) refl refl in
    record { same = search rules; result_value = q.0; reals_after = q.1 }

pub returns-in-Ok : goal.returns-in-Ok
returns-in-Ok c = let t = c.args in
    let q = item_taken t.kind t.t.now t.n (Ok tt) t.rooms.now.refs.now _ t.rooms.now.wholes.now _ t.rooms.now.reals.now _ (Floats c.in-Floats.which) c.in-Floats.is _ (ap as_fate c.in-Ok.ensures) refl (ap (map (to_bits binary64)) c.keep-in-Ok.ensures ∙ map_set (to_bits binary64) t.rooms.now.reals.now t.n c.in-Ok.v) in
    record { same = search rules; result_value = q.0; reals_after = q.1 }

pub returns-in-Err : goal.returns-in-Err
returns-in-Err c = let t = c.args in
    let (x, y) = real_unread c.in-Err.why t.n (map (to_bits binary64) t.rooms.now.reals.now) in
    let q = item_taken t.kind t.t.now t.n (Err c.in-Err.why) t.rooms.now.refs.now _ t.rooms.now.wholes.now _ t.rooms.now.reals.now _ (Floats c.in-Floats.which) c.in-Floats.is _ (ap as_fate c.in-Err.ensures) x y in
    record { same = search rules; result_value = q.0; reals_after = q.1 }

pub returns-in-Any : goal.returns-in-Any
returns-in-Any c = let t = c.args in
    let q = item_taken t.kind t.t.now t.n (Ok tt) t.rooms.now.refs.now _ t.rooms.now.wholes.now _ t.rooms.now.reals.now _ Any c.in-Any.is _ refl refl refl in
    record { same = search rules; result_value = q.0; reals_after = q.1 }
