use Rattle.common.specs.Pick.{pick}
use Rattle.lists.specs.ReadLaws.{roomed_bad}
use Rattle.lists.specs.Answer.{roomed}
use Rattle.grids.specs.Grid.{size_fits}
use Rattle.grids.specs.Laws.{counted_inward}
use Rattle.error.specs.Refusal.{refusal, good, bad}
use mathlib.Core.Path.{ap, sym, ◌∙◌}
use mathlib.Core.Bool.{Bool}
use Rattle.std.proofs.Math.Nat.{min-eq_left}
use native.Mathlib.Omega.{arith}
use Prim.Native.Nat.{◌+◌, ◌≤◌}
use Rattle.grids.proofs.room_for.Goals as goal

pub returns-in-Err : goal.returns-in-Err
returns-in-Err c = let t = c.args in
    let l : t.start + c.in-Err.bad.place ≤ 18446744073709551615 = omega (arith, c.requires, counted_inward t.kind t.t.now _ _ c.in-Err.ensures) in
    rw (c.fault.ensures, min-eq_left l) (roomed_bad (size_fits t.room t.ends) t.start _ _ _ c.in-Err.ensures)

pub returns-then-size-room : goal.returns-then-size-room
returns-then-size-room c = let t = c.args in
    ap (λ (k : Bool). pick k (good c.in-Ok.size) (bad (refusal 16 0 t.start))) (sym c.if-size-room.true) ∙ ap (roomed (size_fits t.room t.ends) t.start) c.in-Ok.ensures

pub returns-else-size-room : goal.returns-else-size-room
returns-else-size-room c = let t = c.args in
    ap (λ (k : Bool). pick k (good c.in-Ok.size) (bad (refusal 16 0 t.start))) (sym c.if-size-room.false) ∙ ap (roomed (size_fits t.room t.ends) t.start) c.in-Ok.ensures
