use native.Mathlib.Omega.{arith}
use Prim.Native.Nat.{◌-◌}
use lib.ListN.{length, take, drop}
use Rattle.strings.specs.Steps.{rest_is}
use Rattle.strings.specs.Ways.{running_starts, running_goes, running_ends, turned_fits}
use Rattle.strings.proofs.turns.Goals as goal

pub loop-i-init : goal.loop-i-init
loop-i-init c = let a = c.args in running_starts a.s.now a.from a.out.now (omega arith)

pub overflow_add-i : goal.overflow_add-i
overflow_add-i c =
    let a = c.args in
    let s = a.s.now in
    let t = take (length s - c.loop-i.i) (drop c.loop-i.i s) in
    let f = turned_fits c.loop-i.page s c.loop-i.i c.loop-i.at c.loop-i.out t _ _ _ (rest_is s c.loop-i.i) c.turn-r.ensures.turned in
    omega arith

pub loop-i-smaller : goal.loop-i-smaller
loop-i-smaller c =
    let a = c.args in
    let s = a.s.now in
    let t = take (length s - c.loop-i.i) (drop c.loop-i.i s) in
    let f = turned_fits c.loop-i.page s c.loop-i.i c.loop-i.at c.loop-i.out t _ _ _ (rest_is s c.loop-i.i) c.turn-r.ensures.turned in
    omega arith

pub loop-i-preserved : goal.loop-i-preserved
loop-i-preserved c =
    let a = c.args in
    let s = a.s.now in
    let t = take (length s - c.loop-i.i) (drop c.loop-i.i s) in
    running_goes s a.from a.out.now c.loop-i.i c.loop-i.page c.loop-i.at c.loop-i.out t _ _ c.turn-r.result.page _ (omega arith) (rest_is s c.loop-i.i) c.loop-i.invariant c.turn-r.ensures.turned c.turn-r.ensures.page_value c.turn-r.auto.out

pub shape_of-out : goal.shape_of-out
shape_of-out c = c.loop-i.invariant.kept

pub returns : goal.returns
returns c = let a = c.args in running_ends a.s.now a.from a.out.now c.loop-i.i c.loop-i.page c.loop-i.at c.loop-i.out (omega arith) c.loop-i.invariant
