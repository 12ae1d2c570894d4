use Prim.Native.Nat.{◌-◌}
use native.Mathlib.Omega.{arith}
use lib.ListN.{length, drop}
use Rattle.strings.specs.Steps.{rest_is, groups_reading_starts, groups_reading_ends, groups_reading_stops, groups_reading_breaks, groups_reading_goes, told_char, told_wrong, groups_end_here, closing_fits, used_fits}
use mathlib.Core.Path.{◌≡◌, sym, ◌∙◌, ap}
use mathlib.Core.Bool.{true, false}
use lib.ListN.{take, length-drop}
use Rattle.strings.specs.Text.{closing_taken}
use Rattle.strings.proofs.groups.Goals as goal

pub loop-i-init : goal.loop-i-init
loop-i-init g c = let a = c.args in groups_reading_starts a.width a.s.now a.at a.out.now (omega (arith, c.requires.marked)) (omega arith)

pub overflow_add-result : goal.overflow_add-result
overflow_add-result g c =
    let s = c.args.s.now in
    let k : c.closing_len.result ≡ closing_taken (drop c.loop-i.i s) = c.closing_len.ensures ∙ ap closing_taken (rest_is s c.loop-i.i) in
    let f = closing_fits (drop c.loop-i.i s) in
    omega (arith, length-drop c.loop-i.i s)

pub shape_of-out-then-t-width : goal.shape_of-out-then-t-width
shape_of-out-then-t-width g c = c.loop-i.invariant.kept

pub returns-then-t-width : goal.returns-then-t-width
returns-then-t-width g c =
    let a = c.args in
    let s = a.s.now in
    let e : groups_end_here a.width (drop c.loop-i.i s) ≡ true = rw (sym (rest_is s c.loop-i.i), sym c.byte_at.ensures) c.if-t-width.true in
    let k : c.closing_len.result ≡ closing_taken (drop c.loop-i.i s) = c.closing_len.ensures ∙ ap closing_taken (rest_is s c.loop-i.i) in
    rw k (groups_reading_stops a.width s a.at a.out.now c.loop-i.i c.loop-i.n c.loop-i.out c.loop-i.invariant (omega arith) e)

pub shape_of-out-in_default : goal.shape_of-out-in_default
shape_of-out-in_default g c = c.put_char.auto.out ∙ c.loop-i.invariant.kept

pub returns-in_default : goal.returns-in_default
returns-in_default g c =
    let a = c.args in
    let s = a.s.now in
    let e : groups_end_here a.width (drop c.loop-i.i s) ≡ false = rw (sym (rest_is s c.loop-i.i), sym c.byte_at.ensures) c.if-t-width.false in
    groups_reading_breaks a.width s a.at a.out.now c.loop-i.i c.loop-i.n c.loop-i.out c.loop-i.invariant c.put_char.result c.put_char.new.out (omega arith) (omega arith) e (told_wrong a.width (drop c.loop-i.i s) (take (length s - c.loop-i.i) (drop c.loop-i.i s)) (rest_is s c.loop-i.i) (rw c.in_default.is at (c.requires.reads _ _ c.group.ensures))) c.put_char.ensures

pub overflow_add-i : goal.overflow_add-i
overflow_add-i g c =
    let s = c.args.s.now in
    let f = used_fits c.args.width (drop c.loop-i.i s) (take (length s - c.loop-i.i) (drop c.loop-i.i s)) c.in-Some.g (rest_is s c.loop-i.i) (rw c.in-Some.is at (c.requires.reads _ _ c.group.ensures)) in
    omega (arith, length-drop c.loop-i.i s)

pub loop-i-smaller : goal.loop-i-smaller
loop-i-smaller g c =
    let s = c.args.s.now in
    let k = told_char c.args.width (drop c.loop-i.i s) (take (length s - c.loop-i.i) (drop c.loop-i.i s)) c.in-Some.g (rest_is s c.loop-i.i) (rw c.in-Some.is at (c.requires.reads _ _ c.group.ensures)) in
    omega (arith, k.1)

pub loop-i-preserved : goal.loop-i-preserved
loop-i-preserved g c =
    let a = c.args in
    let s = a.s.now in
    let e : groups_end_here a.width (drop c.loop-i.i s) ≡ false = rw (sym (rest_is s c.loop-i.i), sym c.byte_at.ensures) c.if-t-width.false in
    let k = told_char a.width (drop c.loop-i.i s) (take (length s - c.loop-i.i) (drop c.loop-i.i s)) c.in-Some.g (rest_is s c.loop-i.i) (rw c.in-Some.is at (c.requires.reads _ _ c.group.ensures)) in
    groups_reading_goes a.width s a.at a.out.now c.loop-i.i c.loop-i.n c.loop-i.out c.loop-i.invariant c.put_char-n.result c.put_char-n.new.out (omega arith) (omega arith) e c.in-Some.g.code c.in-Some.g.used k.0 k.1 c.put_char-n.ensures c.put_char-n.auto.out

pub shape_of-out : goal.shape_of-out
shape_of-out g c = c.loop-i.invariant.kept

pub returns : goal.returns
returns g c = let a = c.args in groups_reading_ends a.width a.s.now a.at a.out.now c.loop-i.i c.loop-i.n c.loop-i.out c.loop-i.invariant (omega arith)
