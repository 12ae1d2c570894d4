use Rattle.common.specs.Lists.{drop_end}
use Rattle.record.specs.Turns.{digit_stops, digit_goes, number_grows}
use Rattle.record.specs.Text.{digit_turn, number_and_rest, number_from}
use Rattle.common.specs.Walk.{walk_ends}
use Rattle.common.specs.Tests.{bounds}
use lib.ListN.{drop, get_or}
use native.Mathlib.Omega.{arith}
use mathlib.Core.List.{[]}
use mathlib.Core.Path.{◌≡◌, ap, sym, refl, ◌∙◌}
use Prim.Native.Nat.{◌+◌, ◌-◌, ◌*◌}
use Rattle.record.proofs.digits_at.Goals as goal

pub loop-i-init : goal.loop-i-init
unfolding number_from
loop-i-init c = (omega arith, omega arith, omega arith, refl)

pub returns-then-not-is_digit : goal.returns-then-not-is_digit
returns-then-not-is_digit c = let b = c.args.b.now in
    (sym (digit_stops b c.loop-i.i (omega arith) c.loop-i.n _ (sym c.is_digit.ensures ∙ c.if-not-is_digit.true) c.loop-i.invariant.3), omega arith, omega arith, omega arith)

pub overflow_sub-c : goal.overflow_sub-c
overflow_sub-c c = let b = c.args.b.now in
    (bounds 48 (get_or b c.loop-i.i 0) 57 (sym c.is_digit.ensures ∙ c.if-not-is_digit.false)).0

pub overflow_add-n : goal.overflow_add-n
overflow_add-n c = let b = c.args.b.now in
    let k = bounds 48 (get_or b c.loop-i.i 0) 57 (sym c.is_digit.ensures ∙ c.if-not-is_digit.false) in
    omega arith

pub returns-then-n-gt4294967295 : goal.returns-then-n-gt4294967295
unfolding number_from
returns-then-n-gt4294967295 c = let b = c.args.b.now in
    let f = c.from.ensures in
    let n = c.loop-i.n * 10 + (get_or b c.loop-i.i 0 - 48) in
    let e : number_from n (drop (c.loop-i.i + 1) b) ≡ number_from 0 (drop c.args.from b) =
    digit_goes b c.loop-i.i (omega arith) c.loop-i.n _ (sym c.is_digit.ensures ∙ c.if-not-is_digit.false) c.loop-i.invariant.3 in
    rw (← e) (omega (arith, number_grows n (drop (c.loop-i.i + 1) b)))

pub loop-i-preserved : goal.loop-i-preserved
loop-i-preserved c = let b = c.args.b.now in
    (omega arith, omega arith, omega arith, rw c.from.ensures (digit_goes b c.loop-i.i (omega arith) c.loop-i.n _ (sym c.is_digit.ensures ∙ c.if-not-is_digit.false) c.loop-i.invariant.3))

pub returns : goal.returns
returns c = let b = c.args.b.now in
    let m = c.max.ensures in
    let e : drop c.max.result b ≡ [] = drop_end b c.max.result (omega arith) in
    (sym c.loop-i.invariant.3 ∙ walk_ends digit_turn (λ m. number_and_rest m []) c.loop-i.n b c.loop-i.i (omega arith) ∙ ap (number_and_rest c.loop-i.n) (sym e), omega arith, omega arith, omega arith)
