use Rattle.std.proofs.Common.{arith, ◌≡◌, ◌∙◌, ap, ◌-◌, ◌+◌, ℕ, length}
use Rattle.argument_sizes.specs.Lengths.{part_sizes_from}
use Rattle.argument_sizes.specs.Laws.{parts_more, parts_over, parts_bad, parts_none, part_end, nothing_both}
use Rattle.argument_sizes.proofs.parts_sizes.Goals as goal

pub loop-i-init : goal.loop-i-init
loop-i-init c =
    let e : length c.args.s.now - 0 ≡ length c.args.s.now = omega arith in
    nothing_both _ ∙ ap (λ (z : ℕ). part_sizes_from z c.args.s.now c.args.place c.args.end) e

pub returns-in-Ok-None : goal.returns-in-Ok-None
returns-in-Ok-None c = let h = rw c.in-Ok-None.field-0-is at c.in-Ok-None.ensures in parts_over _ _ _ _ _ _ c.loop-i.invariant h

pub returns-in-Err : goal.returns-in-Err
returns-in-Err c = parts_bad _ _ _ _ _ _ _ c.loop-i.invariant c.in-Err.ensures

pub overflow_add-at : goal.overflow_add-at
overflow_add-at c = let h = rw c.in-Ok-Some.field-0-is at c.in-Ok-Some.ensures in let k = part_end _ _ _ _ h in record { fits = omega (arith, k) }

pub loop-i-preserved : goal.loop-i-preserved
loop-i-preserved c =
    let h = rw c.in-Ok-Some.field-0-is at c.in-Ok-Some.ensures in
    let e : length c.args.s.now - c.loop-i.i - 1 ≡ length c.args.s.now - (c.loop-i.i + 1) = omega arith in
    rw (c.larger_each-most.ensures, c.args_sizes.ensures, ← e)
    (parts_more _ _ _ _ _ _ _ (omega (arith, c.loop-i-test.true)) c.loop-i.invariant h)

pub returns : goal.returns
returns c = parts_none _ _ _ _ _ _ (omega (arith, c.loop-i-test.false)) c.loop-i.invariant
