use Rattle.std.proofs.Common.{arith, ◌≡◌, ◌∙◌, ap, ◌-◌, ◌+◌, ℕ, length}
use Rattle.argument_sizes.specs.Lengths.{args_from}
use Rattle.argument_sizes.specs.Laws.{args_more, args_over, args_none, nothing_both}
use Rattle.argument_sizes.proofs.args_sizes.Goals as goal

pub loop-i-init : goal.loop-i-init
loop-i-init c =
    let e : length c.args.s.now - 0 ≡ length c.args.s.now = omega arith in
    nothing_both _ ∙ ap (λ (z : ℕ). args_from z c.args.s.now c.args.place c.args.end) e

pub returns-in-Err : goal.returns-in-Err
returns-in-Err c = args_over _ _ _ _ _ _ _ _ _ c.loop-i.invariant c.in-Err.ensures.result_value

pub slice_bounds-sizes_of-count : goal.slice_bounds-sizes_of-count
slice_bounds-sizes_of-count c = let w = c.in-Ok.ensures.next_param_in in omega (arith, w)

pub slice_bounds-sizes_of-start : goal.slice_bounds-sizes_of-start
slice_bounds-sizes_of-start c = let w = c.in-Ok.ensures.next_param_in in omega (arith, w)

pub slice_bounds-sizes_of-end : goal.slice_bounds-sizes_of-end
slice_bounds-sizes_of-end c = let w = c.in-Ok.ensures.next_param_in in omega (arith, w)

pub loop-i-preserved : goal.loop-i-preserved
loop-i-preserved c =
    let e : length c.args.s.now - c.loop-i.i - 1 ≡ length c.args.s.now - (c.loop-i.i + 1) = omega arith in
    rw (c.larger_each-most.ensures, c.sizes_of.ensures, ← e)
    (args_more _ _ _ _ _ _ _ _ _ _ (omega (arith, c.loop-i-test.true)) c.loop-i.invariant c.in-Ok.ensures.result_value)

pub returns : goal.returns
returns c = args_none _ _ _ _ _ _ (omega (arith, c.loop-i-test.false)) c.loop-i.invariant
