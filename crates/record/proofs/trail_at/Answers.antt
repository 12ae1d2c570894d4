use Rattle.common.specs.Lists.{drop_end}
use Rattle.record.specs.Trail.{trim_more, trim_none, trim_here}
use Rattle.std.proofs.Common.{◌≡◌, ◌+◌, ◌-◌, sym, ◌∙◌, arith, length}
use Rattle.record.proofs.trail_at.Goals as goal

pub loop-last-init : goal.loop-last-init
loop-last-init c = let b = c.args.b.now in (omega arith, omega arith, rw (drop_end b (length b) (omega arith)) tt)

pub returns-then-not-is_space : goal.returns-then-not-is_space
returns-then-not-is_space c = let a = c.args in
    let n : c.loop-last.last - 1 + 1 ≡ c.loop-last.last = omega arith in
    record { b_value = rw n (trim_here a.b.now a.from c.loop-last.last (omega arith) (omega arith) (sym c.is_space.ensures ∙ c.if-not-is_space.true) c.loop-last.invariant.2); lower_bound = (omega arith, omega arith) }

pub loop-last-preserved : goal.loop-last-preserved
loop-last-preserved c = let a = c.args in
    (omega arith, omega arith, trim_more a.b.now c.loop-last.last (omega arith) (omega arith) (sym c.is_space.ensures ∙ c.if-not-is_space.false) c.loop-last.invariant.2)

pub returns : goal.returns
returns c = let a = c.args in
    let m = c.min.ensures in
    let e : c.min.result ≡ c.loop-last.last = omega arith in
    record { b_value = rw e (trim_none a.b.now a.from c.loop-last.last (omega arith) c.loop-last.invariant.0 c.loop-last.invariant.2); lower_bound = (omega arith, omega arith) }
