use Rattle.record.specs.Turns.{key_solid}
use native.Mathlib.Omega.{arith}
use Rattle.std.proofs.Common.{◌≡◌, length, refl, ◌∙◌}
use Rattle.record.proofs.name_run.Goals as goal

pub loop-i-init : goal.loop-i-init
loop-i-init c = ((omega arith, omega arith), refl)

pub returns-then-b-i-le40 : goal.returns-then-b-i-le40
returns-then-b-i-le40 c = record { b_value = c.loop-i.invariant.1; lower_bound = (omega arith, omega arith) }

pub loop-i-preserved : goal.loop-i-preserved
loop-i-preserved c = let b = c.args.b.now in
    ((omega arith, omega arith), key_solid b c.loop-i.i (omega arith) (omega arith) ∙ c.loop-i.invariant.1)

pub returns : goal.returns
returns c = let e : c.loop-i.i ≡ length c.args.b.now = omega arith in
    record { b_value = rw e at c.loop-i.invariant.1; lower_bound = (omega arith, omega arith) }
