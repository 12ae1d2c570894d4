use Rattle.statement.specs.TidyLaws.{end_stops, end_goes, tidy_end_none}
use native.Mathlib.Omega.{arith}
use Rattle.std.proofs.Common.{◌≡◌, length, refl, ◌∙◌}
use Rattle.statement.proofs.near_end.Goals as goal

pub loop-i-init : goal.loop-i-init
loop-i-init c = ((omega arith, omega arith), refl)

pub returns-then-s-i-eq59 : goal.returns-then-s-i-eq59
returns-then-s-i-eq59 c = let s = c.args.s.now in
    record { s_value = end_stops s c.loop-i.i (omega arith) c.if-s-i-eq59.true ∙ c.loop-i.invariant.1; lower_bound = (omega arith, omega arith) }

pub loop-i-preserved : goal.loop-i-preserved
loop-i-preserved c = let s = c.args.s.now in
    ((omega arith, omega arith), end_goes s c.loop-i.i (omega arith) c.if-s-i-eq59.false ∙ c.loop-i.invariant.1)

pub returns : goal.returns
returns c = let s = c.args.s.now in
    let e : c.loop-i.i ≡ length s = omega arith in
    record { s_value = tidy_end_none s (length s) (omega arith) ∙ (rw e at c.loop-i.invariant.1); lower_bound = (omega arith, omega arith) }
