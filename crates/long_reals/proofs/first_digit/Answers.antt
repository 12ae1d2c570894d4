use mathlib.Core.Path.{sym, ◌∙◌, ap}
use mathlib.Core.Bool.{Bool, not, ◌&&◌}
use mathlib.Core.Logic.{inr}
use native.Mathlib.Omega.{arith}
use lib.Dec.{eqb}
use lib.ListN.{get_or}
use Rattle.long_reals.specs.Steps.{first_past, first_leads}
use Rattle.long_reals.proofs.first_digit.Goals as goal

-- `long_reals::first_digit` meets its contract: what was passed over is worth nothing. Assumes nothing.

pub returns-then-is_digit-c : goal.returns-then-is_digit-c
returns-then-is_digit-c c =
    let p = c.args in
    let e = sym (ap (λ (b : Bool). b && not (eqb (get_or p.t.now c.loop-i.i 0) 48)) c.is_digit.ensures) ∙ c.if-is_digit-c.true in
    record { above = omega arith; within = omega arith; same = c.loop-i.invariant; found = inr (first_leads p.t.now c.loop-i.i c.loop-i-test.true e) }

pub loop-i-preserved : goal.loop-i-preserved
loop-i-preserved c =
    let p = c.args in
    let e = sym (ap (λ (b : Bool). b && not (eqb (get_or p.t.now c.loop-i.i 0) 48)) c.is_digit.ensures) ∙ c.if-is_digit-c.false in
    first_past p.t.now c.loop-i.i c.loop-i-test.true e ∙ c.loop-i.invariant
