use native.Mathlib.Omega.{arith}
use mathlib.Core.Path.{refl, ◌∙◌}
use Rattle.statement.proofs.first_end.Goals as goal

pub loop-i-init : goal.loop-i-init
loop-i-init c = ((omega arith, omega arith), refl)

pub overflow_add-i : goal.overflow_add-i
overflow_add-i c = let w = c.is_open.ensures c.loop-i-test.true in omega arith

pub loop-i-smaller : goal.loop-i-smaller
loop-i-smaller c = let w = c.is_open.ensures c.loop-i-test.true in omega arith

pub loop-i-preserved : goal.loop-i-preserved
loop-i-preserved c = let w = c.is_open.ensures c.loop-i-test.true in ((omega arith, omega arith), w.1 ∙ c.loop-i.invariant.1)

pub returns : goal.returns
returns c = record { s_value = c.near_end.ensures.s_value ∙ c.loop-i.invariant.1; lower_bound = (omega arith, omega arith) }
