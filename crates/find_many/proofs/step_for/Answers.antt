use native.Mathlib.Omega.{arith}
use Rattle.common.specs.Tests.{both}
use Rattle.find_many.proofs.step_for.Goals as goal

pub returns-then-n-lt2 : goal.returns-then-n-lt2
returns-then-n-lt2 c = λ h. absurd (omega arith)

pub returns-then-b : goal.returns-then-b
returns-then-b c = λ h. absurd (omega arith)

pub returns-then-b-2 : goal.returns-then-b-2
returns-then-b-2 c = let a = c.args in λ h. let t = both _ _ c.if-b-2.true in record { direct = t.0; apart = c.if-b.false; even = t.1; two = omega arith; span = c.step_of.ensures h }

pub returns : goal.returns
returns c = λ h. absurd (omega arith)
