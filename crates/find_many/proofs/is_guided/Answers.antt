use mathlib.Core.Path.{◌≡◌}
use Rattle.common.specs.Tests.{both}
use Rattle.find_many.specs.Hints.{apart_by}
use Prim.Native.Nat.{ℕ}
use native.Mathlib.Omega.{arith}
use Rattle.find_many.proofs.is_guided.Goals as goal

pub returns-then-n-lt2 : goal.returns-then-n-lt2
returns-then-n-lt2 c = λ h. absurd (let z : ◌≡◌ {A = ℕ} 0 1 = cc in omega arith)

pub returns-then-b-eq0 : goal.returns-then-b-eq0
returns-then-b-eq0 c = λ h. absurd (let z : ◌≡◌ {A = ℕ} 0 1 = cc in omega arith)

pub returns-then-b : goal.returns-then-b
returns-then-b c = λ h. absurd (let z : ◌≡◌ {A = ℕ} 0 1 = cc in omega arith)

pub returns : goal.returns
returns c = let a = c.args in λ h. let t = both _ _ h in record { two = omega arith; direct = t.0; apart = apart_by a.b.distinct a.b.shift c.if-b-eq0.false; even = c.if-b.false; distinct = t.1 }
