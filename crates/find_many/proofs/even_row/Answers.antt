use native.Mathlib.Nat.{mul-le-mul}
use mathlib.Core.Logic.{inl, inr}
use mathlib.Core.Path.{refl}
use Prim.Native.Nat.{◌-◌, ◌*◌, ◌/◌}
use native.Mathlib.Omega.{arith}
use Rattle.find_many.proofs.even_row.Goals as goal

pub returns-then-id-first : goal.returns-then-id-first
returns-then-id-first c = inl refl

pub overflow_mul-q : goal.overflow_mul-q
overflow_mul-q c = let a = c.args in let p = mul-le-mul {n₁ = a.id - a.first} {m₁ = a.scale} {n₂ = 4294967295} {m₂ = 4294967296} (omega arith) c.requires in record { fits = omega (arith, p) }

pub overflow_mul-q-2 : goal.overflow_mul-q-2
overflow_mul-q-2 c = let a = c.args in let p = mul-le-mul {n₁ = a.id - a.first} {m₁ = a.scale} {n₂ = 4294967295} {m₂ = 4294967296} (omega arith) c.requires in let q = mul-le-mul {n₁ = (a.id - a.first) * a.scale / 4294967296} {m₁ = a.step} {n₂ = 4294967295} {m₂ = 4294967295} (omega (arith, p)) (omega arith) in record { fits = omega (arith, q) }

pub overflow_cast-result : goal.overflow_cast-result
overflow_cast-result c = let a = c.args in let p = mul-le-mul {n₁ = a.id - a.first} {m₁ = a.scale} {n₂ = 4294967295} {m₂ = 4294967296} (omega arith) c.requires in omega (arith, p)

pub returns-then-q-step : goal.returns-then-q-step
returns-then-q-step c = inr (c.if-id-first.false, c.if-q-step.true)

pub returns-else-q-step : goal.returns-else-q-step
returns-else-q-step c = inl refl
