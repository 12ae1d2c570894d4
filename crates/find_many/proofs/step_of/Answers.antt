use native.Mathlib.Nat.{div-mul-le_self, div-le_self}
use Prim.Native.Nat.{◌-◌}
use native.Mathlib.Omega.{arith}
use Rattle.find_many.proofs.step_of.Goals as goal

pub overflow_mul-step : goal.overflow_mul-step
overflow_mul-step c = let a = c.args in let q = div-mul-le_self (a.last - a.first) (a.n - 1) in record { fits = omega (arith, q) }

pub overflow_cast-result : goal.overflow_cast-result
overflow_cast-result c = let a = c.args in let q = div-le_self (a.last - a.first) (a.n - 1) in omega (arith, q)
