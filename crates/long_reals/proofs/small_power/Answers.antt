use Prim.Native.Nat.{ℕ, ◌^◌, ◌≤◌, min}
use mathlib.Core.Path.{◌∙◌, ap}
use native.Mathlib.Nat.{pow-le-pow_right}
use native.Mathlib.Omega.{arith}
use Rattle.long_reals.proofs.small_power.Goals as goal

-- `long_reals::small_power` meets its contract: 5 ^ 13 has 31 binary digits. Assumes nothing.

pub overflow_cast-result : goal.overflow_cast-result
overflow_cast-result c =
    let e = c.power_of_five.ensures in
    let l : 5 ^ min c.args.k 27 ≤ 5 ^ 13 = pow-le-pow_right {n = 5} (omega arith) {i = min c.args.k 27} {j = 13} (omega arith) in
    omega (arith, e, l)

pub returns : goal.returns
returns c = c.power_of_five.ensures ∙ ap (λ (n : ℕ). 5 ^ n) (omega arith)
