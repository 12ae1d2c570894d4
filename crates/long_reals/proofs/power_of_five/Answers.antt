use Prim.Native.Nat.{ℕ, ◌≤◌, ◌^◌}
use mathlib.Core.Path.{◌∙◌, ap}
use native.Mathlib.Omega.{arith}
use Rattle.long_reals.specs.Fives.{five_at}
use Rattle.long_reals.proofs.power_of_five.Goals as goal

-- `long_reals::power_of_five` meets its contract: each entry of the table is computed. Assumes nothing.

pub returns : goal.returns
returns c =
    let e = c.min.ensures in
    let l : c.min.result ≤ 27 = omega arith in
    five_at c.min.result l ∙ ap (λ (n : ℕ). 5 ^ n) e
