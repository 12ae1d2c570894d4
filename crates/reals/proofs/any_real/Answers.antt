use Prim.Native.Nat.{ℕ}
use mathlib.Core.Path.{◌≡◌, ◌∙◌, ap}
use native.Mathlib.Omega.{arith}
use Rattle.nearest.specs.Nearest.{signed}
use Rattle.nearest.specs.Power.{near_by}
use Rattle.long_reals.specs.Number.{number_in}
use Rattle.reals.proofs.any_real.Goals as goal

-- `reals::any_real` meets its contract: the wide path where m holds all digits, else the long one. Assumes nothing.

pub returns-then-m-lt-MOST : goal.returns-then-m-lt-MOST
returns-then-m-lt-MOST c =
    let a = c.args in
    let m : a.m ≡ number_in 0 a.t.now = omega arith in
    c.by_wide.ensures ∙ ap (λ (n : ℕ). signed a.neg (near_by a.p.down n a.p.size)) m
