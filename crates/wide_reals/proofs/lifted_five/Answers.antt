use Prim.Native.Nat.{ℕ, ◌^◌}
use mathlib.Core.Path.{◌∙◌, ap}
use native.Mathlib.Omega.{arith}
use Rattle.wide_reals.specs.Tens.{five_lift_le, lifted_is}
use Rattle.wide_reals.proofs.lifted_five.Goals as goal

-- `wide_reals::lifted_five` meets its contract: 5 ^ k, by as many digits as it has places free. Assumes nothing.

pub overflow_shl-result : goal.overflow_shl-result
overflow_shl-result c =
    let e = c.places-by.ensures in
    let l = five_lift_le c.args.k in
    omega arith

pub overflow_cast-result : goal.overflow_cast-result
overflow_cast-result c =
    let e = c.places-by.ensures in
    let l = five_lift_le c.args.k in
    record { fits = omega arith }

pub returns : goal.returns
returns c =
    lifted_is c.args.k c.power_of_five.result c.places-by.result c.requires (c.power_of_five.ensures ∙ ap (λ (n : ℕ). 5 ^ n) (omega arith)) c.places-by.ensures
