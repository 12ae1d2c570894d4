use Prim.Native.Nat.{ℕ, ◌+◌, ◌*◌, ◌/◌, ◌%◌, ◌^◌, ◌≤◌}
use mathlib.Core.Path.{◌≡◌, sym, ◌∙◌, ap}
use mathlib.Core.Bool.{Bool, cond}
use native.Mathlib.Nat.{mod-lt}
use native.Mathlib.Omega.{arith}
use lib.Pow.{pow_mono}
use Rattle.f64_rounding.specs.Rounding.{drop_unit_is, dropped_lt, kept_le, carry_room, rounded_is}
use Rattle.f64_rounding.proofs.rounded_off.Goals as goal

-- `f64_rounding::rounded_off` meets its contract: what is dropped against half, and a tie to the even one. Assumes nothing.

-- the machine's unit
unit_of_lem : (drop : ℕ) → 1 * 2 ^ (drop % 64) % 18446744073709551616 ≡ 2 ^ (drop % 64)
unit_of_lem drop = drop_unit_is (drop % 64) (mod-lt drop (omega arith))

-- which is at most half of all that 64 digits hold
unit_le : (drop : ℕ) → 2 ^ (drop % 64) ≤ 9223372036854775808
unit_le drop = pow_mono {i = drop % 64} {j = 63} (omega arith)

pub overflow_mul-low : goal.overflow_mul-low
overflow_mul-low c =
    let a = c.args in
    let h = kept_le a.w (a.drop % 64) _ (unit_of_lem a.drop) in
    record { fits = omega (arith, h) }

pub overflow_sub-low : goal.overflow_sub-low
overflow_sub-low c = let a = c.args in kept_le a.w (a.drop % 64) _ (unit_of_lem a.drop)

pub overflow_mul-low-2 : goal.overflow_mul-low-2
overflow_mul-low-2 c =
    let a = c.args in
    let h = dropped_lt a.w (a.drop % 64) _ (unit_of_lem a.drop) in
    let s = unit_le a.drop in
    record { fits = omega (arith, h, s) }

pub returns-then-unit-low : goal.returns-then-unit-low
returns-then-unit-low c =
    let a = c.args in
    sym (ap (λ (b : Bool). cond b (a.w / 2 ^ (a.drop % 64) + 1) (a.w / 2 ^ (a.drop % 64))) c.if-unit-low.true) ∙ rounded_is a.w (a.drop % 64) _ (unit_of_lem a.drop) a.more

pub returns : goal.returns
returns c =
    let a = c.args in
    sym (ap (λ (b : Bool). cond b (a.w / 2 ^ (a.drop % 64) + 1) (a.w / 2 ^ (a.drop % 64))) c.if-unit-low.false) ∙ rounded_is a.w (a.drop % 64) _ (unit_of_lem a.drop) a.more

pub overflow_add-result : goal.overflow_add-result
overflow_add-result c =
    let a = c.args in
    let h = carry_room a.w (a.drop % 64) _ (unit_of_lem a.drop) a.more c.if-unit-low.true in
    record { fits = omega (arith, h) }
