use Prim.Native.Nat.{ℕ, ◌-◌, ◌*◌, ◌%◌, ◌^◌, ◌<◌}
use mathlib.Core.Path.{◌≡◌, ◌∙◌, ap}
use native.Mathlib.Omega.{arith}
use borrow.Author.Rules.{rules}
use lib.Pow.{pow-lt}
use lib.Count.{count_leading_zeros}
use Rattle.f64_rounding.specs.CutNumbers.{sure}
use Rattle.f64_rounding.specs.Rounding.{drop_unit_is, dropped_is, dropped_lt, kept_le}
use Rattle.f64_rounding.specs.Drops.{drops_two}
use Rattle.wide_reals.specs.Pattern.{sure_test, unit_four}
use Rattle.wide_reals.proofs.is_sure.Goals as goal

-- `wide_reals::is_sure` meets its contract: by the digits that are dropped. Assumes nothing.

-- fewer than twelve digits are dropped
few : (z d : ℕ) → d ≡ 11 - z → d < 12
few z d e = omega arith

-- so the machine's unit is 2 ^ d
unit_of_lem : (z d : ℕ) → d ≡ 11 - z → 1 * 2 ^ d % 18446744073709551616 ≡ 2 ^ d
unit_of_lem z d e = drop_unit_is d (omega arith)

pub surplus-drop-requires : goal.surplus-drop-requires
surplus-drop-requires c = let h = c.requires in omega arith

pub overflow_cast-unit : goal.overflow_cast-unit
overflow_cast-unit c = let e = c.surplus-drop.ensures in search rules

pub overflow_shl-unit : goal.overflow_shl-unit
overflow_shl-unit c = let e = c.surplus-drop.ensures in search rules

pub overflow_cast-low : goal.overflow_cast-low
overflow_cast-low c = let e = c.surplus-drop.ensures in search rules

pub overflow_shr-low : goal.overflow_shr-low
overflow_shr-low c = let e = c.surplus-drop.ensures in search rules

pub overflow_mul-low : goal.overflow_mul-low
overflow_mul-low c =
    let w = c.args.w in
    let d = c.surplus-drop.result in
    let h = kept_le w d _ (unit_of_lem (count_leading_zeros 64 w) d c.surplus-drop.ensures) in
    record { fits = omega (arith, h) }

pub overflow_sub-low : goal.overflow_sub-low
overflow_sub-low c =
    let w = c.args.w in
    let d = c.surplus-drop.result in
    kept_le w d _ (unit_of_lem (count_leading_zeros 64 w) d c.surplus-drop.ensures)

pub overflow_add-result : goal.overflow_add-result
overflow_add-result c =
    let w = c.args.w in
    let d = c.surplus-drop.result in
    let f = few (count_leading_zeros 64 w) d c.surplus-drop.ensures in
    let h = dropped_lt w d _ (unit_of_lem (count_leading_zeros 64 w) d c.surplus-drop.ensures) in
    let s = pow-lt f in
    record { fits = omega (arith, h, s) }

pub overflow_mul-result : goal.overflow_mul-result
overflow_mul-result c =
    let w = c.args.w in
    let d = c.surplus-drop.result in
    let f = few (count_leading_zeros 64 w) d c.surplus-drop.ensures in
    let h = dropped_lt w d _ (unit_of_lem (count_leading_zeros 64 w) d c.surplus-drop.ensures) in
    let s = pow-lt f in
    record { fits = omega (arith, h, s) }

pub returns : goal.returns
returns c =
    let w = c.args.w in
    let d = c.surplus-drop.result in
    let e = c.surplus-drop.ensures in
    let u = unit_of_lem (count_leading_zeros 64 w) d e in
    let four : 1 * 2 ^ d % 18446744073709551616 % 4 ≡ 0 = ap (λ (n : ℕ). n % 4) u ∙ unit_four (count_leading_zeros 64 w) d e (drops_two w c.requires c.ranges.w.fits) in
    sure_test _ _ four
    ∙ ap (λ (n : ℕ). sure n (1 * 2 ^ d % 18446744073709551616)) (dropped_is w d _ u)
    ∙ ap (λ (n : ℕ). sure (w % 2 ^ d) n) u
    ∙ ap (λ (n : ℕ). sure (w % 2 ^ n) (2 ^ n)) e
