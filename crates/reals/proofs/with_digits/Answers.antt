use Prim.Native.Nat.{ℕ, ◌+◌, ◌*◌, ◌/◌, ◌<◌, ◌≤◌, ◌^◌}
use mathlib.Core.Path.{◌≡◌}
use native.Mathlib.Omega.{arith}
use Rattle.reals.specs.DigitLoop.{below_cap, at_cap, full_cap, past_cap, held_below, held_above}
use Rattle.reals.proofs.with_digits.Goals as goal

-- `reals::with_digits` meets its contract: the number is below the cap or not, by the cap's upper part and its rest. Assumes nothing.

-- what is below the cap fits
below : (x cap most : ℕ) → x < cap → cap < most → x < most
below x cap most l h = omega arith

-- and so does its first part
part : (x v cap most : ℕ) → x + v < cap → cap < most → x < most
part x v cap most l h = omega arith

-- not below, and not equal
above : (x y : ℕ) → y ≤ x → (x ≡ y → ⊥) → y < x
above x y l n = omega arith

pub overflow_mul-result : goal.overflow_mul-result
overflow_mul-result c =
    let a = c.args in
    record { fits = part (a.n * a.scale) a.v a.cap (2 ^ 64) (below_cap a.n a.v a.scale a.cap c.requires.0 c.if-n-upper.true) c.ranges.cap.fits }

pub overflow_add-result : goal.overflow_add-result
overflow_add-result c =
    let a = c.args in
    record { fits = below (a.n * a.scale + a.v) a.cap (2 ^ 64) (below_cap a.n a.v a.scale a.cap c.requires.0 c.if-n-upper.true) c.ranges.cap.fits }

pub returns-then-n-upper : goal.returns-then-n-upper
returns-then-n-upper c =
    let a = c.args in
    held_below a.cap (a.n * a.scale + a.v) (below_cap a.n a.v a.scale a.cap c.requires.0 c.if-n-upper.true)

pub overflow_mul-result-then-v-cap : goal.overflow_mul-result-then-v-cap
overflow_mul-result-then-v-cap c =
    let a = c.args in
    record { fits = part (a.n * a.scale) a.v a.cap (2 ^ 64) (at_cap a.n a.v a.scale a.cap c.requires.0 c.if-n-upper-2.true c.if-v-cap.true) c.ranges.cap.fits }

pub overflow_add-result-then-v-cap : goal.overflow_add-result-then-v-cap
overflow_add-result-then-v-cap c =
    let a = c.args in
    record { fits = below (a.n * a.scale + a.v) a.cap (2 ^ 64) (at_cap a.n a.v a.scale a.cap c.requires.0 c.if-n-upper-2.true c.if-v-cap.true) c.ranges.cap.fits }

pub returns-then-v-cap : goal.returns-then-v-cap
returns-then-v-cap c =
    let a = c.args in
    held_below a.cap (a.n * a.scale + a.v) (at_cap a.n a.v a.scale a.cap c.requires.0 c.if-n-upper-2.true c.if-v-cap.true)

pub returns-else-v-cap : goal.returns-else-v-cap
returns-else-v-cap c =
    let a = c.args in
    held_above a.cap (a.n * a.scale + a.v) (full_cap a.n a.v a.scale a.cap c.requires.0 c.if-n-upper-2.true c.if-v-cap.false)

pub returns-else-n-upper-2 : goal.returns-else-n-upper-2
returns-else-n-upper-2 c =
    let a = c.args in
    held_above a.cap (a.n * a.scale + a.v) (past_cap a.n a.v a.scale a.cap c.requires.0 (above a.n (a.cap / a.scale) c.if-n-upper.false c.if-n-upper-2.false))
