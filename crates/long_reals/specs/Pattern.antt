-- From the digits that are seen to the f64's pattern, and where that is infinity's. Laws for the proofs; no promise names them. Assumes nothing.
use Rattle.std.specs.Prelude.{ℕ, suc, ◌+◌, ◌-◌, ◌*◌, ◌/◌, ◌%◌, ◌^◌, ◌≤◌, ◌<◌, min, ◌≡◌, refl, ◌⊎◌, Bool}
use Rattle.std.proofs.Common.{sym, ◌∙◌, ap, subst, inl, inr, mul_assoc, mul_left_comm, mul-le-mul, mul-le-mul_left, mul-le-mul_right, le_of_mul-le-mul_right, le_trans, div-add-mod', mod-lt, pow-suc, arith, leb→le, pow_pos, pow_mono}
use Rattle.std.specs.Int.Count.{count_leading_zeros}
use Rattle.std.specs.Float.Ieee.{nearest}
use Rattle.std.specs.Float.Ieee.Fits.{nearest-le}
use Rattle.nearest.specs.PatternUnits.{infinity}
use Rattle.nearest.specs.Near.{near}
use Rattle.nearest.proofs.Borders.{near_infinity}
use Rattle.f64_rounding.specs.Half.{against}
use Rattle.f64_rounding.specs.Rounding.{few_dropped}
use Rattle.f64_rounding.specs.Window.{Window, spare_of, near_window}
use Rattle.f64_rounding.specs.Drops.{spare_leaves}

-- ---- a place from which on every number is past all f64s
-- the border of the infinities is below 2 ^ 1024
border_le : (2 ^ 54 - 1) * 2 ^ 970 ≤ 2 ^ 1024
border_le = leb→le ((2 ^ 54 - 1) * 2 ^ 970) (2 ^ 1024) tt

-- 2 ^ 1024 in halves of the least f64
in_halves : 2 ^ 1024 * 2 ^ 1075 ≡ 2 ^ 63 * 2 ^ 2036
in_halves = refl

-- 64 digits at the place 2036 or above, in halves of the least f64, are 2 ^ 1024 or more: the nearest is infinity
pub past_infinity : (num den w : ℕ) (more : Bool) (y : ℕ) → Window num den w more y → 2 ^ 63 ≤ w → 2036 ≤ y → near num den ≡ infinity
past_infinity num den w more y c l h =
    let T = (2 ^ 54 - 1) * 2 ^ 970 in
    let a : den * T * 2 ^ 1075 ≤ den * 2 ^ 1024 * 2 ^ 1075 = mul-le-mul_right (2 ^ 1075) (mul-le-mul_left den border_le) in
    let e : den * 2 ^ 1024 * 2 ^ 1075 ≡ 2 ^ 63 * (den * 2 ^ 2036) = mul_assoc den (2 ^ 1024) (2 ^ 1075) ∙ ap (λ (n : ℕ). den * n) in_halves ∙ mul_left_comm den (2 ^ 63) (2 ^ 2036) in
    let b : 2 ^ 63 * (den * 2 ^ 2036) ≤ w * (den * 2 ^ y) = mul-le-mul l (mul-le-mul_left den (pow_mono h)) in
    let d : w * (den * 2 ^ y) ≤ num * 2 ^ 1075 = part (w * (den * 2 ^ y)) c.rest (num * 2 ^ 1075) c.whole in
    near_infinity num den c.divisor (le_of_mul-le-mul_right {k = 2 ^ 1075} (le_trans (subst (λ (n : ℕ). den * T * 2 ^ 1075 ≤ n) e a) (le_trans b d)) (pow_pos 1075))
  where
    part : (a b c : ℕ) → a + b ≡ c → a ≤ c
    part a b c e = omega arith

-- ---- below that place: d digits are dropped, and k is what the rest is rounded to
module _ (w : ℕ) (more : Bool) (y k d : ℕ) (most : w < 2 ^ 64) (lead : (y ≡ 0) ⊎ (2 ^ 63 ≤ w)) (Near-by : y < 2036) (is : d ≡ spare_of w) (kept : k ≡ nearest (w / 2 ^ (d % 64)) (against (w % 2 ^ (d % 64)) (2 ^ (d % 64)) more)) where
  -- what is kept and rounded, the machine's shift written out
  kept_there : k ≡ nearest (w / 2 ^ d) (against (w % 2 ^ d) (2 ^ d) more)
  kept_there = few_dropped w more d k (omega arith) kept

  -- what is kept of w has 53 digits at most
  few : w / 2 ^ d < 2 ^ 53
  few = subst (λ (n : ℕ). w / 2 ^ n < 2 ^ 53) (sym is) (spare_leaves w most).0

  -- what is kept of w has its leading digit, or stands at the lowest place
  leads : (y + d ≡ 1) ⊎ (2 ^ 52 ≤ w / 2 ^ d)
  leads = go lead (spare_leaves w most).1
    where
      go : (y ≡ 0) ⊎ (2 ^ 63 ≤ w) → (spare_of w ≡ 1) ⊎ (2 ^ 52 ≤ w / 2 ^ spare_of w) → (y + d ≡ 1) ⊎ (2 ^ 52 ≤ w / 2 ^ d)
      go (inl z) (inl o) = inl (let e : d ≡ 1 = is ∙ o in omega arith)
      go (inr l) (inl o) = inr (subst (λ (n : ℕ). 2 ^ 52 ≤ w / 2 ^ n) (sym (is ∙ o)) (omega arith))
      go z (inr l) = inr (subst (λ (n : ℕ). 2 ^ 52 ≤ w / 2 ^ n) (sym is) l)

  -- the pattern that is made of what is kept is a number's or infinity's
  pub seen_le : (y + d - 1) * 2 ^ 52 + k ≤ infinity
  seen_le =
      let q = w / 2 ^ d in
      let a : q < 2 ^ 53 = few in
      let e : k ≡ nearest q (against (w % 2 ^ d) (2 ^ d) more) = kept_there in
      let b : nearest q (against (w % 2 ^ d) (2 ^ d) more) ≤ suc q = nearest-le q (against (w % 2 ^ d) (2 ^ d) more) in
      omega arith

  -- the pattern that is made of what is kept is the nearest of every number that is seen so
  pub seen_near : (num den : ℕ) → Window num den w more y → (y + d - 1) * 2 ^ 52 + k ≡ near num den
  seen_near num den c =
      let z = count_leading_zeros 64 w in
      let e : suc (10 - z) ≡ d = omega arith in
      let double : 2 ^ d ≡ 2 ^ (10 - z) * 2 = ap (λ (n : ℕ). 2 ^ n) (sym e) ∙ pow-suc 2 (10 - z) in
      whole ((y + d - 1) * 2 ^ 52 + k) seen_le
      ∙ ap (λ (n : ℕ). min infinity ((y + d - 1) * 2 ^ 52 + n)) kept_there
      ∙ sym (near_window num den w more y c d (2 ^ (10 - z)) (w / 2 ^ d) (w % 2 ^ d) double (div-add-mod' w (2 ^ d)) (mod-lt w (pow_pos d)) few leads)
    where
      whole : (p : ℕ) → p ≤ infinity → p ≡ min infinity p
      whole p h = omega arith
