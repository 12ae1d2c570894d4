-- A number by its digits down to a place that may be as low as half the least f64: what is kept, and whether anything is left below. Assumes nothing.
use Prim.Native.Nat.{ℕ, zero, suc, ◌+◌, ◌-◌, ◌*◌, ◌^◌, ◌≤◌, ◌<◌, min, compare, Ordering}
use Rattle.std.specs.Prelude.{◌≡◌, ◌⊎◌, Bool, ◌||◌, ltb}
use Rattle.std.proofs.Math.Path.{refl, sym, ap, subst}
use Rattle.std.proofs.Common.{◌∙◌, inl, inr, add_assoc, add-mul, zero-mul, zero-add, suc-mul, mul_assoc, mul_left_comm, mul_right_comm, mul-le-mul_right, pow-suc, lt-ltb, pow_pos, pow-add}
use Rattle.std.proofs.Math.Nat.{mul_comm, mul-pos}
use native.Mathlib.Omega.{arith}
use Rattle.std.specs.Int.Count.{count_leading_zeros}
use Rattle.std.specs.Float.Ieee.{nearest}
use Rattle.nearest.specs.PatternUnits.{infinity}
use Rattle.nearest.specs.Near.{near, Cmp, cmp}
use Rattle.nearest.proofs.Near.{near_digits, near_same}
use Rattle.nearest.specs.Scaled.{order_is}
use Rattle.nearest.specs.Nearest.{signed}
use Rattle.f64_rounding.specs.CutNumbers.{order_with_rest}
use Rattle.f64_rounding.specs.Half.{against}

-- num / den is w times 2 ^ (y - 1075), and what is left over is less than one such unit; `more` says whether there is any
pub record Window (num den w : ℕ) (more : Bool) (y : ℕ) : Type 0 where
  pub rest : ℕ
  pub divisor : 0 < den
  pub whole : w * (den * 2 ^ y) + rest ≡ num * 2 ^ 1075
  pub below : rest < den * 2 ^ y
  pub left : more ≡ ltb 0 rest

-- whatever number is seen as w, `more` and y as `Window` says, its nearest f64 has the pattern b with its sign
abbrev pub RoundsAs : Bool → ℕ → Bool → ℕ → ℕ → Type 0
RoundsAs s w more y b = (num den : ℕ) → Window num den w more y → b ≡ signed s (near num den)

-- how many of w's binary digits are dropped: so many that 53 are left, and one at least
abbrev pub spare_of : ℕ → ℕ
spare_of w = 1 + (10 - count_leading_zeros 64 w)

-- ---- how a number comes to be seen so
-- of k units and R something is left just where k or R is not 0
pub left_told : (k U R : ℕ) → 0 < U → ltb 0 k || ltb 0 R ≡ ltb 0 (k * U + R)
left_told zero U R p = ap (λ (n : ℕ). ltb 0 n) (sym (ap (λ (n : ℕ). n + R) (zero-mul U) ∙ zero-add R))
left_told (suc k) U R p =
    let r : 0 < suc k = omega arith in
    let q : 0 < suc k * U = mul-pos r p in
    ap (λ (t : Bool). t || ltb 0 R) (lt-ltb 0 (suc k) r) ∙ sym (lt-ltb 0 (suc k * U + R) (more (suc k * U) q))
  where
    more : (a : ℕ) → 0 < a → 0 < a + R
    more a h = omega arith

-- W units and a rest, with z binary digits of W cut off, make a window: what is left is those low digits and the rest
pub window_of : (num den W U R z w low y : ℕ) → 0 < den → num * 2 ^ 1075 ≡ W * U + R → R < U → den * 2 ^ y ≡ 2 ^ z * U → w * 2 ^ z + low ≡ W → low < 2 ^ z → Window num den w (ltb 0 low || ltb 0 R) y
window_of num den W U R z w low y dp e b f g l = record {
  rest = low * U + R;
  divisor = dp;
  whole =
      ap (λ (n : ℕ). w * n + (low * U + R)) f
      ∙ ap (λ (n : ℕ). n + (low * U + R)) (sym (mul_assoc w (2 ^ z) U))
      ∙ sym (add_assoc (w * 2 ^ z * U) (low * U) R)
      ∙ ap (λ (n : ℕ). n + R) (sym (add-mul (w * 2 ^ z) low U) ∙ ap (λ (n : ℕ). n * U) g)
      ∙ sym e;
  below = subst (λ (n : ℕ). low * U + R < n) (sym f) (less (low * U) (2 ^ z * U) (subst (λ (n : ℕ). n ≤ 2 ^ z * U) (suc-mul low U) (mul-le-mul_right U l)));
  left = left_told low U R (omega arith);
}
  where
    less : (a d : ℕ) → a + U ≤ d → a + R < d
    less a d h = omega arith

-- ---- the law of what is seen
module _ (num den w : ℕ) (more : Bool) (y : ℕ) (c : Window num den w more y) (d half q low : ℕ) (double : 2 ^ suc d ≡ half * 2) (split : q * 2 ^ suc d + low ≡ w) (within : low < 2 ^ suc d) where
  -- one unit of a number seen by its digits, multiplied out
  u : ℕ
  u = den * 2 ^ y

  -- the unit of a number seen by its digits is positive
  u_pos : 0 < u
  unfolding u
  u_pos = mul-pos c.divisor (pow_pos y)

  -- the divisor of the digits kept is 2 ^ (d + 1) units
  units : den * 2 * 2 ^ (y + d) ≡ 2 ^ suc d * u
  unfolding u
  units = ap (λ (n : ℕ). den * 2 * n) (pow-add 2 y d) ∙ regroup den (2 ^ y) (2 ^ d) ∙ ap (λ (n : ℕ). n * (den * 2 ^ y)) (sym (pow-suc 2 d))
    where
      regroup : (a b e : ℕ) → a * 2 * (b * e) ≡ e * 2 * (a * b)
      regroup a b e = simp (mul_assoc, mul_comm, mul_left_comm) refl

  -- the number is q times 2 ^ (d + 1) units, and what was dropped
  whole : q * (den * 2 * 2 ^ (y + d)) + (low * u + c.rest) ≡ num * 2 * 2 ^ 1074
  unfolding u
  whole =
      ap (λ (n : ℕ). q * n + (low * u + c.rest)) units
      ∙ ap (λ (n : ℕ). n + (low * u + c.rest)) (sym (mul_assoc q (2 ^ suc d) u))
      ∙ sym (add_assoc (q * 2 ^ suc d * u) (low * u) c.rest)
      ∙ ap (λ (n : ℕ). n + c.rest) (sym (add-mul (q * 2 ^ suc d) low u) ∙ ap (λ (n : ℕ). n * u) split)
      ∙ c.whole
      ∙ sym (mul_assoc num 2 (2 ^ 1074))

  -- what was dropped of the number is less than 2 ^ (d + 1) units
  short : low * u + c.rest < den * 2 * 2 ^ (y + d)
  unfolding u
  short = subst (λ (n : ℕ). low * u + c.rest < n) (sym units) (less (low * u) (2 ^ suc d * u) (subst (λ (n : ℕ). n ≤ 2 ^ suc d * u) (suc-mul low u) (mul-le-mul_right u within)) c.below)
    where
      less : (a e : ℕ) → a + u ≤ e → c.rest < u → a + c.rest < e
      less a e g b = omega arith

  -- what was dropped compares with half of 2 ^ (d + 1) units as w's low digits and `more` say
  half_way : compare ((low * u + c.rest) * 2) (den * 2 * 2 ^ (y + d)) ≡ against low (2 ^ suc d) more
  unfolding u
  half_way =
      let D = 2 ^ suc d in
      let U = den * 2 * 2 ^ (y + d) in
      let n = (low * u + c.rest) * 2 in
      let h : Cmp (compare (low * 2) D) (low * 2) (half * 2) = subst (λ (m : ℕ). Cmp (compare (low * 2) D) (low * 2) m) double (cmp (low * 2) D) in
      let g = order_with_rest (compare (low * 2) D) u low half c.rest more u_pos c.below c.left h in
      let e : u * (half * 2) ≡ U = ap (λ (m : ℕ). u * m) (sym double) ∙ mul_comm u D ∙ sym units in
      order_is (compare n U) (against low D more) n U (cmp n U) (subst (λ (m : ℕ). Cmp (against low D more) n m) e g)

  -- 53 digits of w, or all that there are at the lowest place, and what was dropped of it, tell the nearest
  near_seen : q < 2 ^ 53 → (y + suc d ≡ 1) ⊎ (2 ^ 52 ≤ q) → near num den ≡ min infinity ((y + suc d - 1) * 2 ^ 52 + nearest q (against low (2 ^ suc d) more))
  near_seen few lead =
      let p : y + d ≡ y + suc d - 1 = omega arith in
      let dp = c.divisor in
      let ep : 0 < den * 2 = omega arith in
      near_same num den (num * 2) (den * 2) dp ep (sym (mul_assoc num den 2) ∙ mul_right_comm num den 2)
      ∙ near_digits (num * 2) (den * 2) (y + d) q (low * u + c.rest) ep whole short few (leads lead)
      ∙ ap (λ (n : ℕ). min infinity (n * 2 ^ 52 + nearest q (compare ((low * u + c.rest) * 2) (den * 2 * 2 ^ (y + d))))) p
      ∙ ap (λ (o : Ordering). min infinity ((y + suc d - 1) * 2 ^ 52 + nearest q o)) half_way
    where
      leads : (y + suc d ≡ 1) ⊎ (2 ^ 52 ≤ q) → (y + d ≡ 0) ⊎ (2 ^ 52 ≤ q)
      leads (inl e) = inl (omega arith)
      leads (inr l) = inr l

-- `drop` digits of w are dropped, one at least: 53 digits kept, or all that there are at the lowest place, and what was dropped, tell the nearest
pub near_window : (num den w : ℕ) (more : Bool) (y : ℕ) → Window num den w more y → (drop half q low : ℕ) → 2 ^ drop ≡ half * 2 → q * 2 ^ drop + low ≡ w → low < 2 ^ drop → q < 2 ^ 53 → (y + drop ≡ 1) ⊎ (2 ^ 52 ≤ q) → near num den ≡ min infinity ((y + drop - 1) * 2 ^ 52 + nearest q (against low (2 ^ drop) more))
near_window num den w more y c zero half q low double split within few lead = let e : 1 ≡ half * 2 = double in absurd (omega arith)
near_window num den w more y c (suc d) half q low double split within few lead = near_seen num den w more y c d half q low double split within few lead
