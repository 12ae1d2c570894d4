-- From a number in the room, divided or multiplied, to the view by which its fraction is rounded. Laws for the proofs; no promise names them.
-- Assumes nothing.
use Prim.Native.Nat.{ℕ, zero, suc, ◌+◌, ◌-◌, ◌*◌, ◌^◌, ◌≤◌, ◌<◌}
use Rattle.std.specs.Prelude.{◌≡◌, ◌⊎◌, Bool, true, false, ◌||◌}
use Rattle.std.proofs.Math.Path.{refl, sym, ap}
use Rattle.std.proofs.Common.{◌∙◌, subst, inl, inr, add-zero, mul_assoc, mul_left_comm, mul-one, one-mul, zero-mul, suc-mul, mul-pos, mul-le-mul, lt_of_mul-lt-mul_right, lt_of_le_of_lt, lt-ltb, pow_pos}
use Rattle.std.proofs.Math.Nat.{add_assoc, add-mul, mul_comm, mul-le-mul_right, mul-lt-mul_of_pos_right, one-le-pow}
use native.Mathlib.Omega.{arith}
use Rattle.std.proofs.Math.Dec.{ltb}
use Rattle.std.proofs.Math.Pow.{pow-add}
use Rattle.nearest.specs.PowerLaws.{ten_pos, tens}
use Rattle.f64_rounding.specs.Window.{Window, RoundsAs, left_told, window_of}
use Rattle.limbs.specs.Worth.{LeadingDigitsOf, lower}
use Rattle.limbs.specs.declared.LeadingDigits.{LeadingDigits}
use Rattle.long_reals.specs.RoomFraction.{Lowered, MovedFraction, LowersTo, RaisesTo}

-- ---- what is left
-- of x times a positive number something is left just where x is not 0
left_times : (x p : ℕ) → 0 < p → ltb 0 (x * p) ≡ ltb 0 x
left_times zero p h = ap (λ (n : ℕ). ltb 0 n) (zero-mul p)
left_times (suc x) p h = let r : 0 < suc x = omega arith in lt-ltb 0 (suc x * p) (mul-pos r h) ∙ sym (lt-ltb 0 (suc x) r)

-- three tests joined by or, in either grouping
or_assoc : (a b c : Bool) → a || (b || c) ≡ (a || b) || c
or_assoc true b c = refl
or_assoc false b c = refl

-- a test joined by or with false is that test
or_false : (a : Bool) → a || false ≡ a
or_false true = refl
or_false false = refl

-- ---- divided
module _ (num den n s k : ℕ) (more left : Bool) (W z w low : ℕ) (c : MovedFraction num den n s k more) (d : Lowered n (5 ^ k) W left) (Near-by : s + k ≤ 1075) where
  -- one unit of W, multiplied out
  U : ℕ
  U = 5 ^ k * c.group * 2 ^ (1075 - s)

  -- what is left below W, multiplied out: of the division, and of the group
  R : ℕ
  R = (d.rest * c.group + c.tail) * 2 ^ (1075 - s)

  -- the number is W units and what is left below W
  in_units : num * 2 ^ 1075 ≡ W * U + R
  unfolding U R
  in_units =
      let P = 2 ^ (1075 - s) in
      let g = c.group in
      let t = c.tail in
      let e : s + (1075 - s) ≡ 1075 = omega arith in
      ap (λ (x : ℕ). num * x) (ap (λ (x : ℕ). 2 ^ x) (sym e) ∙ pow-add 2 s (1075 - s))
      ∙ sym (mul_assoc num (2 ^ s) P)
      ∙ ap (λ (x : ℕ). x * P) (c.whole ∙ ap (λ (x : ℕ). x * g + t) (sym d.whole) ∙ ap (λ (x : ℕ). x + t) (add-mul (W * 5 ^ k) d.rest g) ∙ add_assoc (W * 5 ^ k * g) (d.rest * g) t ∙ ap (λ (x : ℕ). x + (d.rest * g + t)) (mul_assoc W (5 ^ k) g))
      ∙ add-mul (W * (5 ^ k * g)) (d.rest * g + t) P
      ∙ ap (λ (x : ℕ). x + (d.rest * g + t) * P) (mul_assoc W (5 ^ k * g) P)

  -- what is left below W is less than a unit
  rest_lt : R < U
  unfolding U R
  rest_lt =
      let g = c.group in
      let a : suc d.rest * g ≤ 5 ^ k * g = mul-le-mul_right g d.below in
      mul-lt-mul_of_pos_right (less (d.rest * g) (5 ^ k * g) c.tail g (subst (λ (x : ℕ). x ≤ 5 ^ k * g) (suc-mul d.rest g) a) c.below) (pow_pos (1075 - s))
    where
      less : (x y t g : ℕ) → x + g ≤ y → t < g → x + t < y
      less x y t g h l = omega arith

  -- the divisor of the digits seen is 2 ^ z units
  units : den * 2 ^ (z + (1075 - s - k)) ≡ 2 ^ z * U
  unfolding U
  units =
      let g = c.group in
      let e : k + (1075 - s - k) ≡ 1075 - s = omega arith in
      ap (λ (x : ℕ). x * 2 ^ (z + (1075 - s - k))) (c.divisor ∙ ap (λ (x : ℕ). x * g) (tens k))
      ∙ ap (λ (x : ℕ). 5 ^ k * 2 ^ k * g * x) (pow-add 2 z (1075 - s - k))
      ∙ regroup (5 ^ k) (2 ^ k) g (2 ^ z) (2 ^ (1075 - s - k))
      ∙ ap (λ (x : ℕ). 2 ^ z * (5 ^ k * g * x)) (sym (pow-add 2 k (1075 - s - k)) ∙ ap (λ (x : ℕ). 2 ^ x) e)
    where
      regroup : (f a g z b : ℕ) → f * a * g * (z * b) ≡ z * (f * g * (a * b))
      regroup f a g z b = simp (mul_assoc, mul_comm, mul_left_comm) refl

  -- the divisor of the fraction that n stands for is positive
  den_pos : 0 < den
  den_pos =
      let b : c.tail < c.group = c.below in
      let p : 0 < c.group = omega arith in
      subst (λ (x : ℕ). 0 < x) (sym c.divisor) (mul-pos (ten_pos k) p)

  -- something is left below W just where it is of the division or of the group
  left_of : left || more ≡ ltb 0 R
  unfolding R
  left_of =
      let b : c.tail < c.group = c.below in
      ap (λ (x : Bool). x || more) d.left
      ∙ ap (λ (x : Bool). ltb 0 d.rest || x) c.left
      ∙ left_told d.rest c.group c.tail (omega arith)
      ∙ sym (left_times (d.rest * c.group + c.tail) (2 ^ (1075 - s)) (pow_pos (1075 - s)))

  -- a fraction whose n is divided by 5 ^ k to W is seen by W's leading digits
  pub lowered_window : w * 2 ^ z + low ≡ W → low < 2 ^ z → Window num den w ((ltb 0 low || left) || more) (z + (1075 - s - k))
  lowered_window e l = subst (λ (t : Bool). Window num den w t (z + (1075 - s - k))) (ap (λ (t : Bool). ltb 0 low || t) (sym left_of) ∙ or_assoc (ltb 0 low) left more) (window_of num den W U R z w low (z + (1075 - s - k)) den_pos in_units rest_lt units e l)

-- ---- multiplied
-- a number that was moved up by 64 binary digits, times 5 ^ k, is seen by its leading digits
pub raised_window : (num n k W z w low : ℕ) → num * 2 ^ 64 ≡ n → W ≡ n * 5 ^ k → w * 2 ^ z + low ≡ W → low < 2 ^ z → Window (num * 10 ^ k) 1 w (ltb 0 low) (z + (1011 + k))
raised_window num n k W z w low e f g l =
    let U = 2 ^ (1011 + k) in
    let whole : num * 10 ^ k * 2 ^ 1075 ≡ W * U + 0 =
    ap (λ (x : ℕ). num * x * 2 ^ 1075) (tens k)
    ∙ ap (λ (x : ℕ). num * (5 ^ k * 2 ^ k) * x) (pow-add 2 64 1011)
    ∙ regroup num (5 ^ k) (2 ^ k) (2 ^ 64) (2 ^ 1011)
    ∙ ap (λ (x : ℕ). x * 5 ^ k * (2 ^ 1011 * 2 ^ k)) e
    ∙ ap (λ (x : ℕ). x * (2 ^ 1011 * 2 ^ k)) (sym f)
    ∙ ap (λ (x : ℕ). W * x) (sym (pow-add 2 1011 k))
    ∙ sym (add-zero (W * U)) in
    subst (λ (t : Bool). Window (num * 10 ^ k) 1 w t (z + (1011 + k))) (or_false (ltb 0 low))
    (window_of (num * 10 ^ k) 1 W U 0 z w low (z + (1011 + k)) (omega arith) whole (pow_pos (1011 + k)) (one-mul (2 ^ (z + (1011 + k))) ∙ pow-add 2 z (1011 + k)) g l)
  where
    regroup : (a f t b c : ℕ) → a * (f * t) * (b * c) ≡ a * b * f * (c * t)
    regroup a f t b c = simp (mul_assoc, mul_comm, mul_left_comm) refl

-- ---- by a head
-- a head of more than 64 digits has its leading one
head_leads : (W : ℕ) (h : LeadingDigits) → LeadingDigitsOf W h → 2 ^ 64 ≤ W → h.digits < 2 ^ 64 → 2 ^ 63 ≤ h.digits
head_leads W h c l m = go c.leads
  where
    go : ((h.limbs ≡ 0) × (h.bits ≡ 0)) ⊎ ((0 < h.bits) × (h.bits ≤ 32) × (2 ^ 63 ≤ h.digits)) → 2 ^ 63 ≤ h.digits
    go (inr t) = t.2
    go (inl t) =
        let z : lower h ≡ 0 = let a = t.0 in let b = t.1 in omega arith in
        let e : h.digits * 2 ^ 0 + c.rest ≡ W = subst (λ (x : ℕ). h.digits * 2 ^ x + c.rest ≡ W) z c.whole in
        let u : c.rest < 2 ^ 0 = subst (λ (x : ℕ). c.rest < 2 ^ x) z c.under in
        absurd (omega arith)

-- the head of n divided by 5 ^ k has 64 digits, or all down to the lowest place
pub lowered_leads : (n s k : ℕ) (left : Bool) (W : ℕ) (h : LeadingDigits) → (s + k ≡ 1075) ⊎ (5 ^ k * 2 ^ 64 ≤ n) → Lowered n (5 ^ k) W left → LeadingDigitsOf W h → h.digits < 2 ^ 64 → (lower h + (1075 - s - k) ≡ 0) ⊎ (2 ^ 63 ≤ h.digits)
lowered_leads n s k left W h r d c m = go r c.leads
  where
    long : 5 ^ k * 2 ^ 64 ≤ n → 2 ^ 64 ≤ W
    long l =
        let p = 5 ^ k in
        let a : W * p + d.rest < suc W * p = subst (λ (x : ℕ). W * p + d.rest < x) (sym (suc-mul W p)) (more (W * p) p d.rest d.below) in
        let b : 2 ^ 64 * p < suc W * p = lt_of_le_of_lt (subst (λ (x : ℕ). x ≤ n) (mul_comm p (2 ^ 64)) l) (subst (λ (x : ℕ). x < suc W * p) d.whole a) in
        let f : 2 ^ 64 < suc W = lt_of_mul-lt-mul_right p b in
        omega arith
      where
        more : (a p r : ℕ) → r < p → a + r < a + p
        more a p r l = omega arith

    go : (s + k ≡ 1075) ⊎ (5 ^ k * 2 ^ 64 ≤ n) → ((h.limbs ≡ 0) × (h.bits ≡ 0)) ⊎ ((0 < h.bits) × (h.bits ≤ 32) × (2 ^ 63 ≤ h.digits)) → (lower h + (1075 - s - k) ≡ 0) ⊎ (2 ^ 63 ≤ h.digits)
    go e (inr t) = inr t.2
    go (inl e) (inl t) = inl (let a = t.0 in let b = t.1 in omega arith)
    go (inr l) (inl t) = inr (head_leads W h c (long l) m)

-- what is rounded by the head of n divided by 5 ^ k is the fraction that n stands for
pub lowers_to : (neg : Bool) (n s k : ℕ) (more left : Bool) (W : ℕ) (h : LeadingDigits) (b : ℕ) → s + k ≤ 1075 → Lowered n (5 ^ k) W left → LeadingDigitsOf W h → RoundsAs neg h.digits ((h.more || left) || more) (lower h + (1075 - s - k)) b → LowersTo neg n s k more b
lowers_to neg n s k more left W h b l d c r num den t =
    r num den (subst (λ (x : Bool). Window num den h.digits ((x || left) || more) (lower h + (1075 - s - k))) (sym c.left) (lowered_window num den n s k more left W (lower h) h.digits c.rest t d l c.whole c.under))

-- the head of n times 5 ^ k has 64 digits
pub raised_leads : (n k W : ℕ) (h : LeadingDigits) → 2 ^ 64 ≤ n → W ≡ n * 5 ^ k → LeadingDigitsOf W h → h.digits < 2 ^ 64 → 2 ^ 63 ≤ h.digits
raised_leads n k W h l e c m = head_leads W h c (subst (λ (x : ℕ). 2 ^ 64 ≤ x) (sym e) (subst (λ (x : ℕ). x ≤ n * 5 ^ k) (mul-one (2 ^ 64)) (mul-le-mul l (one-le-pow k 5 (omega arith))))) m

-- what is rounded by the head of n times 5 ^ k is the number that n stands for, times 10 ^ k
pub raises_to : (neg : Bool) (n k W : ℕ) (h : LeadingDigits) (b : ℕ) → W ≡ n * 5 ^ k → LeadingDigitsOf W h → RoundsAs neg h.digits h.more (lower h + (1011 + k)) b → RaisesTo neg n k b
raises_to neg n k W h b e c r num f = r (num * 10 ^ k) 1 (subst (λ (x : Bool). Window (num * 10 ^ k) 1 h.digits x (lower h + (1011 + k))) (sym c.left) (raised_window num n k W (lower h) h.digits c.rest f e c.whole c.under))
