-- What patterns are worth, in order: laws. Assumes nothing.
use Rattle.std.specs.Prelude.{ℕ, zero, suc, ◌+◌, ◌-◌, ◌*◌, ◌/◌, ◌%◌, ◌^◌, ◌≤◌, ◌<◌, ◌≡◌, refl, ◌⊎◌}
use Rattle.std.proofs.Common.{sym, ◌∙◌, ap, subst, inl, inr, mul-one, suc-mul, le_of_lt, eq-or-lt_of_le, mul_assoc, arith, pow_pos}
use Rattle.std.proofs.Math.Nat.{pow-succ'}
use Rattle.std.proofs.Math.Decide.{dec_lt}
use Rattle.nearest.specs.PatternUnits.{units_at, pattern_units}

-- k digits are dropped and q is kept: q has at most 53 digits, or is 2 ^ 53 after a carry, and where digits are dropped it has
-- its leading one
pub record DroppedDigits (k q : ℕ) : Type 0 where
  pub most : q ≤ 2 ^ 53
  pub leads : (k ≡ 0) ⊎ (2 ^ 52 ≤ q)

-- what a pattern is worth, by its two fields
fields : (b x t : ℕ) → b / 2 ^ 52 ≡ x → b % 2 ^ 52 ≡ t → pattern_units b ≡ units_at x t
unfolding pattern_units
fields b x t e f = ap (λ (y : ℕ). units_at y (b % 2 ^ 52)) e ∙ ap (units_at x) f

-- the leading digit taken off and put back
sub_lead : (k q : ℕ) → 2 ^ 52 ≤ q → (2 ^ 52 + (q - 2 ^ 52)) * 2 ^ k ≡ q * 2 ^ k
sub_lead k q h = let e : 2 ^ 52 + (q - 2 ^ 52) ≡ q = omega arith in ap (λ (y : ℕ). y * 2 ^ k) e

-- what q units of 2 ^ k are worth as a pattern, the carry included
pub units_kept : (k q : ℕ) → DroppedDigits k q → pattern_units (k * 2 ^ 52 + q) ≡ q * 2 ^ k
units_kept k q h = go (dec_lt q (2 ^ 52)) (dec_lt q (2 ^ 53)) h.leads
  where
    go : Dec (q < 2 ^ 52) → Dec (q < 2 ^ 53) → (k ≡ 0) ⊎ (2 ^ 52 ≤ q) → pattern_units (k * 2 ^ 52 + q) ≡ q * 2 ^ k
    go (yes a) d (inl z) = fields (k * 2 ^ 52 + q) 0 q (omega arith) (omega arith) ∙ sym (mul-one q) ∙ ap (λ (y : ℕ). q * 2 ^ y) (sym z)
    go (yes a) d (inr l) = absurd (omega arith)
    go (no a) (yes b) w =
        let l : 2 ^ 52 ≤ q = omega arith in
        fields (k * 2 ^ 52 + q) (suc k) (q - 2 ^ 52) (omega arith) (omega arith) ∙ sub_lead k q l
    go (no a) (no b) w =
        let m : q ≤ 2 ^ 53 = h.most in
        let e : q ≡ 2 ^ 52 * 2 = omega arith in
        fields (k * 2 ^ 52 + q) (suc (suc k)) 0 (omega arith) (omega arith)
        ∙ ap (λ (y : ℕ). 2 ^ 52 * y) (pow-succ' 2 k)
        ∙ sym (mul_assoc (2 ^ 52) 2 (2 ^ k))
        ∙ ap (λ (y : ℕ). y * 2 ^ k) (sym e)

-- the next pattern after b is worth more than b
step : (b : ℕ) → pattern_units b < pattern_units (suc b)
step b = go (b / 2 ^ 52) refl
  where
    go : (x : ℕ) → b / 2 ^ 52 ≡ x → pattern_units b < pattern_units (suc b)
    go zero e =
        let l : b ≤ 2 ^ 52 = omega arith in
        let f : pattern_units b ≡ b % 2 ^ 52 = fields b 0 (b % 2 ^ 52) e refl in
        let k : DroppedDigits 0 (suc b) = record { most = omega arith; leads = inl refl } in
        let g : pattern_units (0 * 2 ^ 52 + suc b) ≡ suc b * 2 ^ 0 = units_kept 0 (suc b) k in
        let i : 0 * 2 ^ 52 + suc b ≡ suc b = omega arith in
        let j : pattern_units (suc b) ≡ suc b * 1 = ap pattern_units (sym i) ∙ g in
        omega arith
    go (suc x) e =
        let t = b % 2 ^ 52 in
        let p = 2 ^ x in
        let P : 0 < p = pow_pos x in
        let f : pattern_units b ≡ (2 ^ 52 + t) * p = fields b (suc x) t e refl in
        let k : DroppedDigits x (suc (2 ^ 52 + t)) = record { most = omega arith; leads = inr (omega arith) } in
        let i : x * 2 ^ 52 + suc (2 ^ 52 + t) ≡ suc b = omega arith in
        let g : pattern_units (suc b) ≡ suc (2 ^ 52 + t) * p = ap pattern_units (sym i) ∙ units_kept x (suc (2 ^ 52 + t)) k in
        let s : suc (2 ^ 52 + t) * p ≡ (2 ^ 52 + t) * p + p = suc-mul (2 ^ 52 + t) p in
        more (pattern_units b) (pattern_units (suc b)) ((2 ^ 52 + t) * p) p f (g ∙ s) P
      where
        more : (u v w p : ℕ) → u ≡ w → v ≡ w + p → 0 < p → u < v
        more u v w p a b c = omega arith

-- patterns in order are worth numbers in order
pub units_lt : (a b : ℕ) → a < b → pattern_units a < pattern_units b
units_lt a zero h = absurd (omega arith)
units_lt a (suc b) h = go (dec_lt a b) (step b) (units_lt a b)
  where
    go : Dec (a < b) → pattern_units b < pattern_units (suc b) → (a < b → pattern_units a < pattern_units b) → pattern_units a < pattern_units (suc b)
    go (yes l) s r = let t : pattern_units a < pattern_units b = r l in omega arith
    go (no n) s r = let e : a ≡ b = omega arith in subst (λ (x : ℕ). pattern_units x < pattern_units (suc b)) (sym e) s

-- no pattern is worth less than one below it
pub units_le : (a b : ℕ) → a ≤ b → pattern_units a ≤ pattern_units b
units_le a b h = go (eq-or-lt_of_le h)
  where
    go : (a ≡ b) ⊎ (a < b) → pattern_units a ≤ pattern_units b
    go (inl e) = let f : pattern_units a ≡ pattern_units b = ap pattern_units e in omega arith
    go (inr l) = le_of_lt (units_lt a b l)
