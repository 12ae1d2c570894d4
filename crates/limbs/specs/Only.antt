-- "that two allowed answers coincide is proved": the contracts determine what is answered and what stands in the lent digits. Assumes nothing.
use Rattle.std.specs.Prelude.{ℕ, zero, suc, ◌+◌, ◌*◌, ◌/◌, ◌^◌, ◌≤◌, ◌<◌, ◌≡◌, refl, Bool, ◌⊎◌, List, [], ◌∷◌, ltb, length}
use Rattle.std.proofs.Common.{sym, ◌∙◌, ap, subst, inl, inr, mul-le-mul_right, pow-add, pow_mono}
use Rattle.std.proofs.Math.Nat.{add-mul-div_right, div-eq_of_lt}
use native.Mathlib.Omega.{arith, by_contra}
use Rattle.limbs.specs.declared.LeadingDigits.{LeadingDigits}
use Rattle.limbs.specs.Worth.{worth, LimbDigits, Scaled, Divided, lower, LeadingDigitsOf}
use Rattle.limbs.specs.Laws.{worth_lt}

-- a number has one list of digits of a length
pub worth_only : (xs ys : List ℕ) → LimbDigits xs → LimbDigits ys → length xs ≡ length ys → worth xs ≡ worth ys → xs ≡ ys
unfolding worth
worth_only [] [] d e l h = refl
worth_only [] (y ∷ ys) d e l h = absurd (omega arith)
worth_only (x ∷ xs) [] d e l h = absurd (omega arith)
worth_only (x ∷ xs) (y ∷ ys) d e l h =
    let a : x < 4294967296 = d 0 in
    let b : y < 4294967296 = e 0 in
    let p : x ≡ y = omega arith in
    let q : xs ≡ ys = worth_only xs ys (λ i. d (suc i)) (λ i. e (suc i)) (omega arith) (omega arith) in
    cc

-- a number has one quotient and one rest
rest_only : (p a b r s : ℕ) → a < p → b < p → r * p + a ≡ s * p + b → (r ≡ s) × (a ≡ b)
rest_only p a b r s h k e =
    let f : a + r * p ≡ b + s * p = omega arith in
    let z : 0 < p = omega arith in
    let q : r ≡ s = sym (part a r h z) ∙ ap (λ (n : ℕ). n / p) f ∙ part b s k z in
    let m : r * p ≡ s * p = ap (λ (n : ℕ). n * p) q in
    (q, omega arith)
  where
    part : (a r : ℕ) → a < p → 0 < p → (a + r * p) / p ≡ r
    part a r h z = add-mul-div_right a r z ∙ ap (λ (n : ℕ). n + r) (div-eq_of_lt h) ∙ omega arith

-- `scale`: one list of digits, and one number that no longer fits
pub scaled_only : (xs : List ℕ) (m a : ℕ) (ys zs : List ℕ) (r s : ℕ) → LimbDigits ys → LimbDigits zs → Scaled xs m a ys r → Scaled xs m a zs s → (ys ≡ zs) × (r ≡ s)
scaled_only xs m a ys zs r s d e h k =
    let p = 2 ^ (32 * length xs) in
    let f : worth ys < p = subst (λ (n : ℕ). worth ys < 2 ^ (32 * n)) h.same (worth_lt ys d) in
    let g : worth zs < p = subst (λ (n : ℕ). worth zs < 2 ^ (32 * n)) k.same (worth_lt zs e) in
    let u = h.whole in
    let v = k.whole in
    let o = rest_only p (worth ys) (worth zs) r s f g (omega arith) in
    (worth_only ys zs d e (h.same ∙ sym k.same) o.1, o.0)

-- `divide`: one list of digits, and one rest
pub divided_only : (xs : List ℕ) (d : ℕ) (ys zs : List ℕ) (r s : ℕ) → LimbDigits ys → LimbDigits zs → Divided xs d ys r → Divided xs d zs s → (ys ≡ zs) × (r ≡ s)
divided_only xs zero ys zs r s f g h k =
    let u = h.by_zero refl in
    let v = k.by_zero refl in
    (u.0 ∙ sym v.0, u.1 ∙ sym v.1)
divided_only xs (suc d) ys zs r s f g h k =
    let u = h.quotient (omega arith) in
    let v = k.quotient (omega arith) in
    let o = rest_only (suc d) r s (worth ys) (worth zs) u.1 v.1 (u.0 ∙ sym v.0) in
    (worth_only ys zs f g (h.same ∙ sym k.same) o.0, o.1)

-- ---- `top`
module _ (n : ℕ) where
  -- a number is below 2 ^ 64 moved up by what stands below its head
  reach : (r : LeadingDigits) → r.digits < 2 ^ 64 → LeadingDigitsOf n r → n < 2 ^ (64 + lower r)
  reach r f h =
      let p = 2 ^ lower r in
      let a : r.digits + 1 ≤ 18446744073709551616 = omega arith in
      let m : (r.digits + 1) * p ≤ 18446744073709551616 * p = mul-le-mul_right p a in
      let u = h.under in
      let w = h.whole in
      subst (λ (k : ℕ). n < k) (sym (pow-add 2 64 (lower r))) (omega arith)

  -- a head whose first digit is not 0 is no longer than any other
  shorter : (r s : LeadingDigits) → r.digits < 2 ^ 64 → 2 ^ 63 ≤ s.digits → LeadingDigitsOf n r → LeadingDigitsOf n s → lower s ≤ lower r
  shorter r s f g h k = by_contra (lower s) (lower r) longer
    where
      longer : lower r < lower s → ⊥
      longer l =
          let a = reach r f h in
          let b : 2 ^ (64 + lower r) ≤ 2 ^ (63 + lower s) = pow_mono (omega arith) in
          let e : 2 ^ (63 + lower s) ≡ 9223372036854775808 * 2 ^ lower s = pow-add 2 63 (lower s) in
          let m : 9223372036854775808 * 2 ^ lower s ≤ s.digits * 2 ^ lower s = mul-le-mul_right (2 ^ lower s) g in
          let w = k.whole in
          omega arith

  -- two heads of one number leave the same number of digits below
  places : (r s : LeadingDigits) → r.digits < 2 ^ 64 → s.digits < 2 ^ 64 → (h : LeadingDigitsOf n r) (k : LeadingDigitsOf n s) → ((r.limbs ≡ 0) × (r.bits ≡ 0)) ⊎ ((0 < r.bits) × (r.bits ≤ 32) × (2 ^ 63 ≤ r.digits)) → ((s.limbs ≡ 0) × (s.bits ≡ 0)) ⊎ ((0 < s.bits) × (s.bits ≤ 32) × (2 ^ 63 ≤ s.digits)) → (r.limbs ≡ s.limbs) × (r.bits ≡ s.bits)
  places r s f g h k (inl a) (inl b) = (a.0 ∙ sym b.0, a.1 ∙ sym b.1)
  places r s f g h k (inl a) (inr b) = let l = shorter r s f b.2 h k in absurd (omega arith)
  places r s f g h k (inr a) (inl b) = let l = shorter s r g a.2 k h in absurd (omega arith)
  places r s f g h k (inr a) (inr b) =
      let l = shorter r s f b.2 h k in
      let m = shorter s r g a.2 k h in
      (omega arith, omega arith)

  -- a head made of its four parts
  abbrev made : ℕ → ℕ → ℕ → Bool → LeadingDigits
  made d l b m = record { digits = d; limbs = l; bits = b; more = m }

  -- two heads with the same parts are the same
  alike : (r s : LeadingDigits) → r.digits ≡ s.digits → r.limbs ≡ s.limbs → r.bits ≡ s.bits → r.more ≡ s.more → r ≡ s
  alike r s a b c d =
      ap (λ (x : ℕ). made x r.limbs r.bits r.more) a
      ∙ ap (λ (x : ℕ). made s.digits x r.bits r.more) b
      ∙ ap (λ (x : ℕ). made s.digits s.limbs x r.more) c
      ∙ ap (λ (x : Bool). made s.digits s.limbs s.bits x) d

  -- a number has one head, whose digits are a `u64`
  pub head_only : (r s : LeadingDigits) → r.digits < 2 ^ 64 → s.digits < 2 ^ 64 → LeadingDigitsOf n r → LeadingDigitsOf n s → r ≡ s
  head_only r s f g h k =
      let p = places r s f g h k h.leads k.leads in
      let e : lower s ≡ lower r = omega arith in
      let w : s.digits * 2 ^ lower r + k.rest ≡ n = subst (λ (i : ℕ). s.digits * 2 ^ i + k.rest ≡ n) e k.whole in
      let u : k.rest < 2 ^ lower r = subst (λ (i : ℕ). k.rest < 2 ^ i) e k.under in
      let o = rest_only (2 ^ lower r) h.rest k.rest r.digits s.digits h.under u (h.whole ∙ sym w) in
      alike r s o.0 p.0 p.1 (h.left ∙ ap (ltb 0) o.1 ∙ sym k.left)
