-- Any real: the laws by which `less_places` and `read_real` are proved. An exponent that is held up to the largest number decides as the true one does,
-- since that far all answers are zeros and infinities; and the digits that the long path reads are those of the mantissa. Assumes nothing.
use Rattle.std.specs.Prelude.{ℕ, ◌+◌, ◌*◌, ◌-◌, ◌^◌, ◌≤◌, ◌<◌, min, ◌≡◌, refl, ◌⊎◌, Bool, true, false, List, [], ◌∷◌, eqb}
use Rattle.std.proofs.Common.{sym, ◌∙◌, ap, inl, inr, zero-mul, eq-zero-or-pos, arith, eqb-true}
use Rattle.std.proofs.Math.Decide.{dec_lt}
use Rattle.common.specs.Pick.{pick}
use Rattle.common.specs.Walk.{walk, turned, on, stop}
use Rattle.record.specs.Text.{number_and_rest, digit_turn, number_from}
use Rattle.record.specs.Byte.{digit}
use Rattle.nearest.specs.Near.{near}
use Rattle.nearest.specs.Nearest.{signed}
use Rattle.nearest.proofs.Borders.{near_nothing}
use Rattle.nearest.specs.Power.{near_by}
use Rattle.long_reals.specs.Number.{number_in}
use Rattle.long_reals.specs.Far.{high_infinity}
use Rattle.long_reals.proofs.Far.{far_zero}
use Rattle.long_reals.specs.DigitsRight.{number_next, number_past}
use Rattle.reals.specs.Scalar.{near_ten, largest_held, mantissa, pointed, fraction_of}
use Rattle.reals.specs.Class.{raised_same, lowered_same}

-- ---- exponents that are too large to be held
-- from 10 ^ 309 on one power of ten is as good as another: a whole number times it has one nearest pattern
up_same : (M j k : ℕ) → 309 ≤ j → 309 ≤ k → near (M * 10 ^ j) 1 ≡ near (M * 10 ^ k) 1
up_same M j k h l = go (eq-zero-or-pos M)
  where
    none : (i : ℕ) → M ≡ 0 → near (M * 10 ^ i) 1 ≡ 0
    none i e = ap (λ (x : ℕ). near x 1) (ap (λ (n : ℕ). n * 10 ^ i) e ∙ zero-mul (10 ^ i)) ∙ near_nothing 1 (omega arith)

    go : (M ≡ 0) ⊎ (0 < M) → near (M * 10 ^ j) 1 ≡ near (M * 10 ^ k) 1
    go (inl e) = none j e ∙ sym (none k e)
    go (inr p) =
        let one : 10 ^ 1 ≤ 10 * M = omega arith in
        let a : 309 < 1 + j = omega arith in
        let b : 309 < 1 + k = omega arith in
        high_infinity M 1 j one a ∙ sym (high_infinity M 1 k one b)

module _ (M X n f x : ℕ) (h : M < 10 ^ n) (l : n < 2 ^ 63) (g : f < 2 ^ 63) (e : x ≡ min largest_held X) where
  -- a negative exponent that can be held together with the fraction's length: the power of ten is their sum
  pub down_held : x + f ≤ largest_held → near_by true M (x + f) ≡ near_ten M f true X
  down_held w = go (dec_lt x largest_held)
    where
      go : Dec (x < largest_held) → near M (10 ^ (x + f)) ≡ near M (10 ^ (X + f))
      go (yes s) = let y : x ≡ X = omega arith in ap (λ (i : ℕ). near M (10 ^ (i + f))) y
      go (no s) =
          let a : n + 324 ≤ x + f = omega arith in
          let b : n + 324 ≤ X + f = omega arith in
          far_zero M n (x + f) h a ∙ sym (far_zero M n (X + f) h b)

  -- a negative exponent that cannot be held together with the fraction's length: the largest number serves as well
  pub down_far : largest_held < x + f → near_by true M largest_held ≡ near_ten M f true X
  down_far w =
      let a : n + 324 ≤ largest_held = omega arith in
      let b : n + 324 ≤ X + f = omega arith in
      far_zero M n largest_held h a ∙ sym (far_zero M n (X + f) h b)

  -- an exponent of the fraction's length or more: the power of ten is what it has over
  pub up_held : f ≤ x → near_by false M (x - f) ≡ near_ten M f false X
  up_held w = go (dec_lt x largest_held)
    where
      go : Dec (x < largest_held) → near (M * 10 ^ (x - f)) 1 ≡ near (M * 10 ^ X) (10 ^ f)
      go (yes s) = let y : x ≡ X = omega arith in raised_same M f x w ∙ ap (λ (i : ℕ). near (M * 10 ^ i) (10 ^ f)) y
      go (no s) =
          let a : 309 ≤ x - f = omega arith in
          let b : 309 ≤ X - f = omega arith in
          let c : f ≤ X = omega arith in
          up_same M (x - f) (X - f) a b ∙ raised_same M f X c

  -- a fraction as long as the exponent says, or longer: the power of ten is negative, what the fraction has over
  pub mid_held : x ≤ f → near_by true M (f - x) ≡ near_ten M f false X
  mid_held w = let y : x ≡ X = omega arith in lowered_same M f x w ∙ ap (λ (i : ℕ). near (M * 10 ^ i) (10 ^ f)) y

-- b is the answer for any real whose digits make M, where the exponent is held up to the largest number
abbrev pub AnyAt : Bool → ℕ → ℕ → Bool → ℕ → ℕ → Type 0
AnyAt s M f d x b = (X : ℕ) → x ≡ min largest_held X → b ≡ signed s (near_ten M f d X)

-- ---- the digits of the mantissa
-- the number of a text's digits goes on, after those at its start, with those of the rest
pub number_rest : (n : ℕ) (xs : List ℕ) → number_in n xs ≡ number_in (number_from n xs).value (number_from n xs).rest
unfolding number_from walk
number_rest n [] = refl
number_rest n (c ∷ r) = go (digit c) refl (number_rest (n * 10 + (c - 48)) r)
  where
    go : (t : Bool) → digit c ≡ t → number_in (n * 10 + (c - 48)) r ≡ number_in (number_from (n * 10 + (c - 48)) r).value (number_from (n * 10 + (c - 48)) r).rest
        → number_in n (c ∷ r) ≡ number_in (turned (pick t (on (n * 10 + (c - 48))) (stop (number_and_rest n (c ∷ r)))) (λ u. walk digit_turn (λ m. number_and_rest m []) u r)).value (turned (pick t (on (n * 10 + (c - 48))) (stop (number_and_rest n (c ∷ r)))) (λ u. walk digit_turn (λ m. number_and_rest m []) u r)).rest
    go true e h = number_next n c r e ∙ h
    go false e h = refl

-- the number of a text's digits goes on, after a fraction, whose point is no digit, with those of the rest
pub fraction_rest : (w : ℕ) (xs : List ℕ) → number_in w xs ≡ number_in (fraction_of w xs).value (fraction_of w xs).rest
fraction_rest w [] = refl
fraction_rest w (c ∷ r) = go (eqb c 46) refl
  where
    go : (t : Bool) → eqb c 46 ≡ t → number_in w (c ∷ r) ≡ number_in (pick t (pointed r (number_from w r)) (mantissa w 0 (c ∷ r))).value (pick t (pointed r (number_from w r)) (mantissa w 0 (c ∷ r))).rest
    go true e =
        let p : c ≡ 46 = eqb-true c 46 e in
        number_past w c r (ap digit p) ∙ number_rest w r
    go false e = refl
