-- m * 10 ^ k and m / 10 ^ k, cut below the digits that the code computes: 10 ^ k is 5 ^ k * 2 ^ k, and a power of two moves nothing but
-- the place. Laws for the proofs; of this file promises name `halvings_of`, `five_lift` and `Reciprocal` alone. Assumes nothing.
use Rattle.std.specs.Prelude.{ℕ, zero, suc, ◌+◌, ◌-◌, ◌*◌, ◌/◌, ◌%◌, ◌^◌, ◌≤◌, ◌<◌, ◌≡◌, refl, Bool, true, not, ◌&&◌, T, eqb, leb, ltb, get_or}
use Rattle.std.proofs.Common.{sym, ◌∙◌, ap, subst, add-mul, mul_assoc, mul_comm, mul_left_comm, mul_right_comm, one-mul, mul-pos, mul-le-mul, mul-lt-mul_of_pos_right, lt_of_mul-lt-mul_right, lt_of_le_of_lt, suc-mul, zero-mul, mul-one, mul-suc, mul-le-mul_left, mul-le-mul_right, le_of_mul-le-mul_right, le_trans, mod-eq_of_lt, arith, lt-ltb, ne_eqb, leb→le, eqb→eq, pow_pos, pow-add}
use Rattle.std.proofs.Math.Nat.{one-le-pow, pow-le-pow_right}
use Rattle.std.proofs.Math.Decide.{dec_lt}
use Rattle.std.specs.Float.Ieee.Fits.{and_l, and_r}
use Rattle.std.specs.Int.Count.{count_leading_zeros}
use Rattle.std.proofs.lemmas.Nat.{leading_le}
use Rattle.nearest.specs.PowerLaws.{ten_pos, tens}
use Rattle.wide_reals.specs.LongArithmetic.{moved_up_bounds}
use Rattle.f64_rounding.specs.CutNumbers.{CutNumber, WithinTwoUnits}
use Rattle.wide_reals.specs.Reach.{reach, far}
use Rattle.wide_reals.specs.declared.TheConstants.{RECIPROCALS}

-- something is left of r just where it is left of r times a power of two
pub left_of : (r k : ℕ) → not (eqb r 0) ≡ ltb 0 (r * 2 ^ k)
left_of zero k = sym (ap (λ (x : ℕ). ltb 0 x) (zero-mul (2 ^ k)))
left_of (suc r) k = let n : suc r ≡ 0 → ⊥ = λ e. omega arith in ap not (ne_eqb (suc r) 0 n) ∙ sym (lt-ltb 0 (suc r * 2 ^ k) (mul-pos (omega arith) (pow_pos k)))

module _ (m k a b : ℕ) where
  -- m moved up by a, times 5 ^ k moved up by b, is m * 10 ^ k cut below 64 + k digits
  pub raised_cut : (high low : ℕ) → high * 2 ^ 64 + low ≡ m * 2 ^ a * (5 ^ k * 2 ^ b) → low < 2 ^ 64 → a < 64 → b < 64 → CutNumber (m * 10 ^ k) 1 high (not (eqb low 0)) (1138 + k - a - b)
  raised_cut high low e l h g = record {
    up = a + b;
    unit = 64 + k;
    rest = low * 2 ^ k;
    scale = omega arith;
    place = omega arith;
    divisor = omega arith;
    whole =
        ap (λ (x : ℕ). high * x + low * 2 ^ k) (one-mul (2 ^ (64 + k)) ∙ pow-add 2 64 k)
        ∙ ap (λ (x : ℕ). x + low * 2 ^ k) (sym (mul_assoc high (2 ^ 64) (2 ^ k)))
        ∙ sym (add-mul (high * 2 ^ 64) low (2 ^ k))
        ∙ ap (λ (x : ℕ). x * 2 ^ k) e
        ∙ regroup m (2 ^ a) (5 ^ k) (2 ^ b) (2 ^ k)
        ∙ ap (λ (x : ℕ). m * x * (2 ^ a * 2 ^ b)) (sym (tens k))
        ∙ ap (λ (x : ℕ). m * 10 ^ k * x) (sym (pow-add 2 a b));
    below = subst (λ (x : ℕ). low * 2 ^ k < x) (sym (one-mul (2 ^ (64 + k)) ∙ pow-add 2 64 k)) (mul-lt-mul_of_pos_right l (pow_pos k));
    left = left_of low k;
  }
    where
      regroup : (m A F B K : ℕ) → m * A * (F * B) * K ≡ m * (F * K) * (A * B)
      regroup m A F B K = simp (mul_assoc, mul_comm, mul_left_comm) refl

  -- m moved up by a and by 54, divided by 5 ^ k moved up by b, is m / 10 ^ k cut below b digits
  pub lowered_cut : (digits rest : ℕ) → digits * (5 ^ k * 2 ^ b) + rest ≡ m * 2 ^ a * 2 ^ 54 → rest < 5 ^ k * 2 ^ b → k ≤ reach → a < 64 → b < 64 → CutNumber m (10 ^ k) digits (not (eqb rest 0)) (1020 + b - a - k)
  lowered_cut digits rest e l f h g =
      let d : 10 ^ k * 2 ^ b ≡ 5 ^ k * 2 ^ b * 2 ^ k = ap (λ (x : ℕ). x * 2 ^ b) (tens k) ∙ mul_right_comm (5 ^ k) (2 ^ k) (2 ^ b) in record {
        up = a + 54 + k;
        unit = b;
        rest = rest * 2 ^ k;
        scale = omega arith;
        place = omega arith;
        divisor = ten_pos k;
        whole =
            ap (λ (x : ℕ). digits * x + rest * 2 ^ k) d
            ∙ ap (λ (x : ℕ). x + rest * 2 ^ k) (sym (mul_assoc digits (5 ^ k * 2 ^ b) (2 ^ k)))
            ∙ sym (add-mul (digits * (5 ^ k * 2 ^ b)) rest (2 ^ k))
            ∙ ap (λ (x : ℕ). x * 2 ^ k) e
            ∙ ap (λ (x : ℕ). x * 2 ^ k) (mul_assoc m (2 ^ a) (2 ^ 54) ∙ ap (λ (x : ℕ). m * x) (sym (pow-add 2 a 54)))
            ∙ mul_assoc m (2 ^ (a + 54)) (2 ^ k)
            ∙ ap (λ (x : ℕ). m * x) (sym (pow-add 2 (a + 54) k));
        below = subst (λ (x : ℕ). rest * 2 ^ k < x) (sym d) (mul-lt-mul_of_pos_right l (pow_pos k));
        left = left_of rest k;
      }

-- the product of a number of 64 digits and one of 63 has 55 binary digits or more above its lower 64
pub high_enough : (high low n f : ℕ) → high * 2 ^ 64 + low ≡ n * f → low < 2 ^ 64 → 2 ^ 63 ≤ n → 2 ^ 62 ≤ f → 2 ^ 54 ≤ high
high_enough high low n f e l h g =
    let a : 2 ^ 61 * 2 ^ 64 ≤ n * f = mul-le-mul h g in
    let b : high * 2 ^ 64 + low < suc high * 2 ^ 64 = subst (λ (x : ℕ). high * 2 ^ 64 + low < x) (sym (suc-mul high (2 ^ 64))) (more (high * 2 ^ 64)) in
    let c : 2 ^ 61 < suc high = lt_of_mul-lt-mul_right (2 ^ 64) (lt_of_le_of_lt a (subst (λ (x : ℕ). x < suc high * 2 ^ 64) e b)) in
    omega arith
  where
    more : (x : ℕ) → x + low < x + 2 ^ 64
    more x = omega arith

-- ---- the table of powers of five
-- 5 ^ k has 63 binary digits at most
pub five_lt : (k : ℕ) → k ≤ reach → 5 ^ k < 2 ^ 63
five_lt k h = lt_of_le_of_lt (pow-le-pow_right (omega arith) h) (omega arith)

-- ---- the table of reciprocals
-- by how many digits 5 ^ k is moved up so that it has 63 of them: as many as stand free above its own
abbrev pub five_lift : ℕ → ℕ
five_lift k = count_leading_zeros 63 (5 ^ k)

-- 5 ^ k is moved up by 63 digits at most
pub five_lift_le : (k : ℕ) → five_lift k ≤ 63
five_lift_le k = leading_le 63 (5 ^ k)

-- 5 ^ k, moved up as far as 63 digits allow
abbrev pub lifted_five : ℕ → ℕ
lifted_five k = 5 ^ k * 2 ^ five_lift k

-- 5 ^ k, moved up, has 63 digits
pub lifted_bounds : (k : ℕ) → k ≤ reach → (2 ^ 62 ≤ lifted_five k) × (lifted_five k < 2 ^ 63)
lifted_bounds k h = moved_up_bounds 62 (5 ^ k) (one-le-pow k 5 (omega arith)) (five_lt k h)

-- what the code's `lifted_five` computes: 5 ^ k moved up, none of it lost, with 63 digits
pub lifted_is : (k p b : ℕ) → k ≤ reach → p ≡ 5 ^ k → b ≡ five_lift k → (p * 2 ^ b % 2 ^ 64 ≡ 5 ^ k * 2 ^ b) × (2 ^ 62 ≤ p * 2 ^ b % 2 ^ 64) × (p * 2 ^ b % 2 ^ 64 < 2 ^ 63) × (b < 64)
lifted_is k p b h e f =
    let r = lifted_bounds k h in
    let l = five_lift_le k in
    let same : p * 2 ^ b ≡ lifted_five k = ap (λ (x : ℕ). x * 2 ^ b) e ∙ ap (λ (x : ℕ). 5 ^ k * 2 ^ x) f in
    let m : p * 2 ^ b % 2 ^ 64 ≡ p * 2 ^ b = mod-eq_of_lt (subst (λ (x : ℕ). x < 2 ^ 64) (sym same) (wider (lifted_five k) r.1)) in (
      m ∙ ap (λ (x : ℕ). x * 2 ^ b) e,
      subst (λ (x : ℕ). 2 ^ 62 ≤ x) (sym (m ∙ same)) r.0,
      subst (λ (x : ℕ). x < 2 ^ 63) (sym (m ∙ same)) r.1,
      omega arith,
    )
  where
    wider : (x : ℕ) → x < 2 ^ 63 → x < 2 ^ 64
    wider x h = omega arith

-- how often 5 ^ k can be halved, as the code computes it; its reciprocals, which go farther than `reach`, are right with just this number
abbrev pub halvings_of : ℕ → ℕ
halvings_of k = k * 4755 / 2048

-- r is 2 ^ (64 + e) divided by 5 ^ k, or below that by one at most, e being `halvings_of k`; and it has 63 binary digits or more
pub record Reciprocal (k r : ℕ) : Type 0 where
  pub long : 2 ^ 62 ≤ r
  pub not_above : r * 5 ^ k ≤ 2 ^ (64 + halvings_of k)
  pub not_below : 2 ^ (64 + halvings_of k) ≤ suc r * 5 ^ k

-- a test passes at each number below n
abbrev each : (ℕ → Bool) → ℕ → Bool
each f zero = true
each f (suc n) = f n && each f n

-- a test that passes at each number below n passes at k
each_at : (f : ℕ → Bool) (n k : ℕ) → T (each f n) → k < n → T (f k)
each_at f zero k t h = absurd (omega arith)
each_at f (suc n) k t h = go (λ l. each_at f n k (and_r (f n) (each f n) t) l) (dec_lt k n)
  where
    go : (k < n → T (f k)) → Dec (k < n) → T (f k)
    go below (yes l) = below l
    go below (no g) = let e : n ≡ k = omega arith in subst (λ (j : ℕ). T (f j)) e (and_l (f n) (each f n) t)

-- the code's sum for how far 5 ^ k is moved up
abbrev sum_of : ℕ → ℕ
sum_of k = 62 - halvings_of k

-- the code's sum for how far 5 ^ k is moved up is right at each k in reach: one test that antt computes
all_places : T (each (λ (k : ℕ). eqb (sum_of k) (five_lift k)) (suc reach))
unfolding count_leading_zeros
all_places = tt

-- the code's sum for how far 5 ^ k is moved up is right at any k in reach
pub five_lift_is : (k : ℕ) → k ≤ reach → sum_of k ≡ five_lift k
five_lift_is k h = eqb→eq (sum_of k) (five_lift k) (each_at (λ (j : ℕ). eqb (sum_of j) (five_lift j)) (suc reach) k all_places (omega arith))

-- a reciprocal as a test of d, which is 5 ^ k, of n, which is 2 ^ (64 + e), and of r
abbrev is_reciprocal : ℕ → ℕ → ℕ → Bool
is_reciprocal d n r = leb (2 ^ 62) r && (leb (r * d) n && leb n (suc r * d))

-- the entry of the table of reciprocals that the code's match has found is one where the test passes
pub reciprocal_found : (k j r : ℕ) → k ≡ j → T (is_reciprocal (5 ^ j) (2 ^ (64 + halvings_of j)) r) → Reciprocal k r
reciprocal_found k j r e t =
    let d = 5 ^ j in
    let n = 2 ^ (64 + halvings_of j) in
    let a = leb (2 ^ 62) r in
    let b = leb (r * d) n in
    let c = leb n (suc r * d) in
    subst (λ (i : ℕ). Reciprocal i r) (sym e)
    record {
      long = leb→le (2 ^ 62) r (and_l a (b && c) t);
      not_above = leb→le (r * d) n (and_l b c (and_r a (b && c) t));
      not_below = leb→le n (suc r * d) (and_r b c (and_r a (b && c) t));
    }

-- the entry of the table of reciprocals for k, as a test
abbrev table_right : ℕ → Bool
table_right k = is_reciprocal (5 ^ k) (2 ^ (64 + halvings_of k)) (get_or RECIPROCALS k 0)

-- each entry of the table of reciprocals is right: one test that antt computes
all_reciprocals : T (each table_right (suc far))
all_reciprocals = tt

-- the entry of the table of reciprocals for k is a reciprocal of 5 ^ k
pub reciprocal_at : (k : ℕ) → k ≤ far → Reciprocal k (get_or RECIPROCALS k 0)
reciprocal_at k h = reciprocal_found k k (get_or RECIPROCALS k 0) refl (each_at table_right (suc far) k all_reciprocals (omega arith))

-- r times d is 2 ^ (64 + e), or below that by less than d; high is the upper half of n times r
module _ (n r d e high low : ℕ) (product : high * 2 ^ 64 + low ≡ n * r) (above : r * d ≤ 2 ^ (64 + e)) (below : 2 ^ (64 + e) ≤ suc r * d) where
  -- n moved up by 64 + e digits is n moved up by e and by 64
  moved : n * 2 ^ (64 + e) ≡ n * 2 ^ e * 2 ^ 64
  moved = ap (λ (x : ℕ). n * x) (pow-add 2 64 e ∙ mul_comm (2 ^ 64) (2 ^ e)) ∙ sym (mul_assoc n (2 ^ e) (2 ^ 64))

  -- the upper half of n times a reciprocal, times d, is at most n * 2 ^ e
  product_le : high * d ≤ n * 2 ^ e
  product_le =
      let a : high * 2 ^ 64 ≤ n * r = part (high * 2 ^ 64) (n * r) product in
      let b : high * 2 ^ 64 * d ≤ n * 2 ^ (64 + e) = le_trans (mul-le-mul_right d a) (subst (λ (x : ℕ). x ≤ n * 2 ^ (64 + e)) (sym (mul_assoc n r d)) (mul-le-mul_left n above)) in
      le_of_mul-le-mul_right {k = 2 ^ 64} (subst (λ (x : ℕ). x ≤ n * 2 ^ e * 2 ^ 64) (mul_right_comm high (2 ^ 64) d) (subst (λ (x : ℕ). high * 2 ^ 64 * d ≤ x) moved b)) (pow_pos 64)
    where
      part : (a b : ℕ) → a + low ≡ b → a ≤ b
      part a b f = omega arith

  -- the upper half of n times a reciprocal is less than two below n * 2 ^ e by d
  product_lt : low < 2 ^ 64 → n < 2 ^ 64 → 0 < d → n * 2 ^ e < (high + 2) * d
  product_lt l h p =
      let a : n * r + n < (high + 2) * 2 ^ 64 = subst (λ (x : ℕ). n * r + n < x) (sym (add-mul high 2 (2 ^ 64))) (more (high * 2 ^ 64) (n * r) product) in
      let b : n * suc r ≡ n * r + n = mul-suc n r in
      let c : n * 2 ^ (64 + e) ≤ n * suc r * d = subst (λ (x : ℕ). n * 2 ^ (64 + e) ≤ x) (sym (mul_assoc n (suc r) d)) (mul-le-mul_left n below) in
      let f : n * 2 ^ (64 + e) < (high + 2) * 2 ^ 64 * d = lt_of_le_of_lt c (mul-lt-mul_of_pos_right (subst (λ (x : ℕ). x < (high + 2) * 2 ^ 64) (sym b) a) p) in
      lt_of_mul-lt-mul_right (2 ^ 64) (subst (λ (x : ℕ). n * 2 ^ e * 2 ^ 64 < x) (mul_right_comm (high + 2) (2 ^ 64) d) (subst (λ (x : ℕ). x < (high + 2) * 2 ^ 64 * d) moved f))
    where
      more : (a b : ℕ) → a + low ≡ b → b + n < a + 2 * 2 ^ 64
      more a b g = omega arith

-- the number of halvings is 148 at most as far as the table of reciprocals goes
pub halvings_le : (k : ℕ) → k ≤ far → halvings_of k ≤ 148
halvings_le k h = omega arith

-- m moved up by a, times the reciprocal of 5 ^ k, is m / 10 ^ k or less than two below it, in units
pub lowered_near : (m k a r high low : ℕ) → high * 2 ^ 64 + low ≡ m * 2 ^ a * r → low < 2 ^ 64 → m * 2 ^ a < 2 ^ 64 → Reciprocal k r → k ≤ far → a < 64 → WithinTwoUnits m (10 ^ k) high (1074 - halvings_of k - a - k)
lowered_near m k a r high low product l h t f g =
    let e = halvings_of k in
    let small = halvings_le k f in
    let d = 5 ^ k in
    let u : 10 ^ k * 1 ≡ d * 2 ^ k = mul-one (10 ^ k) ∙ tens k in
    let v : m * 2 ^ (a + e + k) ≡ m * 2 ^ a * 2 ^ e * 2 ^ k =
    ap (λ (x : ℕ). m * x) (pow-add 2 (a + e) k ∙ ap (λ (x : ℕ). x * 2 ^ k) (pow-add 2 a e)) ∙ sym (mul_assoc m (2 ^ a * 2 ^ e) (2 ^ k)) ∙ ap (λ (x : ℕ). x * 2 ^ k) (sym (mul_assoc m (2 ^ a) (2 ^ e))) in
    let p : 0 < d = one-le-pow k 5 (omega arith) in record {
      up = a + e + k;
      unit = 0;
      scale = omega arith;
      place = omega arith;
      divisor = ten_pos k;
      from = subst (λ (x : ℕ). high * x ≤ m * 2 ^ (a + e + k)) (sym u) (subst (λ (x : ℕ). high * (d * 2 ^ k) ≤ x) (sym v) (subst (λ (x : ℕ). x ≤ m * 2 ^ a * 2 ^ e * 2 ^ k) (mul_assoc high d (2 ^ k)) (mul-le-mul_right (2 ^ k) (product_le (m * 2 ^ a) r d e high low product t.not_above t.not_below))));
      to = subst (λ (x : ℕ). m * 2 ^ (a + e + k) < (high + 2) * x) (sym u) (subst (λ (x : ℕ). x < (high + 2) * (d * 2 ^ k)) (sym v) (subst (λ (x : ℕ). m * 2 ^ a * 2 ^ e * 2 ^ k < x) (mul_assoc (high + 2) d (2 ^ k)) (mul-lt-mul_of_pos_right (product_lt (m * 2 ^ a) r d e high low product t.not_above t.not_below l h p) (pow_pos k))));
    }
