-- Long multiplication and long division in whole numbers, and moving a number up to a known length. Laws for the proofs; no promise
-- names them. Assumes nothing.
use Rattle.std.specs.Prelude.{ℕ, suc, ◌+◌, ◌-◌, ◌*◌, ◌/◌, ◌%◌, ◌^◌, ◌≤◌, ◌<◌, ◌≡◌, refl}
use Rattle.std.proofs.Common.{sym, ◌∙◌, ap, subst, add_assoc, add_comm, mul_assoc, mul_comm, mul_left_comm, mul_right_comm, mul-add, add-mul, mul-le-mul, mul-le-mul_right, mod-lt, mod-eq_of_lt, div-add-mod', div-lt_iff_lt-mul, lt_of_le_of_lt, one-mul, lt_of_mul-lt-mul_right, mul-lt-mul_of_pos_right, arith, pow-add, shl_lt}
use Rattle.std.proofs.Math.Nat.{add_left_comm}
use Rattle.std.specs.Int.Count.{count_leading_zeros}
use Rattle.std.proofs.lemmas.Nat.{leading_top}

-- ---- moving a number up
-- a number whose highest digit is digit j, moved up by the s that makes w + 1 with j + 1, has w + 1 digits
top : (w n j s : ℕ) → 2 ^ j ≤ n → n < 2 ^ suc j → s + suc j ≡ suc w → (2 ^ w ≤ n * 2 ^ s) × (n * 2 ^ s < 2 ^ suc w)
top w n j s l h e =
    let a : j + s ≡ w = omega arith in
    let b : suc j + s ≡ suc w = omega arith in (
      subst (λ (x : ℕ). x ≤ n * 2 ^ s) (sym (pow-add 2 j s) ∙ ap (λ (x : ℕ). 2 ^ x) a) (mul-le-mul_right (2 ^ s) l),
      subst (λ (x : ℕ). n * 2 ^ s < 2 ^ x) b (shl_lt {a = n} (suc j) s h),
    )

-- a number moved up by as many places as stand free above it has w + 1 digits
pub moved_up_bounds : (w n : ℕ) → 0 < n → n < 2 ^ suc w → (2 ^ w ≤ n * 2 ^ count_leading_zeros (suc w) n) × (n * 2 ^ count_leading_zeros (suc w) n < 2 ^ suc w)
moved_up_bounds w n p h = let t = leading_top (suc w) n p h in top w n t.0 (count_leading_zeros (suc w) n) t.2 t.3 t.1

-- what the code's `lift` computes: the number moved up so that it has 64 digits, none of it lost
pub lifts : (n : ℕ) → 0 < n → n < 2 ^ 64
    → (n * 2 ^ count_leading_zeros 64 n % 2 ^ 64 ≡ n * 2 ^ count_leading_zeros 64 n) × (2 ^ 63 ≤ n * 2 ^ count_leading_zeros 64 n % 2 ^ 64) × (n * 2 ^ count_leading_zeros 64 n % 2 ^ 64 < 2 ^ 64) × (count_leading_zeros 64 n < 64)
lifts n p h =
    let t = leading_top 64 n p h in
    let z : count_leading_zeros 64 n + suc t.0 ≡ 64 = t.1 in
    let r = moved_up_bounds 63 n p h in
    let m : n * 2 ^ count_leading_zeros 64 n % 2 ^ 64 ≡ n * 2 ^ count_leading_zeros 64 n = mod-eq_of_lt r.1 in
    (m, subst (λ (x : ℕ). 2 ^ 63 ≤ x) (sym m) r.0, subst (λ (x : ℕ). x < 2 ^ 64) (sym m) r.1, omega arith)

-- ---- multiplication, by columns of 32 digits
-- the product of two factors by their halves
halves : (P a₁ a₀ b₁ b₀ : ℕ) → (a₁ * P + a₀) * (b₁ * P + b₀) ≡ a₁ * b₁ * (P * P) + a₁ * b₀ * P + a₀ * b₁ * P + a₀ * b₀
halves P a₁ a₀ b₁ b₀ = simp (mul-add, add-mul, mul_assoc, mul_comm, mul_left_comm, add_assoc, add_comm, add_left_comm) refl

-- in a product by columns, the first column's carry goes to the second
carry : (P x y z q r : ℕ) → x * (P * P) + y * P + z * P + (q * P + r) ≡ x * (P * P) + (y + q) * P + z * P + r
carry P x y z q r = simp (mul-add, add-mul, mul_assoc, mul_comm, mul_left_comm, add_assoc, add_comm, add_left_comm) refl

-- in a product by columns, the second column's carry goes to the upper half
carry_up : (P x z q r t : ℕ) → x * (P * P) + (q * P + r) * P + z * P + t ≡ (x + q) * (P * P) + (r + z) * P + t
carry_up P x z q r t = simp (mul-add, add-mul, mul_assoc, mul_comm, mul_left_comm, add_assoc, add_comm, add_left_comm) refl

-- in a product by columns, the third column's carry goes to the upper half
carry_last : (P x q r t : ℕ) → x * (P * P) + (q * P + r) * P + t ≡ (x + q) * (P * P) + (r * P + t)
carry_last P x q r t = simp (mul-add, add-mul, mul_assoc, mul_comm, mul_left_comm, add_assoc, add_comm, add_left_comm) refl

-- the product by its columns, each with its carry
columns : (P a₁ a₀ b₁ b₀ q₁ r₁ q₂ r₂ q₃ r₃ : ℕ) → a₀ * b₀ ≡ q₁ * P + r₁ → a₁ * b₀ + q₁ ≡ q₂ * P + r₂ → r₂ + a₀ * b₁ ≡ q₃ * P + r₃ → (a₁ * P + a₀) * (b₁ * P + b₀) ≡ (a₁ * b₁ + q₂ + q₃) * (P * P) + (r₃ * P + r₁)
columns P a₁ a₀ b₁ b₀ q₁ r₁ q₂ r₂ q₃ r₃ e f g =
    halves P a₁ a₀ b₁ b₀
    ∙ ap (λ (x : ℕ). a₁ * b₁ * (P * P) + a₁ * b₀ * P + a₀ * b₁ * P + x) e
    ∙ carry P (a₁ * b₁) (a₁ * b₀) (a₀ * b₁) q₁ r₁
    ∙ ap (λ (x : ℕ). a₁ * b₁ * (P * P) + x * P + a₀ * b₁ * P + r₁) f
    ∙ carry_up P (a₁ * b₁) (a₀ * b₁) q₂ r₂ r₁
    ∙ ap (λ (x : ℕ). (a₁ * b₁ + q₂) * (P * P) + x * P + r₁) g
    ∙ carry_last P (a₁ * b₁ + q₂) q₃ r₃ r₁

-- the first column's sum of a product, as the code has it
abbrev pub first_column : ℕ → ℕ → ℕ
first_column a b = a % 4294967296 * (b % 4294967296)

-- the second column's sum of a product, with the first one's carry, as the code has it
abbrev pub second_column : ℕ → ℕ → ℕ
second_column a b = a / 4294967296 * (b % 4294967296) + first_column a b / 4294967296

-- the third column's sum of a product, as the code has it
abbrev pub third : ℕ → ℕ → ℕ
third a b = second_column a b % 4294967296 + a % 4294967296 * (b / 4294967296)

-- the upper and the lower half that the code makes of its columns are the product's
pub multiplied : (a b : ℕ) → (a / 4294967296 * (b / 4294967296) + second_column a b / 4294967296 + third a b / 4294967296) * 18446744073709551616 + (third a b % 4294967296 * 4294967296 + first_column a b % 4294967296) ≡ a * b
multiplied a b =
    let P : ℕ = 4294967296 in
    sym (columns P (a / P) (a % P) (b / P) (b % P) (first_column a b / P) (first_column a b % P) (second_column a b / P) (second_column a b % P) (third a b / P) (third a b % P) (sym (div-add-mod' (first_column a b) P)) (sym (div-add-mod' (second_column a b) P)) (sym (div-add-mod' (third a b) P)))
    ∙ ap (λ (x : ℕ). x * (b / P * P + b % P)) (div-add-mod' a P)
    ∙ ap (λ (x : ℕ). a * x) (div-add-mod' b P)

-- a product of two halves of 32 digits leaves room for a carry from each side
pub column : (x y : ℕ) → x ≤ 4294967295 → y ≤ 4294967295 → x * y ≤ 18446744065119617025
column x y h k = mul-le-mul h k

-- ---- division, 27 binary digits at a time: two such digits are the 54 that are kept below the first
module _ (r d : ℕ) where
  -- the upper part of the divisor, made one larger
  abbrev pub divisor_top : ℕ
  divisor_top = d / 134217728 + 1

  -- what is left of r * 2 ^ 27 after r / upper times the divisor
  abbrev pub left_of_division : ℕ
  left_of_division = r % divisor_top * 134217728 + r / divisor_top * (134217728 - d % 134217728)

  -- r * 2 ^ 27 is r / upper times the divisor and what is left after that
  pub digit_splits : r / divisor_top * d + left_of_division ≡ r * 134217728
  digit_splits =
      let q = r / divisor_top in
      let s = r % divisor_top in
      let e : q * divisor_top + s ≡ r = div-add-mod' r divisor_top in
      let f : q * d + q * (134217728 - d % 134217728) ≡ q * (divisor_top * 134217728) = sym (mul-add q d (134217728 - d % 134217728)) ∙ ap (λ (x : ℕ). q * x) (omega arith) in
      put (q * d) (q * (134217728 - d % 134217728)) (q * (divisor_top * 134217728)) (s * 134217728) (r * 134217728) f
      (ap (λ (x : ℕ). x + s * 134217728) (sym (mul_assoc q divisor_top 134217728)) ∙ sym (add-mul (q * divisor_top) s 134217728) ∙ ap (λ (x : ℕ). x * 134217728) e)
    where
      put : (a b c s t : ℕ) → a + b ≡ c → c + s ≡ t → a + (s + b) ≡ t
      put a b c s t e f = omega arith

  module _ (least : 2 ^ 62 ≤ d) (most : d < 2 ^ 63) (less : r < d) where
    -- a digit of the quotient has 27 binary digits at most
    pub quotient_digit_lt : r / divisor_top < 134217728
    quotient_digit_lt =
        let p : 0 < divisor_top = omega arith in
        let l : r < 134217728 * divisor_top = omega arith in
        (div-lt_iff_lt-mul {k = divisor_top} {x = r} {y = 134217728} p).1 l

    -- what the error of a quotient's digit may add to the rest is at most 2 ^ 54
    pub error_le : r / divisor_top * (134217728 - d % 134217728) ≤ 18014398509481984
    error_le = let l : r / divisor_top < 134217728 = quotient_digit_lt in let a : r / divisor_top ≤ 134217728 = omega arith in let b : 134217728 - d % 134217728 ≤ 134217728 = omega arith in mul-le-mul a b

    -- what r leaves by the upper part of the divisor is at most d / 2 ^ 27
    pub mod_le : r % divisor_top ≤ d / 134217728
    mod_le = let l : r % divisor_top < divisor_top = mod-lt r (omega arith) in omega arith

    -- after a digit of the quotient less than two divisors are left: it is right or one too small
    pub after_lt : left_of_division < d * 2
    after_lt = let a = error_le in let b = mod_le in omega arith

    -- a digit of the quotient that leaves less than the divisor is right
    pub digit_right : left_of_division < d → (r / divisor_top * d + left_of_division ≡ r * 134217728) × (left_of_division < d)
    digit_right h = (digit_splits, h)

    -- a digit of the quotient that leaves the divisor or more is one too small
    pub digit_more : d ≤ left_of_division → ((r / divisor_top + 1) * d + (left_of_division - d) ≡ r * 134217728) × (left_of_division - d < d)
    digit_more h =
        let a = after_lt in (
          ap (λ (x : ℕ). x + (left_of_division - d)) (add-mul (r / divisor_top) 1 d) ∙ back (r / divisor_top * d) (1 * d) left_of_division (one-mul d) h ∙ digit_splits,
          omega arith,
        )
      where
        back : (a b x : ℕ) → b ≡ d → d ≤ x → a + b + (x - d) ≡ a + x
        back a b x e h = omega arith

-- a quotient's digit of a rest below the divisor is below 2 ^ 27
pub digit_short : (q s r d : ℕ) → 0 < d → q * d + s ≡ r * 134217728 → r < d → q < 134217728
digit_short q s r d p e l =
    lt_of_mul-lt-mul_right d (lt_of_le_of_lt (le_of_eq_add (q * d) s (r * 134217728) e) (subst (λ (x : ℕ). r * 134217728 < x) (mul_comm d 134217728) (mul-lt-mul_of_pos_right l (omega arith))))
  where
    le_of_eq_add : (a b c : ℕ) → a + b ≡ c → a ≤ c
    le_of_eq_add a b c e = omega arith

-- three digits of a quotient one after the other are the quotient with 54 binary digits below the point
pub quotient_splits : (n d p a r b s : ℕ) → p * d + n ≡ r → a * d + b ≡ n * 134217728 → s ≡ b * 134217728 → (e f : ℕ) → e * d + f ≡ s → (p * 18014398509481984 + a * 134217728 + e) * d + f ≡ r * 18014398509481984
quotient_splits n d p a r b s h k g e f l =
    ap (λ (x : ℕ). x + f) (add-mul (p * 18014398509481984 + a * 134217728) e d ∙ ap (λ (x : ℕ). x + e * d) (add-mul (p * 18014398509481984) (a * 134217728) d ∙ ap (λ (x : ℕ). x + a * 134217728 * d) (mul_right_comm p 18014398509481984 d) ∙ ap (λ (x : ℕ). p * d * 18014398509481984 + x) (mul_right_comm a 134217728 d)))
    ∙ put (p * d) (a * d) (e * d) h k g l
  where
    put : (x y z : ℕ) → x + n ≡ r → y + b ≡ n * 134217728 → s ≡ b * 134217728 → z + f ≡ s → x * 18014398509481984 + y * 134217728 + z + f ≡ r * 18014398509481984
    put x y z h k g l = omega arith
