-- Laws of the number that a text's digits make: digits before it and after it, how large it is, and that it tells the digits before it.
-- Assumes nothing.
use Rattle.std.specs.Prelude.{ℕ, suc, ◌+◌, ◌*◌, ◌-◌, ◌^◌, ◌≤◌, ◌<◌, ◌≡◌, refl, ◌⊎◌, Bool, true, false, List, [], ◌∷◌, ◌++◌, ltb, length, drop}
use Rattle.std.proofs.Common.{sym, ◌∙◌, ap, subst, inl, inr, mul-le-mul_right, pow-suc, arith, lt-ltb, le-ltb, length-drop}
use Rattle.std.proofs.Math.Nat.{add_right_cancel, eq_of_mul-eq-mul_right, one-le-pow}
use Rattle.std.proofs.Math.Seq.{drop-length}
use Rattle.common.specs.Pick.{pick}
use Rattle.common.specs.Tests.{bounds}
use Rattle.record.specs.Byte.{digit}
use Rattle.long_reals.specs.Digits.{digits_in, LeadsNonzero, leads, FirstAt}
use Rattle.long_reals.specs.Number.{number_in}

-- a digit is worth nine at most
pub digit_le : (c : ℕ) → digit c ≡ true → c - 48 ≤ 9
digit_le c e = let b = bounds 48 c 57 e in omega arith

-- a number before a text's digits counts 10 ^ n times, where n is how many digits there are
pub number_from_lem : (n : ℕ) (xs : List ℕ) → number_in n xs ≡ n * 10 ^ digits_in xs + number_in 0 xs
unfolding number_in digits_in
number_from_lem n [] = omega arith
number_from_lem n (c ∷ r) = go (digit c) (λ (m : ℕ). number_from_lem m r)
  where
    go : (b : Bool) → ((m : ℕ) → number_in m r ≡ m * 10 ^ digits_in r + number_in 0 r) → number_in (pick b (n * 10 + (c - 48)) n) r ≡ n * 10 ^ pick b (suc (digits_in r)) (digits_in r) + number_in (pick b (0 * 10 + (c - 48)) 0) r
    go true h = h (n * 10 + (c - 48)) ∙ put (10 ^ digits_in r) (10 ^ suc (digits_in r)) (c - 48) (pow-suc 10 (digits_in r)) (number_in 0 r) (number_in (0 * 10 + (c - 48)) r) (h (0 * 10 + (c - 48)))
      where
        put : (p q d : ℕ) → q ≡ p * 10 → (y z : ℕ) → z ≡ (0 * 10 + d) * p + y → (n * 10 + d) * p + y ≡ n * q + z
        put p q d e y z f = rw (e, f) (omega arith)
    go false h = h n

-- a digit first in a text moves the number before it up by one
pub number_next : (n c : ℕ) (r : List ℕ) → digit c ≡ true → number_in n (c ∷ r) ≡ number_in (n * 10 + (c - 48)) r
unfolding number_in
number_next n c r e = ap (λ (b : Bool). number_in (pick b (n * 10 + (c - 48)) n) r) e

-- the number of a text that begins with a digit: that digit at its place, and those after it
pub number_first : (c : ℕ) (r : List ℕ) → digit c ≡ true → number_in 0 (c ∷ r) ≡ (c - 48) * 10 ^ digits_in r + number_in 0 r
number_first c r e = let z : 0 * 10 + (c - 48) ≡ c - 48 = omega arith in number_next 0 c r e ∙ ap (λ (n : ℕ). number_in n r) z ∙ number_from_lem (c - 48) r

-- a text that begins with a digit has one digit more than what follows
pub digits_first : (c : ℕ) (r : List ℕ) → digit c ≡ true → digits_in (c ∷ r) ≡ suc (digits_in r)
unfolding digits_in
digits_first c r e = ap (λ (b : Bool). pick b (suc (digits_in r)) (digits_in r)) e

-- at the text's end there are no digits
pub digits_end : (xs : List ℕ) (i : ℕ) → i ≡ length xs → digits_in (drop i xs) ≡ 0
unfolding digits_in
digits_end xs i e = ap (λ (n : ℕ). digits_in (drop n xs)) e ∙ ap digits_in (drop-length xs)

-- a byte that is no digit is passed over
pub number_past : (n c : ℕ) (r : List ℕ) → digit c ≡ false → number_in n (c ∷ r) ≡ number_in n r
unfolding number_in
number_past n c r e = ap (λ (b : Bool). number_in (pick b (n * 10 + (c - 48)) n) r) e

-- a byte that is no digit is not counted
pub digits_past : (c : ℕ) (r : List ℕ) → digit c ≡ false → digits_in (c ∷ r) ≡ digits_in r
unfolding digits_in
digits_past c r e = ap (λ (b : Bool). pick b (suc (digits_in r)) (digits_in r)) e

-- n digits make a number below 10 ^ n
pub number_lt : (xs : List ℕ) → number_in 0 xs < 10 ^ digits_in xs
unfolding number_in digits_in
number_lt [] = omega arith
number_lt (c ∷ r) = go (digit c) refl (number_lt r)
  where
    go : (b : Bool) → digit c ≡ b → number_in 0 r < 10 ^ digits_in r → number_in (pick b (0 * 10 + (c - 48)) 0) r < 10 ^ pick b (suc (digits_in r)) (digits_in r)
    go true e h =
        let p = 10 ^ digits_in r in
        let d = number_from_lem (0 * 10 + (c - 48)) r in
        let l : (c - 48) * p ≤ 9 * p = mul-le-mul_right p (digit_le c e) in
        rw (d, pow-suc) (put p (number_in 0 r) (c - 48) l h)
      where
        put : (p y d : ℕ) → d * p ≤ 9 * p → y < p → (0 * 10 + d) * p + y < p * 10
        put p y d l h = omega arith
    go false e h = h

-- a text without digits leaves the number before it as it is
pub number_none : (n : ℕ) (xs : List ℕ) → digits_in xs ≡ 0 → number_in n xs ≡ n
number_none n xs e =
    let l : number_in 0 xs < 1 = subst (λ (k : ℕ). number_in 0 xs < 10 ^ k) e (number_lt xs) in
    number_from_lem n xs ∙ ap (λ (k : ℕ). n * 10 ^ k + number_in 0 xs) e ∙ put (number_in 0 xs) l
  where
    put : (y : ℕ) → y < 1 → n * 1 + y ≡ n
    put y l = omega arith

-- a text that leads with a digit other than `0` has one
pub leads_some : (xs : List ℕ) → LeadsNonzero xs → 0 < digits_in xs
leads_some xs (leads c r e l) = let d = digits_first c r e in omega arith

-- n digits of which the first is not `0` make a tenth of 10 ^ n or more
pub leads_le : (xs : List ℕ) → LeadsNonzero xs → 10 ^ digits_in xs ≤ 10 * number_in 0 xs
leads_le xs (leads c r e l) =
    let p = 10 ^ digits_in r in
    let h : 1 * p ≤ (c - 48) * p = mul-le-mul_right p (omega arith) in
    rw (digits_first c r e, number_first c r e, pow-suc) (put p (number_in 0 r) (c - 48) h)
  where
    put : (p y d : ℕ) → 1 * p ≤ d * p → p * 10 ≤ 10 * (d * p + y)
    put p y d h = omega arith

-- a text that leads with a digit other than `0` makes a number that is not 0
pub leads_pos : (xs : List ℕ) → LeadsNonzero xs → 0 < number_in 0 xs
leads_pos xs h = let l = leads_le xs h in let p : 1 ≤ 10 ^ digits_in xs = one-le-pow (digits_in xs) 10 (omega arith) in omega arith

-- the number of one text after another: the second's digits go on from the first's
pub number_append : (n : ℕ) (xs ys : List ℕ) → number_in n (xs ++ ys) ≡ number_in (number_in n xs) ys
unfolding number_in
number_append n [] ys = refl
number_append n (c ∷ r) ys = number_append (pick (digit c) (n * 10 + (c - 48)) n) r ys

-- one text after another has the digits of both
pub digits_append : (xs ys : List ℕ) → digits_in (xs ++ ys) ≡ digits_in xs + digits_in ys
unfolding digits_in
digits_append [] ys = omega arith
digits_append (c ∷ r) ys = go (digit c) (digits_append r ys)
  where
    go : (b : Bool) → digits_in (r ++ ys) ≡ digits_in r + digits_in ys → pick b (suc (digits_in (r ++ ys))) (digits_in (r ++ ys)) ≡ pick b (suc (digits_in r)) (digits_in r) + digits_in ys
    go true h = omega arith
    go false h = h

-- there are no more digits than bytes
pub digits_le : (xs : List ℕ) → digits_in xs ≤ length xs
unfolding digits_in
digits_le [] = omega arith
digits_le (c ∷ r) = go (digit c) (digits_le r)
  where
    go : (b : Bool) → digits_in r ≤ length r → pick b (suc (digits_in r)) (digits_in r) ≤ suc (length r)
    go true h = omega arith
    go false h = omega arith

-- two numbers before the same digits that make the same are the same
pub number_in_only : (a b : ℕ) (xs : List ℕ) → number_in a xs ≡ number_in b xs → a ≡ b
number_in_only a b xs e =
    eq_of_mul-eq-mul_right (10 ^ digits_in xs) (one-le-pow (digits_in xs) 10 (omega arith)) a b
    (add_right_cancel (number_in 0 xs) (sym (number_from_lem a xs) ∙ e ∙ number_from_lem b xs))

-- a digit other than `0` was found just where the number is not 0
pub first_told : (t : List ℕ) (from i : ℕ) → FirstAt t from i → ltb i (length t) ≡ ltb 0 (number_in 0 (drop from t))
unfolding number_in
first_told t from i f = go f.found
  where
    go : (i ≡ length t) ⊎ LeadsNonzero (drop i t) → ltb i (length t) ≡ ltb 0 (number_in 0 (drop from t))
    go (inl e) =
        let z : number_in 0 (drop from t) ≡ 0 = sym f.same ∙ ap (λ (k : ℕ). number_in 0 (drop k t)) e ∙ ap (number_in 0) (drop-length t) in
        le-ltb i (length t) (omega arith) ∙ sym (le-ltb 0 (number_in 0 (drop from t)) (omega arith))
    go (inr l) =
        let p : 0 < number_in 0 (drop from t) = subst (λ (n : ℕ). 0 < n) f.same (leads_pos (drop i t) l) in
        let d : 0 < digits_in (drop i t) = leads_some (drop i t) l in
        let e = digits_le (drop i t) in
        let g = length-drop i t in
        lt-ltb i (length t) (omega arith) ∙ sym (lt-ltb 0 (number_in 0 (drop from t)) p)

-- digits from a place on that make the text's number make one below 10 ^ n, n being how many they are
pub made_lt : (t : List ℕ) (i n : ℕ) → number_in 0 (drop i t) ≡ number_in 0 t → n ≡ digits_in (drop i t) → number_in 0 t < 10 ^ n
made_lt t i n s e = subst (λ (k : ℕ). number_in 0 t < 10 ^ k) (sym e) (subst (λ (x : ℕ). x < 10 ^ digits_in (drop i t)) s (number_lt (drop i t)))

-- digits from a place on that make the text's number, which is 10 ^ (n - 1) or more, do not make 0
pub made_pos : (t : List ℕ) (i n : ℕ) → number_in 0 (drop i t) ≡ number_in 0 t → 10 ^ n ≤ 10 * number_in 0 t → 0 < number_in 0 (drop i t)
made_pos t i n s l = let p : 1 ≤ 10 ^ n = one-le-pow n 10 (omega arith) in omega arith

-- ---- the digits from the first on that is not `0`
module _ (t : List ℕ) (i n : ℕ) (f : FirstAt t 0 i) (e : n ≡ digits_in (drop i t)) where
  -- the n digits from the first that is not `0` on make the text's number, which is below 10 ^ n
  pub read_lt : number_in 0 t < 10 ^ n
  read_lt = made_lt t i n f.same e

  -- where there is a digit from place i on, the text leads with one that is not `0` there
  first_leading : 0 < n → LeadsNonzero (drop i t)
  first_leading h = go f.found
    where
      go : (i ≡ length t) ⊎ LeadsNonzero (drop i t) → LeadsNonzero (drop i t)
      go (inl g) = let z = digits_end t i g in absurd (omega arith)
      go (inr l) = l

  -- where n digits follow from the first that is not `0` on, the text's number is a tenth of 10 ^ n or more
  pub read_le : 0 < n → 10 ^ n ≤ 10 * number_in 0 t
  read_le h = subst (λ (k : ℕ). 10 ^ k ≤ 10 * number_in 0 t) (sym e) (subst (λ (x : ℕ). 10 ^ digits_in (drop i t) ≤ 10 * x) f.same (leads_le (drop i t) (first_leading h)))

  -- where digits follow from the first that is not `0` on, their number is not 0
  pub read_pos : 0 < n → 0 < number_in 0 (drop i t)
  read_pos h = made_pos t i n f.same (read_le h)
