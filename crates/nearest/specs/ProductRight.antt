-- What a pattern stands for is the number that the language reads from it, and of whole numbers their own worth. The laws that the language's
-- `*` and `/` give the products and quotients of Product.antt stand on this, in proofs/ProductRight.antt. Assumes nothing.
use Rattle.std.specs.Prelude.{ℕ, zero, suc, ◌+◌, ◌*◌, ◌/◌, ◌%◌, ◌^◌, ◌≤◌, ◌<◌, ◌≡◌, refl, Bool, true, false, not, cond, T, ltb, eqb, ℤ, pos, Float}
use Rattle.std.proofs.Common.{sym, ◌∙◌, ap, subst, mul-one, mul-pos, mul_assoc, mul_comm, mul_right_comm, mul_left_comm, zero-mul, arith, lt-ltb, le-ltb, eq-eqb, ne_eqb, pow_pos}
use Rattle.std.proofs.Math.Nat.{eq_of_mul-eq-mul_right}
use Rattle.std.proofs.Math.Decide.{dec_lt}
use Rattle.std.proofs.Math.Pow.{mod-mod-pow}
use Rattle.std.specs.Float.{nan, inf, fin, binary64}
use Rattle.std.specs.Float.Ieee.{up, down, unlike, odd, round, of_int, neg, fits, of_fields, of_bits, to_bits}
use Rattle.std.specs.Float.Ieee.Fits.{down_pos, of_int-fits, neg-fits}
use Rattle.std.specs.Float.Ieee.Back.{round_whole}
use Rattle.std.specs.Float.Ieee.Exact.{HasValue, odd_sign}
use Rattle.std.specs.Float.Ieee.Bits.{of_bits-to_bits}
use Rattle.nearest.specs.PatternUnits.{units_at, pattern_units, infinity}
use Rattle.nearest.specs.Nearest.{signed}
use Rattle.nearest.specs.Round.{to_bits_inf}
use Rattle.nearest.specs.Product.{Worth, none, infinite, finite, negative, worth_of, quiet}

-- the language's value and what a pattern stands for are the same number, infinity or no number
pub data Like : Float → Worth → Type 0 where
  like_nan : Like nan none
  like_inf : {s : Bool} → Like (inf s) (infinite s)
  like_fin : {s : Bool} {m : ℕ} {e : ℤ} {a : ℕ} → m * up e * 2 ^ 1074 ≡ a * down e → Like (fin s m e) (finite s a)

-- a value of a units in size stands for a units
of_value : (x : Float) (s : Bool) (a : ℕ) → HasValue x s a (2 ^ 1074) → Like x (finite s a)
of_value nan s a h = absurd h
of_value (inf t) s a h = absurd h
of_value (fin t m e) s a h = subst (λ (b : Bool). Like (fin t m e) (finite b a)) h.0 (like_fin h.1)

-- what the language reads from the fields x and t is what the pattern r without its sign stands for, r having these fields
like_fields : (s : Bool) (r x t : ℕ) → r / 2 ^ 52 ≡ x → r % 2 ^ 52 ≡ t → r < 2 ^ 63 → Like (of_fields binary64 s x t) (cond (ltb r infinity) (finite s (pattern_units r)) (cond (eqb r infinity) (infinite s) none))
unfolding of_fields pattern_units
like_fields s r zero t e f l =
    let b : r < infinity = omega arith in
    let u : units_at (r / 2 ^ 52) (r % 2 ^ 52) ≡ t = ap (λ (y : ℕ). units_at y (r % 2 ^ 52)) e ∙ f in
    rw (lt-ltb r infinity b, u) (of_value (odd 53 s t 0 1074) s t (subst (λ (y : ℕ). HasValue (odd 53 s t 0 1074) s y (2 ^ 1074)) (mul-one t) (odd_sign 53 s t 0 1074)))
like_fields s r (suc x) t e f l = go (dec_lt r infinity)
  where
    go : Dec (r < infinity) → Like (cond (eqb (suc x) 2047) (cond (eqb t 0) (inf s) nan) (odd 53 s (2 ^ 52 + t) x 1074)) (cond (ltb r infinity) (finite s (units_at (r / 2 ^ 52) (r % 2 ^ 52))) (cond (eqb r infinity) (infinite s) none))
    go (yes b) =
        let u : units_at (r / 2 ^ 52) (r % 2 ^ 52) ≡ (2 ^ 52 + t) * 2 ^ x = ap (λ (y : ℕ). units_at y (r % 2 ^ 52)) e ∙ ap (λ (y : ℕ). (2 ^ 52 + y) * 2 ^ x) f in
        let n : suc x ≡ 2047 → ⊥ = λ i. omega arith in
        rw (lt-ltb r infinity b, u, ne_eqb (suc x) 2047 n) (of_value (odd 53 s (2 ^ 52 + t) x 1074) s ((2 ^ 52 + t) * 2 ^ x) (odd_sign 53 s (2 ^ 52 + t) x 1074))
    go (no b) =
        let i : suc x ≡ 2047 = omega arith in
        let g : infinity ≤ r = omega arith in
        rw (le-ltb r infinity g, eq-eqb (suc x) 2047 i) (last t f)
      where
        last : (t : ℕ) → r % 2 ^ 52 ≡ t → Like (cond (eqb t 0) (inf s) nan) (cond (eqb r infinity) (infinite s) none)
        last zero f = let j : r ≡ infinity = omega arith in rw (eq-eqb r infinity j) like_inf
        last (suc t) f =
            let j : r ≡ infinity → ⊥ = λ k. omega arith in
            let z : suc t ≡ 0 → ⊥ = λ k. omega arith in
            rw (ne_eqb r infinity j, ne_eqb (suc t) 0 z) like_nan

-- the value that is read from a pattern is what the pattern stands for
like_bits : (p : ℕ) → Like (of_bits binary64 p) (worth_of p)
unfolding of_bits worth_of
like_bits p =
    let l : p % 2 ^ 63 < 2 ^ 63 = omega arith in
    like_fields (negative p) (p % 2 ^ 63) (p % 2 ^ 63 / 2 ^ 52) (p % 2 ^ 52) refl (mod-mod-pow p 11 52) l

-- a value that an f64 holds is what its own pattern stands for
pub like_own : (x : Float) → T (fits binary64 x) → Like x (worth_of (to_bits binary64 x))
like_own x h = subst (λ (y : Float). Like y (worth_of (to_bits binary64 x))) (of_bits-to_bits binary64 x h) (like_bits (to_bits binary64 x))

-- a float is zero just where its number of units is
pub zero_both : (m u a d : ℕ) → 0 < u → 0 < d → m * u * 2 ^ 1074 ≡ a * d → eqb m 0 ≡ eqb a 0
zero_both m u a d up dp e = go m a e
  where
    none_left : (x y : ℕ) → 0 < x → x ≡ y → y ≡ 0 → ⊥
    none_left x y p q r = omega arith

    go : (m a : ℕ) → m * u * 2 ^ 1074 ≡ a * d → eqb m 0 ≡ eqb a 0
    go zero zero e = refl
    go zero (suc a) e =
        absurd (none_left (suc a * d) (0 * u * 2 ^ 1074) (mul-pos (pos_suc a) dp) (sym e) (ap (λ (x : ℕ). x * 2 ^ 1074) (zero-mul u) ∙ zero-mul (2 ^ 1074)))
      where
        pos_suc : (a : ℕ) → 0 < suc a
        pos_suc a = omega arith
    go (suc m) zero e = absurd (none_left (suc m * u * 2 ^ 1074) (0 * d) (mul-pos (mul-pos (pos_suc m) up) (pow_pos 1074)) e (zero-mul d))
      where
        pos_suc : (a : ℕ) → 0 < suc a
        pos_suc a = omega arith
    go (suc m) (suc a) e = ne_eqb (suc m) 0 (no_zero m) ∙ sym (ne_eqb (suc a) 0 (no_zero a))
      where
        no_zero : (a : ℕ) → suc a ≡ 0 → ⊥
        no_zero a e = omega arith

-- the two middle factors of four change places
pub swap_middle : (a b c d : ℕ) → a * b * (c * d) ≡ a * c * (b * d)
swap_middle a b c d = mul_assoc a b (c * d) ∙ ap (λ (x : ℕ). a * x) (mul_left_comm b c d) ∙ sym (mul_assoc a c (b * d))

-- where x / c is a / s and y / d is b / t, their products are equal too
pub cross : (x y s t a b c d : ℕ) → x * s ≡ a * c → y * t ≡ b * d → x * y * (s * t) ≡ a * b * (c * d)
cross x y s t a b c d e f =
    swap_middle x y s t ∙ ap (λ (z : ℕ). z * (y * t)) e ∙ ap (λ (z : ℕ). a * c * z) f ∙ swap_middle a c b d

-- where x * S is a * c and y * S is b * d, x / c by y / d is a / b
pub ratio : (x y S a b c d : ℕ) → 0 < S → x * S ≡ a * c → y * S ≡ b * d → x * d * b ≡ a * (y * c)
ratio x y S a b c d sp e f =
    eq_of_mul-eq-mul_right S sp (x * d * b) (a * (y * c))
    (mul_right_comm (x * d) b S
    ∙ ap (λ (z : ℕ). z * b) (mul_right_comm x d S)
    ∙ ap (λ (z : ℕ). z * d * b) e
    ∙ mul_assoc (a * c) d b
    ∙ ap (λ (z : ℕ). a * c * z) (mul_comm d b ∙ sym f)
    ∙ mul_assoc a c (y * S)
    ∙ ap (λ (z : ℕ). a * z) (sym (mul_assoc c y S) ∙ ap (λ (z : ℕ). z * S) (mul_comm c y))
    ∙ sym (mul_assoc a (y * c) S))

-- the pattern of the language's NaN is `quiet`
pub to_bits_nan : to_bits binary64 nan ≡ quiet
unfolding to_bits
to_bits_nan = refl

-- the pattern of a zero with its sign
pub to_bits_zero : (s : Bool) → to_bits binary64 (fin s 0 (pos 0)) ≡ signed s 0
unfolding to_bits
to_bits_zero true = refl
to_bits_zero false = refl

-- infinity times a number, as the language has it and as `times_of` does: no number where that is zero
pub inf_or_nan : (b c : Bool) (s : Bool) → b ≡ c → to_bits binary64 (cond b nan (inf s)) ≡ cond c quiet (signed s infinity)
inf_or_nan true c s e = rw (← e) to_bits_nan
inf_or_nan false c s e = rw (← e) (to_bits_inf s)

-- the quotient of two numbers as the language has it and as `over_of` does, by whether the divisor and the dividend are zero
pub over_cases : (z w z' w' : Bool) (s : Bool) (x : Float) (r : ℕ) → z ≡ z' → w ≡ w' → (z' ≡ false → to_bits binary64 x ≡ r) → to_bits binary64 (cond z (cond w nan (inf s)) x) ≡ cond z' (cond w' quiet (signed s infinity)) r
over_cases true w z' w' s x r e f h = rw (← e) (inf_or_nan w w' s f)
over_cases false w z' w' s x r e f h = rw (← e) (h (sym e))

-- where a value is a units in size, what stands for the same number is a units
worth_like : (x : Float) (w : Worth) (s : Bool) (a : ℕ) → Like x w → HasValue x s a (2 ^ 1074) → w ≡ finite s a
worth_like x w s a like_nan h = absurd h
worth_like x w s a like_inf h = absurd h
worth_like x w s a (like_fin {s = t} {m = m} {e = e} {a = b} f) h =
    let p : b ≡ a = eq_of_mul-eq-mul_right (down e) (down_pos e) b a (sym f ∙ h.1) in λ i. finite (h.0 i) (p i)

-- a value that is a units in size has a pattern that is worth a units
pub worth_value : (x : Float) (s : Bool) (a : ℕ) → T (fits binary64 x) → HasValue x s a (2 ^ 1074) → worth_of (to_bits binary64 x) ≡ finite s a
worth_value x s a h v = worth_like x (worth_of (to_bits binary64 x)) s a (like_own x h) v

-- a whole number n is n times 2 ^ 1074 units
in_units : (x : Float) (s : Bool) (n : ℕ) → HasValue x s n 1 → HasValue x s (n * 2 ^ 1074) (2 ^ 1074)
in_units nan s n h = h
in_units (inf t) s n h = h
in_units (fin t m e) s n h =
    (h.0, ap (λ (x : ℕ). x * 2 ^ 1074) (sym (mul-one (m * up e)) ∙ h.1) ∙ mul_right_comm n (down e) (2 ^ 1074))

-- the negative of a value has its size, and the negative sign
minus_value : (x : Float) (a c : ℕ) → HasValue x false a c → HasValue (neg x) true a c
unfolding neg
minus_value nan a c h = h
minus_value (inf t) a c h = h
minus_value (fin t m e) a c h = (ap not h.0, h.1)

-- a whole number up to 2 ^ 53 as an f64 is worth itself exactly
pub worth_whole : (m : ℕ) → m ≤ 2 ^ 53 → worth_of (to_bits binary64 (of_int binary64 (pos m))) ≡ finite false (m * 2 ^ 1074)
unfolding of_int
worth_whole m h = worth_value (round binary64 false m 1) false (m * 2 ^ 1074) (of_int-fits binary64 (pos m)) (in_units (round binary64 false m 1) false m (round_whole binary64 false m h))

-- the negative of a whole number up to 2 ^ 53, zero's too, is worth it exactly
pub worth_minus : (m : ℕ) → m ≤ 2 ^ 53 → worth_of (to_bits binary64 (neg (of_int binary64 (pos m)))) ≡ finite true (m * 2 ^ 1074)
unfolding of_int
worth_minus m h =
    worth_value (neg (round binary64 false m 1)) true (m * 2 ^ 1074) (neg-fits binary64 (round binary64 false m 1) (of_int-fits binary64 (pos m)))
    (minus_value (round binary64 false m 1) (m * 2 ^ 1074) (2 ^ 1074) (in_units (round binary64 false m 1) false m (round_whole binary64 false m h)))

-- beside a positive operand the other one's sign is the result's
pub as_first : (s : Bool) → unlike s false ≡ s
as_first true = refl
as_first false = refl

-- a positive number is not zero
pub some : (n : ℕ) → 0 < n → n ≡ 0 → ⊥
some n h z = omega arith
