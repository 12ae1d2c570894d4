-- The patterns that the kit writes for the digits that its rounding keeps. That the rounding, to which each operation on floats hands its
-- exact result, gives the nearest pattern is `round_near` of proofs/Round.antt. Assumes nothing.
use Prim.Native.Nat.{ℕ, suc, ◌+◌, ◌-◌, ◌*◌, ◌/◌, ◌^◌, ◌≤◌, ◌<◌, min, Ordering}
use Rattle.std.specs.Prelude.{◌≡◌, refl, ◌⊎◌, Bool, true, false, not, cond, T, ltb, Float}
use Rattle.std.proofs.Common.{sym, ◌∙◌, ap, subst, inl, inr, le_antisymm, lt_of_le_of_lt, lt_of_lt_of_le, lt_irrefl, mul-one, div-one, mul_assoc, mul-div_cancel, mul-le-mul_right, lt_of_not-le, add_assoc, arith, ltb→lt, nltb→le, pow_pos, pow_mono, pow-add, shl_lt}
use Rattle.std.proofs.Math.Nat.{div-div-eq-div-mul, pow-succ'}
use Rattle.std.proofs.Math.Decide.{dec_lt}
use Rattle.std.specs.Float.{nan, inf, fin, binary64}
use Rattle.std.specs.Float.Ieee.{up, down, size, nearest, odd, units, to_bits}
use Rattle.std.specs.Float.Ieee.Digits.{size-lt, size-le}
use Rattle.std.specs.Float.Ieee.Fits.{kept-lt, nearest-le, down_pos}
use Rattle.std.specs.Float.Ieee.Exact.{HasValue, odd_sign}
use Rattle.std.specs.Float.Ieee.Nearest.{nearest-ge}
use Rattle.nearest.specs.PatternUnits.{pattern_units, infinity}
use Rattle.nearest.specs.PatternUnitsLaws.{DroppedDigits, units_kept, units_lt, units_le}
use Rattle.nearest.specs.Near.{dropped, lead_kept}
use Rattle.nearest.specs.Nearest.{signed}

-- powers of two in order have exponents in order
pub pow_lt_back : (i p : ℕ) → 2 ^ i < 2 ^ p → i < p
pow_lt_back i p h = lt_of_not-le (λ (g : p ≤ i). lt_irrefl (2 ^ i) (lt_of_lt_of_le h (pow_mono g)))

-- a number from 2 ^ a up to the next power has a + 1 digits
size_exact : (a n : ℕ) → 2 ^ a ≤ n → n < 2 ^ suc a → size n ≡ suc a
size_exact a n l h = le_antisymm (size-le n (suc a) h) (pow_lt_back a (size n) (lt_of_le_of_lt l (size-lt n)))

-- the pattern that is written for a units, where a has z digits
abbrev written : ℕ → ℕ → ℕ
written a z = (z - 53) * 2 ^ 52 + a / 2 ^ (z - 53)

-- k digits dropped and q kept are written as k * 2 ^ 52 + q, the carry included
written_kept : (k q : ℕ) → DroppedDigits k q → written (q * 2 ^ k) (size (q * 2 ^ k)) ≡ k * 2 ^ 52 + q
written_kept k q h = go (dec_lt q (2 ^ 52)) (dec_lt q (2 ^ 53)) h.leads
  where
    below : (z : ℕ) → z ≤ 52 → z - 53 ≡ 0
    below z l = omega arith

    flat : (q : ℕ) → q < 2 ^ 52 → written (q * 1) (size (q * 1)) ≡ 0 * 2 ^ 52 + q
    flat q a =
        ap (λ (x : ℕ). written x (size x)) (mul-one q)
        ∙ ap (λ (y : ℕ). y * 2 ^ 52 + q / 2 ^ y) (below (size q) (size-le q 52 a))
        ∙ ap (λ (x : ℕ). 0 * 2 ^ 52 + x) (div-one q)

    kept : (z : ℕ) → z ≡ suc (52 + k) → z - 53 ≡ k
    kept z e = omega arith

    carried : (z : ℕ) → z ≡ suc (53 + k) → z - 53 ≡ suc k
    carried z e = omega arith

    top : q ≡ 2 ^ 53 → q * 2 ^ k ≡ 2 ^ 52 * 2 ^ suc k
    top e = ap (λ (x : ℕ). x * 2 ^ k) e ∙ mul_assoc (2 ^ 52) 2 (2 ^ k) ∙ ap (λ (x : ℕ). 2 ^ 52 * x) (sym (pow-succ' 2 k))

    last : suc k * 2 ^ 52 + 2 ^ 52 ≡ k * 2 ^ 52 + 2 ^ 53
    last = omega arith

    go : Dec (q < 2 ^ 52) → Dec (q < 2 ^ 53) → (k ≡ 0) ⊎ (2 ^ 52 ≤ q) → written (q * 2 ^ k) (size (q * 2 ^ k)) ≡ k * 2 ^ 52 + q
    go (yes a) d (inl z) = subst (λ (j : ℕ). written (q * 2 ^ j) (size (q * 2 ^ j)) ≡ j * 2 ^ 52 + q) (sym z) (flat q a)
    go (yes a) d (inr l) = absurd (omega arith)
    go (no a) (yes b) w =
        let l : 2 ^ 52 ≤ q = omega arith in
        let s : size (q * 2 ^ k) ≡ suc (52 + k) = size_exact (52 + k) (q * 2 ^ k) (subst (λ (x : ℕ). x ≤ q * 2 ^ k) (sym (pow-add 2 52 k)) (mul-le-mul_right (2 ^ k) l)) (subst (λ (x : ℕ). q * 2 ^ k < 2 ^ x) (shift k) (shl_lt 53 k b)) in
        ap (λ (y : ℕ). y * 2 ^ 52 + q * 2 ^ k / 2 ^ y) (kept (size (q * 2 ^ k)) s)
        ∙ ap (λ (x : ℕ). k * 2 ^ 52 + x) (mul-div_cancel q (pow_pos k))
      where
        shift : (k : ℕ) → 53 + k ≡ suc (52 + k)
        shift k = omega arith
    go (no a) (no b) w =
        let m : q ≤ 2 ^ 53 = h.most in
        let e : q ≡ 2 ^ 53 = omega arith in
        let v : q * 2 ^ k ≡ 2 ^ 52 * 2 ^ suc k = top e in
        let x : q * 2 ^ k ≡ 2 ^ (53 + k) = ap (λ (y : ℕ). y * 2 ^ k) e ∙ sym (pow-add 2 53 k) in
        let s : size (q * 2 ^ k) ≡ suc (53 + k) = ap size x ∙ size_exact (53 + k) (2 ^ (53 + k)) (same (2 ^ (53 + k))) (grows (53 + k)) in
        ap (λ (y : ℕ). y * 2 ^ 52 + q * 2 ^ k / 2 ^ y) (carried (size (q * 2 ^ k)) s)
        ∙ ap (λ (y : ℕ). suc k * 2 ^ 52 + y / 2 ^ suc k) v
        ∙ ap (λ (y : ℕ). suc k * 2 ^ 52 + y) (mul-div_cancel (2 ^ 52) (pow_pos (suc k)))
        ∙ last
        ∙ ap (λ (y : ℕ). k * 2 ^ 52 + y) (sym e)
      where
        same : (x : ℕ) → x ≤ x
        same x = omega arith

        grows : (j : ℕ) → 2 ^ j < 2 ^ suc j
        grows j = let p : 0 < 2 ^ j = pow_pos j in subst (λ (x : ℕ). 2 ^ j < x) (sym (pow-succ' 2 j)) (double (2 ^ j) p)
          where
            double : (x : ℕ) → 0 < x → x < 2 * x
            double x p = omega arith

-- the bits of a finite value that is a units in size are those written for a units, with its sign
to_bits_value : (x : Float) (s : Bool) (a : ℕ) → HasValue x s a (2 ^ 1074) → to_bits binary64 x ≡ signed s (written a (size a))
unfolding to_bits
to_bits_value nan s a h = absurd h
to_bits_value (inf t) s a h = absurd h
to_bits_value (fin t m e) s a h =
    let n : m * up e * 2 ^ 1074 / down e ≡ a = ap (λ (x : ℕ). x / down e) h.1 ∙ mul-div_cancel a (down_pos e) in
    ap (λ (y : ℕ). cond t (2 ^ 63) 0 + (size y - 53) * 2 ^ 52 + y / 2 ^ (size y - 53)) n
    ∙ add_assoc (cond t (2 ^ 63) 0) ((size a - 53) * 2 ^ 52) (a / 2 ^ (size a - 53))
    ∙ ap (λ (b : Bool). signed b (written a (size a))) h.0

-- the pattern of an infinity with its sign
pub to_bits_inf : (s : Bool) → to_bits binary64 (inf s) ≡ signed s infinity
unfolding to_bits
to_bits_inf s = refl

-- infinity's pattern counts as 2 ^ 1024
worth_infinity : pattern_units infinity ≡ 2 ^ (1074 + 1024)
unfolding pattern_units
worth_infinity = refl

-- where q kept and k dropped count as less than 2 ^ 1024, their pattern is below infinity's
under_infinity : (k q : ℕ) → DroppedDigits k q → q * 2 ^ k < 2 ^ (1074 + 1024) → k * 2 ^ 52 + q < infinity
under_infinity k q h l = go (dec_lt (k * 2 ^ 52 + q) infinity)
  where
    go : Dec (k * 2 ^ 52 + q < infinity) → k * 2 ^ 52 + q < infinity
    go (yes m) = m
    go (no m) =
        let i : infinity ≤ k * 2 ^ 52 + q = omega arith in
        absurd (lt_irrefl (q * 2 ^ k) (lt_of_lt_of_le l (subst (λ (x : ℕ). x ≤ q * 2 ^ k) worth_infinity (subst (λ (x : ℕ). pattern_units infinity ≤ x) (units_kept k q h) (units_le infinity (k * 2 ^ 52 + q) i)))))

-- what counts as 2 ^ 1024 or more has infinity's pattern or one past it
over_infinity : (k q : ℕ) → DroppedDigits k q → 2 ^ (1074 + 1024) ≤ q * 2 ^ k → infinity ≤ k * 2 ^ 52 + q
over_infinity k q h l = go (dec_lt (k * 2 ^ 52 + q) infinity)
  where
    go : Dec (k * 2 ^ 52 + q < infinity) → infinity ≤ k * 2 ^ 52 + q
    go (no m) = omega arith
    go (yes m) =
        absurd (lt_irrefl (q * 2 ^ k) (lt_of_lt_of_le (subst (λ (x : ℕ). q * 2 ^ k < x) worth_infinity (subst (λ (x : ℕ). x < pattern_units infinity) (units_kept k q h) (units_lt (k * 2 ^ 52 + q) infinity m))) l))

-- what the kit makes of q kept and k dropped has the pattern k * 2 ^ 52 + q, infinity's at most, with its sign
pub units_pattern : (s : Bool) (q k : ℕ) → DroppedDigits k q → to_bits binary64 (units binary64 s q k) ≡ signed s (min infinity (k * 2 ^ 52 + q))
unfolding units
units_pattern s q k h = go (ltb (q * 2 ^ k) (2 ^ (1074 + 1024))) (ltb→lt (q * 2 ^ k) (2 ^ (1074 + 1024))) (nltb→le (q * 2 ^ k) (2 ^ (1074 + 1024)))
  where
    small : (b : ℕ) → b < infinity → b ≡ min infinity b
    small b l = omega arith

    large : (b : ℕ) → infinity ≤ b → infinity ≡ min infinity b
    large b l = omega arith

    go : (b : Bool) → (T b → q * 2 ^ k < 2 ^ (1074 + 1024)) → (T (not b) → 2 ^ (1074 + 1024) ≤ q * 2 ^ k) → to_bits binary64 (cond b (odd 54 s q k 1074) (inf s)) ≡ signed s (min infinity (k * 2 ^ 52 + q))
    go true l g =
        to_bits_value (odd 54 s q k 1074) s (q * 2 ^ k) (odd_sign 54 s q k 1074)
        ∙ ap (signed s) (written_kept k q h)
        ∙ ap (signed s) (small (k * 2 ^ 52 + q) (under_infinity k q h (l tt)))
    go false l g = to_bits_inf s ∙ ap (signed s) (large (k * 2 ^ 52 + q) (over_infinity k q h (g tt)))

-- the digits that `near` keeps are kept in the sense of `DroppedDigits`
pub kept_near : (n den : ℕ) (o : Ordering) → DroppedDigits (dropped n den) (nearest (n / (den * 2 ^ dropped n den)) o)
kept_near n den o =
    let k = dropped n den in
    let q = n / (den * 2 ^ k) in
    let e : q ≡ n / den / 2 ^ k = sym (div-div-eq-div-mul n den (2 ^ k)) in
    made k q (nearest q o) (subst (λ (x : ℕ). x < 2 ^ 53) (sym e) (kept-lt 53 (n / den))) (subst (λ (x : ℕ). (k ≡ 0) ⊎ (2 ^ 52 ≤ x)) (sym e) (lead_kept (n / den))) (nearest-le q o) (nearest-ge q o)
  where
    made : (k q r : ℕ) → q < 2 ^ 53 → (k ≡ 0) ⊎ (2 ^ 52 ≤ q) → r ≤ suc q → q ≤ r → DroppedDigits k r
    made k q r a (inl z) l g = record { most = omega arith; leads = inl z }
    made k q r a (inr m) l g = record { most = omega arith; leads = inr (omega arith) }
