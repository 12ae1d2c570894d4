-- Where the zeros end and the infinities begin: theorems of what is computed and, at the end, of the definition, each with its converse. Assumes nothing.
use Prim.Native.Nat.{ℕ, ◌+◌, ◌-◌, ◌*◌, ◌%◌, ◌^◌, ◌≤◌, ◌<◌, min, compare, Ordering}
use Rattle.std.specs.Prelude.{◌≡◌, refl}
use Rattle.std.proofs.Common.{sym, ◌∙◌, subst, inl, mul-le-mul_right, mul-lt-mul_of_pos_right, zero-mul, zero-add, one-mul, lt_of_not-le, arith, pow_pos}
use Rattle.std.proofs.Math.Path.{ap}
use Rattle.std.proofs.Math.Nat.{mul_assoc, mul_comm, mul-pos}
use Rattle.std.proofs.Math.Decide.{dec_lt, dec_le}
use Rattle.std.specs.Float.Ieee.{nearest}
use Rattle.nearest.specs.PatternUnits.{pattern_units, infinity, distance_of}
use Rattle.nearest.specs.PatternUnitsLaws.{units_lt}
use Rattle.nearest.specs.Nearest.{IsNearest}
use Rattle.nearest.specs.Near.{near, Cmp, cmp}
use Rattle.nearest.proofs.Near.{near_is, near_only, near_digits}

-- ---- zeros: up to and including half the least subnormal
-- the pattern 0 is worth 0 units
units_zero : pattern_units 0 ≡ 0
unfolding pattern_units
units_zero = refl

-- the pattern 1, the least subnormal's, is worth one unit
units_one : pattern_units 1 ≡ 1
unfolding pattern_units
units_one = refl

module _ (num den : ℕ) (dp : 0 < den) where
  -- the number in half units is twice the number in units
  twice : num * 2 ^ 1075 ≡ num * 2 ^ 1074 * 2
  twice = sym (mul_assoc num (2 ^ 1074) 2)

  -- a number of at most half the least subnormal has the nearest pattern 0, which is the even one of the two at the tie
  pub near_zero : num * 2 ^ 1075 ≤ den → near num den ≡ 0
  near_zero h =
      let n = num * 2 ^ 1074 in
      let l : n * 2 ≤ den = subst (λ (x : ℕ). x ≤ den) twice h in
      near_digits num den 0 0 n dp (ap (λ (x : ℕ). x + n) (zero-mul (den * 2 ^ 0)) ∙ zero-add n) (below n l) (omega arith) (inl refl)
      ∙ last (compare (n * 2) (den * 2 ^ 0)) n l (cmp (n * 2) (den * 2 ^ 0))
    where
      below : (n : ℕ) → n * 2 ≤ den → n < den * 2 ^ 0
      below n l = omega arith

      last : (o : Ordering) (n : ℕ) → n * 2 ≤ den → Cmp o (n * 2) (den * 2 ^ 0) → min infinity (0 * 2 ^ 52 + nearest 0 o) ≡ 0
      last Ordering.lt n l c = refl
      last Ordering.eq n l c = refl
      last Ordering.gt n l c = absurd (omega arith)

  -- where the nearest pattern is 0, the number is at most half the least subnormal
  pub near_zero_only : near num den ≡ 0 → num * 2 ^ 1075 ≤ den
  near_zero_only e =
      let n = num * 2 ^ 1074 in
      let c : distance_of (pattern_units (near num den) * den) n ≤ distance_of (pattern_units 1 * den) n = (near_is num den dp).closest 1 (omega arith) in
      let z : pattern_units (near num den) * den ≡ 0 = ap (λ (x : ℕ). x * den) (ap pattern_units e ∙ units_zero) ∙ zero-mul den in
      let o : pattern_units 1 * den ≡ den = ap (λ (x : ℕ). x * den) units_one ∙ one-mul den in
      subst (λ (x : ℕ). x ≤ den) (sym twice) (half n (subst (λ (x : ℕ). distance_of 0 n ≤ distance_of x n) o (subst (λ (x : ℕ). distance_of x n ≤ distance_of (pattern_units 1 * den) n) z c)))
    where
      half : (n : ℕ) → distance_of 0 n ≤ distance_of den n → n * 2 ≤ den
      half n c = omega arith

-- the pattern nearest to the number 0 is 0
pub near_nothing : (den : ℕ) → 0 < den → near 0 den ≡ 0
near_nothing den dp = near_zero 0 den dp (subst (λ (x : ℕ). x ≤ den) (sym (zero-mul (2 ^ 1075))) (omega arith))

-- ---- infinities: from halfway between the largest finite value and 2 ^ 1024 on
-- the largest finite value in units: 2 ^ 54 - 2 parts of 2 ^ 970
units_last : pattern_units (infinity - 1) ≡ 18014398509481982 * 2 ^ 2044
unfolding pattern_units
units_last = refl

-- infinity's pattern counts as 2 ^ 1024: 2 ^ 54 parts of 2 ^ 970
units_infinity : pattern_units infinity ≡ 18014398509481984 * 2 ^ 2044
unfolding pattern_units
units_infinity = refl

-- the border of the infinities in units: 2 ^ 54 - 1 parts of 2 ^ 970, half way from the largest finite value to 2 ^ 1024
border_is : (2 ^ 54 - 1) * 2 ^ 970 * 2 ^ 1074 ≡ 18014398509481983 * 2 ^ 2044
border_is = refl

module _ (num den : ℕ) (dp : 0 < den) where
  -- 2 ^ 970 in units, times den: the part by which the border of the infinities is counted
  part : ℕ
  part = 2 ^ 2044 * den

  -- 2 ^ 970 in units, times den, is positive
  part_pos : 0 < part
  unfolding part
  part_pos = mul-pos (pow_pos 2044) dp

  -- the largest finite value times den is 2 ^ 54 - 2 parts of 2 ^ 970
  last_parts : pattern_units (infinity - 1) * den ≡ 18014398509481982 * part
  unfolding part
  last_parts = ap (λ (x : ℕ). x * den) units_last ∙ mul_assoc 18014398509481982 (2 ^ 2044) den

  -- 2 ^ 1024 times den is 2 ^ 54 parts of 2 ^ 970
  infinity_parts : pattern_units infinity * den ≡ 18014398509481984 * part
  unfolding part
  infinity_parts = ap (λ (x : ℕ). x * den) units_infinity ∙ mul_assoc 18014398509481984 (2 ^ 2044) den

  -- the border of the infinities times den is 2 ^ 54 - 1 parts of 2 ^ 970
  border_parts : den * ((2 ^ 54 - 1) * 2 ^ 970) * 2 ^ 1074 ≡ 18014398509481983 * part
  unfolding part
  border_parts = mul_assoc den ((2 ^ 54 - 1) * 2 ^ 970) (2 ^ 1074) ∙ ap (λ (x : ℕ). den * x) border_is ∙ mul_comm den (18014398509481983 * 2 ^ 2044) ∙ mul_assoc 18014398509481983 (2 ^ 2044) den

  -- from the border 2 ^ 1024 - 2 ^ 970 on the nearest is infinity, which is the even one of the two at the tie
  pub near_infinity : den * ((2 ^ 54 - 1) * 2 ^ 970) ≤ num → near num den ≡ infinity
  near_infinity h = go (dec_lt (near num den) (infinity - 1)) (dec_lt (near num den) infinity)
    where
      far : (n p x : ℕ) → 18014398509481983 * p ≤ n → 0 < p → x < 18014398509481982 * p → distance_of x n ≤ distance_of (18014398509481984 * p) n → ⊥
      far n p x a q l c = omega arith

      level : (n p x : ℕ) → 18014398509481983 * p ≤ n → x ≡ 18014398509481982 * p → distance_of x n ≤ distance_of (18014398509481984 * p) n → distance_of (18014398509481984 * p) n ≡ distance_of x n
      level n p x a e c = omega arith

      past : 18014398509481983 * part ≤ num * 2 ^ 1074
      past = subst (λ (x : ℕ). x ≤ num * 2 ^ 1074) border_parts (mul-le-mul_right (2 ^ 1074) h)

      close : distance_of (pattern_units (near num den) * den) (num * 2 ^ 1074) ≤ distance_of (18014398509481984 * part) (num * 2 ^ 1074)
      close = subst (λ (x : ℕ). distance_of (pattern_units (near num den) * den) (num * 2 ^ 1074) ≤ distance_of x (num * 2 ^ 1074)) infinity_parts ((near_is num den dp).closest infinity (omega arith))

      go : Dec (near num den < infinity - 1) → Dec (near num den < infinity) → near num den ≡ infinity
      go (yes l) d =
          let x = pattern_units (near num den) * den in
          absurd (far (num * 2 ^ 1074) part x past part_pos (subst (λ (z : ℕ). x < z) last_parts (mul-lt-mul_of_pos_right (units_lt (near num den) (infinity - 1) l) dp)) close)
      go (no k) (yes l) =
          let n = num * 2 ^ 1074 in
          let e : near num den ≡ infinity - 1 = omega arith in
          let v : pattern_units (near num den) * den ≡ 18014398509481982 * part = ap (λ (x : ℕ). pattern_units x * den) e ∙ last_parts in
          let t : near num den % 2 ≡ 0 = (near_is num den dp).even infinity (omega arith) (λ (f : infinity ≡ near num den). omega arith) (ap (λ (x : ℕ). distance_of x n) infinity_parts ∙ level n part (pattern_units (near num den) * den) past v close) in
          absurd (omega arith)
      go (no k) (no j) = let p : near num den ≤ infinity = (near_is num den dp).pattern in omega arith

  -- below the border 2 ^ 1024 - 2 ^ 970 the nearest pattern is a number's
  pub near_finite : num < den * ((2 ^ 54 - 1) * 2 ^ 970) → near num den < infinity
  near_finite h = go (dec_lt (near num den) infinity)
    where
      below : (n p : ℕ) → n < 18014398509481983 * p → distance_of (18014398509481984 * p) n ≤ distance_of (18014398509481982 * p) n → ⊥
      below n p l c = omega arith

      go : Dec (near num den < infinity) → near num den < infinity
      go (yes l) = l
      go (no k) =
          let n = num * 2 ^ 1074 in
          let s = near_is num den dp in
          let p : near num den ≤ infinity = s.pattern in
          let e : near num den ≡ infinity = omega arith in
          let c : distance_of (pattern_units (near num den) * den) n ≤ distance_of (18014398509481982 * part) n = subst (λ (x : ℕ). distance_of (pattern_units (near num den) * den) n ≤ distance_of x n) last_parts (s.closest (infinity - 1) (omega arith)) in
          let f : pattern_units (near num den) * den ≡ 18014398509481984 * part = ap (λ (x : ℕ). pattern_units x * den) e ∙ infinity_parts in
          absurd (below n part (subst (λ (x : ℕ). n < x) border_parts (mul-lt-mul_of_pos_right h (pow_pos 1074))) (subst (λ (x : ℕ). distance_of x n ≤ distance_of (18014398509481982 * part) n) f c))

  -- where the nearest is infinity, the number is 2 ^ 1024 - 2 ^ 970 or more
  pub near_infinity_only : near num den ≡ infinity → den * ((2 ^ 54 - 1) * 2 ^ 970) ≤ num
  near_infinity_only e = go (dec_le (den * ((2 ^ 54 - 1) * 2 ^ 970)) num)
    where
      go : Dec (den * ((2 ^ 54 - 1) * 2 ^ 970) ≤ num) → den * ((2 ^ 54 - 1) * 2 ^ 970) ≤ num
      go (yes l) = l
      go (no k) = let l = near_finite (lt_of_not-le k) in absurd (omega arith)

-- ---- the same of the definition
module _ (num den : ℕ) (dp : 0 < den) where
  -- 0 is the nearest of a number up to 2 ^ -1075, half the least subnormal, and at that tie too
  pub zero_is : num * 2 ^ 1075 ≤ den → IsNearest num den 0
  zero_is l = subst (λ (b : ℕ). IsNearest num den b) (near_zero num den dp l) (near_is num den dp)

  -- 0 is the nearest of no number above 2 ^ -1075
  pub zero_only : IsNearest num den 0 → num * 2 ^ 1075 ≤ den
  zero_only h = near_zero_only num den dp (sym (near_only num den 0 dp h))

  -- infinity is the nearest of a number from 2 ^ 1024 - 2 ^ 970 on
  pub infinity_is : den * ((2 ^ 54 - 1) * 2 ^ 970) ≤ num → IsNearest num den infinity
  infinity_is l = subst (λ (b : ℕ). IsNearest num den b) (near_infinity num den dp l) (near_is num den dp)

  -- infinity is the nearest of no number below 2 ^ 1024 - 2 ^ 970
  pub infinity_only : IsNearest num den infinity → den * ((2 ^ 54 - 1) * 2 ^ 970) ≤ num
  infinity_only h = near_infinity_only num den dp (sym (near_only num den infinity dp h))
