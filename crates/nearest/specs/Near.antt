-- The nearest pattern, computed: the 53 leading digits of the fraction in units, moved up by one where the rest says so. It is a
-- nearest pattern (`near_is`), and the only one (`near_only`): proofs/Near.antt. Here is what these laws stand on: whatever digits are
-- kept, twice the rest against the divisor decides (`digits_nearest`). Assumes nothing.
use Prim.Native.Nat.{ℕ, zero, suc, ◌+◌, ◌-◌, ◌*◌, ◌/◌, ◌%◌, ◌^◌, ◌≤◌, ◌<◌, min, compare, Ordering}
use Rattle.std.specs.Prelude.{◌≡◌, refl, ◌⊎◌, not, T, eqb}
use Rattle.std.proofs.Common.{sym, ◌∙◌, ap, subst, inl, inr, mul-le-mul_right, mul-lt-mul_of_pos_right, mul_assoc, mul_comm, suc-mul, le-div_iff_mul-le, eq-zero-or-pos, le_of_lt, arith, leb→le, eqb→eq, pow_pos, pow-add}
use Rattle.std.proofs.Math.Decide.{dec_lt, dec_le}
use Rattle.std.proofs.Math.Dec.{is_le, compare_is_eq, nleb→lt, eqb_refl}
use Rattle.std.proofs.Math.Arith.{lt_of_le-ne}
use Rattle.std.specs.Float.Ieee.{size, nearest}
use Rattle.std.specs.Float.Ieee.Digits.{size_reaches}
use Rattle.nearest.specs.PatternUnits.{pattern_units, infinity, distance_of}
use Rattle.nearest.specs.PatternUnitsLaws.{DroppedDigits, units_kept, units_lt, units_le}
use Rattle.nearest.specs.Nearest.{NearestTo}

-- n / den units: how many digits of the whole part are dropped, so many that 53 are left, none of a shorter number
abbrev pub dropped : ℕ → ℕ → ℕ
dropped n den = size (n / den) - 53

-- the pattern of n / den units where k digits are dropped, that of infinity at most
abbrev pub pattern_at : ℕ → ℕ → ℕ → ℕ
pattern_at n den k = min infinity (k * 2 ^ 52 + nearest (n / (den * 2 ^ k)) (compare (n % (den * 2 ^ k) * 2) (den * 2 ^ k)))

-- the pattern nearest to n / den units
unfoldable pub near_units : ℕ → ℕ → ℕ
near_units n den = pattern_at n den (dropped n den)

-- the pattern nearest to num / den
unfoldable pub near : ℕ → ℕ → ℕ
near num den = near_units (num * 2 ^ 1074) den

-- ---- what `compare` says
-- what each answer of `compare` says of two numbers: less, equal or greater
abbrev pub Cmp : Ordering → ℕ → ℕ → Type 0
Cmp Ordering.lt a b = a < b
Cmp Ordering.eq a b = a ≡ b
Cmp Ordering.gt a b = b < a

-- what `compare` answers holds of its two arguments
pub cmp : (a b : ℕ) → Cmp (compare a b) a b
cmp a b = go (compare a b) (leb→le a b) (nleb→lt a b) (eqb→eq a b) (λ (e : a ≡ b). subst (λ (x : ℕ). T (eqb a x)) e (eqb_refl a))
  where
    go : (o : Ordering) → (T (is_le o) → a ≤ b) → (T (not (is_le o)) → b < a) → (T (compare_is_eq o) → a ≡ b) → (a ≡ b → T (compare_is_eq o)) → Cmp o a b
    go Ordering.lt h k e n = lt_of_le-ne (h tt) n
    go Ordering.eq h k e n = e tt
    go Ordering.gt h k e n = k tt

-- ---- n lies between the pattern b and the next, r above the one and u - r below the other
module _ (n den b r u : ℕ) (dp : 0 < den) (lo : pattern_units b * den + r ≡ n) (hi : pattern_units (suc b) * den ≡ pattern_units b * den + u) (rl : r < u) (fit : suc b ≤ infinity) where
  -- every pattern is worth at most what b is, or at least what the next one is
  side : (c : ℕ) → ((c ≤ b) × (pattern_units c * den ≤ pattern_units b * den)) ⊎ (pattern_units (suc b) * den ≤ pattern_units c * den)
  side c = go (dec_le c b)
    where
      go : Dec (c ≤ b) → ((c ≤ b) × (pattern_units c * den ≤ pattern_units b * den)) ⊎ (pattern_units (suc b) * den ≤ pattern_units c * den)
      go (yes l) = inl (l, mul-le-mul_right den (units_le c b l))
      go (no k) = let l : suc b ≤ c = omega arith in inr (mul-le-mul_right den (units_le (suc b) c l))

  -- a pattern below b is worth less than b
  lower : (c : ℕ) → c ≤ b → (c ≡ b → ⊥) → pattern_units c * den < pattern_units b * den
  lower c l ne = mul-lt-mul_of_pos_right (units_lt c b (lt_of_le-ne l ne)) dp

  -- a pattern above the one next to b is worth more than that one
  upper : (c : ℕ) → suc b ≤ c → (c ≡ suc b → ⊥) → pattern_units (suc b) * den < pattern_units c * den
  upper c l ne = let m : suc b < c = omega arith in mul-lt-mul_of_pos_right (units_lt (suc b) c m) dp

  -- of plain numbers: where n is r above v, a number up to v is no closer to n than v
  far_down : (v w x : ℕ) → v + r ≡ n → w ≡ v + u → x ≤ v → distance_of v n ≤ distance_of x n
  far_down v w x p q l = omega arith

  -- of plain numbers: n is r above v, and r at most half of u: a number from v + u on is no closer to n than v
  far_up : (v w x : ℕ) → v + r ≡ n → w ≡ v + u → w ≤ x → r * 2 ≤ u → distance_of v n ≤ distance_of x n
  far_up v w x p q l h = omega arith

  -- where n lies at most half way from b to the next pattern, and b is even if it is just half way, b is the nearest
  near_down : r * 2 ≤ u → (r * 2 ≡ u → b % 2 ≡ 0) → NearestTo n den b
  near_down h t = record {
    pattern = omega arith;
    closest = λ c _. close c (side c);
    even = λ c _ ne e. tie c ne e (side c);
  }
    where
      close : (c : ℕ) → ((c ≤ b) × (pattern_units c * den ≤ pattern_units b * den)) ⊎ (pattern_units (suc b) * den ≤ pattern_units c * den) → distance_of (pattern_units b * den) n ≤ distance_of (pattern_units c * den) n
      close c (inl s) = far_down (pattern_units b * den) (pattern_units (suc b) * den) (pattern_units c * den) lo hi s.1
      close c (inr s) = far_up (pattern_units b * den) (pattern_units (suc b) * den) (pattern_units c * den) lo hi s h

      less : (v x : ℕ) → v + r ≡ n → x < v → distance_of x n ≡ distance_of v n → ⊥
      less v x p l e = omega arith

      level : (v w x : ℕ) → v + r ≡ n → w ≡ v + u → w ≤ x → distance_of x n ≡ distance_of v n → r * 2 ≡ u
      level v w x p q l e = omega arith

      tie : (c : ℕ) → (c ≡ b → ⊥) → distance_of (pattern_units c * den) n ≡ distance_of (pattern_units b * den) n → ((c ≤ b) × (pattern_units c * den ≤ pattern_units b * den)) ⊎ (pattern_units (suc b) * den ≤ pattern_units c * den) → b % 2 ≡ 0
      tie c ne e (inl s) = absurd (less (pattern_units b * den) (pattern_units c * den) lo (lower c s.0 ne) e)
      tie c ne e (inr s) = t (level (pattern_units b * den) (pattern_units (suc b) * den) (pattern_units c * den) lo hi s e)

  -- where n lies at least half way from b to the next pattern, which is even if it is just half way, that one is the nearest
  near_up : u ≤ r * 2 → (r * 2 ≡ u → suc b % 2 ≡ 0) → NearestTo n den (suc b)
  near_up h t = record {
    pattern = fit;
    closest = λ c _. close c (side c);
    even = λ c _ ne e. tie c ne e (dec_le c b);
  }
    where
      down_far : (v w x : ℕ) → v + r ≡ n → w ≡ v + u → x ≤ v → distance_of w n ≤ distance_of x n
      down_far v w x p q l = omega arith

      up_far : (v w x : ℕ) → v + r ≡ n → w ≡ v + u → w ≤ x → distance_of w n ≤ distance_of x n
      up_far v w x p q l = omega arith

      close : (c : ℕ) → ((c ≤ b) × (pattern_units c * den ≤ pattern_units b * den)) ⊎ (pattern_units (suc b) * den ≤ pattern_units c * den) → distance_of (pattern_units (suc b) * den) n ≤ distance_of (pattern_units c * den) n
      close c (inl s) = down_far (pattern_units b * den) (pattern_units (suc b) * den) (pattern_units c * den) lo hi s.1
      close c (inr s) = up_far (pattern_units b * den) (pattern_units (suc b) * den) (pattern_units c * den) lo hi s

      more : (v w x : ℕ) → v + r ≡ n → w ≡ v + u → w < x → distance_of x n ≡ distance_of w n → ⊥
      more v w x p q l e = omega arith

      level : (v w x : ℕ) → v + r ≡ n → w ≡ v + u → x ≤ v → distance_of x n ≡ distance_of w n → r * 2 ≡ u
      level v w x p q l e = omega arith

      tie : (c : ℕ) → (c ≡ suc b → ⊥) → distance_of (pattern_units c * den) n ≡ distance_of (pattern_units (suc b) * den) n → Dec (c ≤ b) → suc b % 2 ≡ 0
      tie c ne e (yes l) = t (level (pattern_units b * den) (pattern_units (suc b) * den) (pattern_units c * den) lo hi (mul-le-mul_right den (units_le c b l)) e)
      tie c ne e (no k) =
          let l : suc b ≤ c = omega arith in
          absurd (more (pattern_units b * den) (pattern_units (suc b) * den) (pattern_units c * den) lo hi (upper c l ne) e)

-- ---- at infinity's pattern or past it, infinity's is the nearest
-- what is worth infinity's pattern or more is nearest to infinity
past : (n den : ℕ) → pattern_units infinity * den ≤ n → NearestTo n den infinity
past n den h = record {
  pattern = omega arith;
  closest = λ c l. far (pattern_units infinity * den) (pattern_units c * den) (mul-le-mul_right den (units_le c infinity l)) h;
  even = λ c l ne e. refl;
}
  where
    far : (v x : ℕ) → x ≤ v → v ≤ n → distance_of v n ≤ distance_of x n
    far v x l k = omega arith

-- ---- the law of the digits
-- a pattern k * 2 ^ 52 + q is even where q is
even_sum : (k q : ℕ) → q % 2 ≡ 0 → (k * 2 ^ 52 + q) % 2 ≡ 0
even_sum k q e = omega arith

-- one more than a kept q of at most 53 digits is kept too, the carry to 2 ^ 53 included
kept_suc : (k q : ℕ) → q < 2 ^ 53 → (k ≡ 0) ⊎ (2 ^ 52 ≤ q) → DroppedDigits k (suc q)
kept_suc k q h l = record { most = omega arith; leads = go l }
  where
    go : (k ≡ 0) ⊎ (2 ^ 52 ≤ q) → (k ≡ 0) ⊎ (2 ^ 52 ≤ suc q)
    go (inl z) = inl z
    go (inr m) = inr (omega arith)

module _ (n den k q r : ℕ) (dp : 0 < den) (split : q * (den * 2 ^ k) + r ≡ n) (rl : r < den * 2 ^ k) (qk : q < 2 ^ 53) (lead : (k ≡ 0) ⊎ (2 ^ 52 ≤ q)) where
  -- the pattern with q kept and k digits dropped is worth q times the divisor den * 2 ^ k
  here : pattern_units (k * 2 ^ 52 + q) * den ≡ q * (den * 2 ^ k)
  here =
      ap (λ (x : ℕ). x * den) (units_kept k q (record { most = le_of_lt qk; leads = lead }))
      ∙ mul_assoc q (2 ^ k) den
      ∙ ap (λ (x : ℕ). q * x) (mul_comm (2 ^ k) den)

  -- the pattern after the one with q kept is worth one divisor den * 2 ^ k more
  next : pattern_units (suc (k * 2 ^ 52 + q)) * den ≡ pattern_units (k * 2 ^ 52 + q) * den + den * 2 ^ k
  next =
      let i : suc (k * 2 ^ 52 + q) ≡ k * 2 ^ 52 + suc q = omega arith in
      ap (λ (x : ℕ). pattern_units x * den) i
      ∙ ap (λ (x : ℕ). x * den) (units_kept k (suc q) (kept_suc k q qk lead))
      ∙ mul_assoc (suc q) (2 ^ k) den
      ∙ ap (λ (x : ℕ). suc q * x) (mul_comm (2 ^ k) den)
      ∙ suc-mul q (den * 2 ^ k)
      ∙ ap (λ (x : ℕ). x + den * 2 ^ k) (sym here)

  -- n lies r above what the pattern with q kept is worth
  lo : pattern_units (k * 2 ^ 52 + q) * den + r ≡ n
  lo = ap (λ (x : ℕ). x + r) here ∙ split

  -- by how twice r compares with the divisor den * 2 ^ k, the pattern with q kept or the next is the nearest
  at_order : (o : Ordering) → Cmp o (r * 2) (den * 2 ^ k) → suc (k * 2 ^ 52 + q) ≤ infinity → NearestTo n den (min infinity (k * 2 ^ 52 + nearest q o))
  at_order Ordering.lt c f =
      let e : min infinity (k * 2 ^ 52 + q) ≡ k * 2 ^ 52 + q = omega arith in
      subst (NearestTo n den) (sym e)
      (near_down n den (k * 2 ^ 52 + q) r (den * 2 ^ k) dp lo next rl f (le_of_lt c) (λ t. absurd (never (r * 2) (den * 2 ^ k) c t)))
    where
      never : (x y : ℕ) → x < y → x ≡ y → ⊥
      never x y l e = omega arith
  at_order Ordering.eq c f = go (q % 2) refl
    where
      fine : (x y : ℕ) → x ≡ y → x ≤ y
      fine x y e = omega arith

      fine' : (x y : ℕ) → x ≡ y → y ≤ x
      fine' x y e = omega arith

      go : (p : ℕ) → q % 2 ≡ p → NearestTo n den (min infinity (k * 2 ^ 52 + (q + q % 2)))
      go zero z =
          let e : min infinity (k * 2 ^ 52 + (q + q % 2)) ≡ k * 2 ^ 52 + q = omega arith in
          subst (NearestTo n den) (sym e)
          (near_down n den (k * 2 ^ 52 + q) r (den * 2 ^ k) dp lo next rl f (fine (r * 2) (den * 2 ^ k) c) (λ t. even_sum k q z))
      go (suc p) z =
          let e : min infinity (k * 2 ^ 52 + (q + q % 2)) ≡ suc (k * 2 ^ 52 + q) = omega arith in
          let o : suc (k * 2 ^ 52 + q) % 2 ≡ 0 = omega arith in
          subst (NearestTo n den) (sym e)
          (near_up n den (k * 2 ^ 52 + q) r (den * 2 ^ k) dp lo next rl f (fine' (r * 2) (den * 2 ^ k) c) (λ t. o))
  at_order Ordering.gt c f =
      let e : min infinity (k * 2 ^ 52 + suc q) ≡ suc (k * 2 ^ 52 + q) = omega arith in
      subst (NearestTo n den) (sym e)
      (near_up n den (k * 2 ^ 52 + q) r (den * 2 ^ k) dp lo next rl f (le_of_lt c) (λ t. absurd (never (r * 2) (den * 2 ^ k) c t)))
    where
      never : (x y : ℕ) → y < x → x ≡ y → ⊥
      never x y l e = omega arith

  -- what q is rounded to is not below q
  nearest_ge : (o : Ordering) → q ≤ nearest q o
  nearest_ge Ordering.lt = omega arith
  nearest_ge Ordering.eq = omega arith
  nearest_ge Ordering.gt = omega arith

  -- n is q times den * 2 ^ k with r left over: how twice r compares with that divisor decides which pattern is the nearest
  pub digits_nearest : NearestTo n den (min infinity (k * 2 ^ 52 + nearest q (compare (r * 2) (den * 2 ^ k))))
  digits_nearest = go (dec_lt (k * 2 ^ 52 + q) infinity)
    where
      up_to : (x y z : ℕ) → x * den ≤ y * den → y * den + r ≡ z → x * den ≤ z
      up_to x y z l e = omega arith

      go : Dec (k * 2 ^ 52 + q < infinity) → NearestTo n den (min infinity (k * 2 ^ 52 + nearest q (compare (r * 2) (den * 2 ^ k))))
      go (yes l) = at_order (compare (r * 2) (den * 2 ^ k)) (cmp (r * 2) (den * 2 ^ k)) l
      go (no h) =
          let g : q ≤ nearest q (compare (r * 2) (den * 2 ^ k)) = nearest_ge (compare (r * 2) (den * 2 ^ k)) in
          let i : infinity ≤ k * 2 ^ 52 + q = omega arith in
          let e : min infinity (k * 2 ^ 52 + nearest q (compare (r * 2) (den * 2 ^ k))) ≡ infinity = omega arith in
          subst (NearestTo n den) (sym e)
          (past n den (up_to (pattern_units infinity) (pattern_units (k * 2 ^ 52 + q)) n (mul-le-mul_right den (units_le infinity (k * 2 ^ 52 + q) i)) lo))

-- ---- the digits that `near` keeps
-- of z digits, more than 53, those that are dropped and 52 more are fewer than z
spare : (z : ℕ) → 0 < z - 53 → 52 + (z - 53) < z
spare z h = omega arith

-- where digits of w are dropped, so that 53 are left, the leading one is kept
pub lead_kept : (w : ℕ) → (size w - 53 ≡ 0) ⊎ (2 ^ 52 ≤ w / 2 ^ (size w - 53))
lead_kept w = go (eq-zero-or-pos (size w - 53))
  where
    go : (size w - 53 ≡ 0) ⊎ (0 < size w - 53) → (size w - 53 ≡ 0) ⊎ (2 ^ 52 ≤ w / 2 ^ (size w - 53))
    go (inl z) = inl z
    go (inr p) =
        inr
        ((le-div_iff_mul-le (pow_pos (size w - 53))).1
        (subst (λ (x : ℕ). x ≤ w) (pow-add 2 52 (size w - 53)) (size_reaches w (52 + (size w - 53)) (spare (size w) p))))
