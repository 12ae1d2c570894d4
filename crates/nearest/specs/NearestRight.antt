-- There is one nearest pattern. Assumes nothing.
use Rattle.std.specs.Prelude.{ℕ, suc, ◌*◌, ◌%◌, ◌≤◌, ◌<◌, ◌≡◌}
use Rattle.std.proofs.Common.{sym, mul-lt-mul_of_pos_right, arith}
use Rattle.std.proofs.Math.Decide.{dec_lt}
use Rattle.nearest.specs.PatternUnits.{pattern_units, infinity, distance_of}
use Rattle.nearest.specs.PatternUnitsLaws.{units_lt}
use Rattle.nearest.specs.Nearest.{NearestTo}

-- where a and b are equally far from n, a number between a and b is closer to n
between : (a b m n : ℕ) → a < m → m < b → distance_of a n ≡ distance_of b n → distance_of a n ≤ distance_of m n → ⊥
between a b m n h k e l = omega arith

-- two different even numbers have a number between them
two_apart : (b c : ℕ) → b % 2 ≡ 0 → c % 2 ≡ 0 → b < c → suc b < c
two_apart b c e f l = omega arith

module _ (n den : ℕ) (dp : 0 < den) where
  -- of two different patterns one is not the nearest to n / den units
  no_two : (b c : ℕ) → NearestTo n den b → NearestTo n den c → b < c → ⊥
  no_two b c p q l =
      let x : distance_of (pattern_units b * den) n ≤ distance_of (pattern_units c * den) n = p.closest c q.pattern in
      let y : distance_of (pattern_units c * den) n ≤ distance_of (pattern_units b * den) n = q.closest b p.pattern in
      let e : distance_of (pattern_units b * den) n ≡ distance_of (pattern_units c * den) n = same (distance_of (pattern_units b * den) n) (distance_of (pattern_units c * den) n) x y in
      let o : b % 2 ≡ 0 = p.even c q.pattern (apart b c l) (sym e) in
      let w : c % 2 ≡ 0 = q.even b p.pattern (apart' b c l) e in
      let m : suc b < c = two_apart b c o w l in
      let ci : c ≤ infinity = q.pattern in
      let s : suc b ≤ infinity = under b c m ci in
      between (pattern_units b * den) (pattern_units c * den) (pattern_units (suc b) * den) n
      (mul-lt-mul_of_pos_right (units_lt b (suc b) (below b)) dp)
      (mul-lt-mul_of_pos_right (units_lt (suc b) c m) dp)
      e
      (p.closest (suc b) s)
    where
      same : (x y : ℕ) → x ≤ y → y ≤ x → x ≡ y
      same x y a b = omega arith

      apart : (b c : ℕ) → b < c → c ≡ b → ⊥
      apart b c l e = omega arith

      apart' : (b c : ℕ) → b < c → b ≡ c → ⊥
      apart' b c l e = omega arith

      under : (b c : ℕ) → suc b < c → c ≤ infinity → suc b ≤ infinity
      under b c l k = omega arith

      below : (b : ℕ) → b < suc b
      below b = omega arith

  -- there is one pattern nearest to n / den units
  pub nearest_only : (b c : ℕ) → NearestTo n den b → NearestTo n den c → b ≡ c
  nearest_only b c p q = go (dec_lt b c) (dec_lt c b)
    where
      go : Dec (b < c) → Dec (c < b) → b ≡ c
      go (yes l) d = absurd (no_two b c p q l)
      go (no k) (yes l) = absurd (no_two c b q p l)
      go (no k) (no l) = omega arith
