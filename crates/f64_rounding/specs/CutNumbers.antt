-- A number cut below its leading binary digits: what is kept, and whether anything is left below. That is all that rounding needs. Assumes nothing.
use Prim.Native.Nat.{ℕ, suc, ◌+◌, ◌-◌, ◌*◌, ◌%◌, ◌^◌, ◌≤◌, ◌<◌, min, compare, Ordering}
use Rattle.std.specs.Prelude.{◌≡◌, Bool, true, false, ◌||◌, leb, ltb}
use Rattle.std.proofs.Math.Path.{sym, ap, subst}
use Rattle.std.proofs.Common.{◌∙◌, mul_assoc, mul_right_comm, one-mul, ltb-true, ltb-false, pow_pos, pow-add}
use Rattle.std.proofs.Math.Nat.{mul_comm, add-mul, add_assoc, mul-pos, mul-le-mul_right, suc-mul}
use Rattle.std.proofs.Math.Decide.{dec_lt}
use native.Mathlib.Omega.{arith}
use Rattle.std.specs.Int.Count.{count_leading_zeros}
use Rattle.std.specs.Float.Ieee.{nearest}
use Rattle.nearest.specs.PatternUnits.{infinity}
use Rattle.nearest.specs.Near.{near, Cmp, cmp}
use Rattle.nearest.specs.Scaled.{order_is}
use Rattle.nearest.proofs.Scaled.{near_scaled}
use Rattle.nearest.specs.Nearest.{signed}
use Rattle.f64_rounding.specs.Half.{half_order, against}

-- num / den is w times 2 ^ (x - 1074), and what is left over is less than one such unit; `more` says whether there is any. Powers of two are
-- multiplied out: `up` and `unit` are their exponents on the two sides, so that a unit is den * 2 ^ unit
pub record CutNumber (num den w : ℕ) (more : Bool) (x : ℕ) : Type 0 where
  pub up : ℕ
  pub unit : ℕ
  pub rest : ℕ
  pub scale : up ≤ 1074
  pub place : x + up ≡ unit + 1074
  pub divisor : 0 < den
  pub whole : w * (den * 2 ^ unit) + rest ≡ num * 2 ^ up
  pub below : rest < den * 2 ^ unit
  pub left : more ≡ ltb 0 rest

-- whatever number is cut to w, `more` and x as `CutNumber` says, its nearest f64 has the pattern b with its sign
abbrev pub RoundsTo : Bool → ℕ → Bool → ℕ → ℕ → Type 0
RoundsTo s w more x b = (num den : ℕ) → CutNumber num den w more x → b ≡ signed s (near num den)

-- num / den is w times 2 ^ (x - 1074) or more, and less than two such units above that; `up` and `unit` as in `CutNumber`
pub record WithinTwoUnits (num den w x : ℕ) : Type 0 where
  pub up : ℕ
  pub unit : ℕ
  pub scale : up ≤ 1074
  pub place : x + up ≡ unit + 1074
  pub divisor : 0 < den
  pub from : w * (den * 2 ^ unit) ≤ num * 2 ^ up
  pub to : num * 2 ^ up < (w + 2) * (den * 2 ^ unit)

-- rounding is sure: what is dropped, `low` of `unit`, is on one side of half a unit, and two more would not bring it to the other
abbrev pub sure : ℕ → ℕ → Bool
sure low unit = leb ((low + 2) * 2) unit || ltb unit (low * 2)

-- how many binary digits a w of 53 to 64 of them has beyond 53
abbrev pub digits_beyond53 : ℕ → ℕ
digits_beyond53 w = 11 - count_leading_zeros 64 w

-- where w's own digits leave no doubt: any number within two units above w, at x, has a nearest f64 of the pattern b with its sign
abbrev pub RoundsNear : Bool → ℕ → ℕ → ℕ → Type 0
RoundsNear s w x b = sure (w % 2 ^ digits_beyond53 w) (2 ^ digits_beyond53 w) ≡ true → (num den : ℕ) → WithinTwoUnits num den w x → b ≡ signed s (near num den)

-- ---- the law of what is cut
-- how `low` units and a rest below one unit compare with `half` units: by the two numbers, and by whether there is a rest
pub order_with_rest : (o : Ordering) (u low half rest : ℕ) (more : Bool) → 0 < u → rest < u → more ≡ ltb 0 rest → Cmp o (low * 2) (half * 2) → Cmp (half_order o more) ((low * u + rest) * 2) (u * (half * 2))
order_with_rest Ordering.lt u low half rest more up b l h =
    let s : suc low ≤ half = omega arith in
    let g : suc low * u ≤ half * u = mul-le-mul_right u s in
    let e : suc low * u ≡ low * u + u = suc-mul low u in
    less (low * u) (half * u) (u * (half * 2)) (sym (mul_assoc u half 2) ∙ ap (λ (n : ℕ). n * 2) (mul_comm u half)) (subst (λ (n : ℕ). n ≤ half * u) e g)
  where
    less : (a c d : ℕ) → d ≡ c * 2 → a + u ≤ c → (a + rest) * 2 < d
    less a c d e g = omega arith
order_with_rest Ordering.eq u low half rest true up b l h =
    let p : 0 < rest = ltb-true 0 rest (sym l) in
    let s : low ≡ half = omega arith in
    more (low * u) (u * (half * 2)) (sym (mul_assoc u half 2) ∙ ap (λ (n : ℕ). n * 2) (mul_comm u half ∙ ap (λ (n : ℕ). n * u) (sym s))) p
  where
    more : (a d : ℕ) → d ≡ a * 2 → 0 < rest → d < (a + rest) * 2
    more a d e p = omega arith
order_with_rest Ordering.eq u low half rest false up b l h =
    let p : rest ≤ 0 = ltb-false 0 rest (sym l) in
    let s : low ≡ half = omega arith in
    same (low * u) (u * (half * 2)) (sym (mul_assoc u half 2) ∙ ap (λ (n : ℕ). n * 2) (mul_comm u half ∙ ap (λ (n : ℕ). n * u) (sym s))) p
  where
    same : (a d : ℕ) → d ≡ a * 2 → rest ≤ 0 → (a + rest) * 2 ≡ d
    same a d e p = omega arith
order_with_rest Ordering.gt u low half rest more up b l h =
    let s : suc half ≤ low = omega arith in
    let g : suc half * u ≤ low * u = mul-le-mul_right u s in
    let e : suc half * u ≡ half * u + u = suc-mul half u in
    over (low * u) (half * u) (u * (half * 2)) (sym (mul_assoc u half 2) ∙ ap (λ (n : ℕ). n * 2) (mul_comm u half)) (subst (λ (n : ℕ). n ≤ low * u) e g)
  where
    over : (a c d : ℕ) → d ≡ c * 2 → c + u ≤ a → d < (a + rest) * 2
    over a c d e g = omega arith

module _ (num den w : ℕ) (more : Bool) (x : ℕ) (c : CutNumber num den w more x) (drop half q low : ℕ) (double : 2 ^ drop ≡ half * 2) (split : q * 2 ^ drop + low ≡ w) (within : low < 2 ^ drop) where
  -- one unit of a cut number, multiplied out
  u : ℕ
  u = den * 2 ^ c.unit

  -- the unit of a cut number is positive
  u_pos : 0 < u
  unfolding u
  u_pos = mul-pos c.divisor (pow_pos c.unit)

  -- the divisor of the digits kept is 2 ^ drop units
  units : den * 2 ^ (c.unit + drop) ≡ u * 2 ^ drop
  unfolding u
  units = ap (λ (n : ℕ). den * n) (pow-add 2 c.unit drop) ∙ sym (mul_assoc den (2 ^ c.unit) (2 ^ drop))

  -- the cut number is q times 2 ^ drop units, and what was dropped
  whole : q * (den * 2 ^ (c.unit + drop)) + (low * u + c.rest) ≡ num * 2 ^ c.up
  unfolding u
  whole =
      ap (λ (n : ℕ). q * n + (low * u + c.rest)) (units ∙ mul_comm u (2 ^ drop))
      ∙ ap (λ (n : ℕ). n + (low * u + c.rest)) (sym (mul_assoc q (2 ^ drop) u))
      ∙ sym (add_assoc (q * 2 ^ drop * u) (low * u) c.rest)
      ∙ ap (λ (n : ℕ). n + c.rest) (sym (add-mul (q * 2 ^ drop) low u) ∙ ap (λ (n : ℕ). n * u) split)
      ∙ c.whole

  -- what was dropped of the cut number is less than 2 ^ drop units
  short : low * u + c.rest < den * 2 ^ (c.unit + drop)
  unfolding u
  short =
      let g : suc low * u ≤ 2 ^ drop * u = mul-le-mul_right u within in
      let e : suc low * u ≡ low * u + u = suc-mul low u in
      subst (λ (n : ℕ). low * u + c.rest < n) (sym (units ∙ mul_comm u (2 ^ drop))) (less (low * u) (2 ^ drop * u) (subst (λ (n : ℕ). n ≤ 2 ^ drop * u) e g) c.below)
    where
      less : (a d : ℕ) → a + u ≤ d → c.rest < u → a + c.rest < d
      less a d g b = omega arith

  -- what was dropped compares with half of 2 ^ drop units as w's low digits and `more` say
  half_way : compare ((low * u + c.rest) * 2) (den * 2 ^ (c.unit + drop)) ≡ against low (2 ^ drop) more
  unfolding u
  half_way =
      let h : Cmp (compare (low * 2) (2 ^ drop)) (low * 2) (half * 2) = subst (λ (n : ℕ). Cmp (compare (low * 2) (2 ^ drop)) (low * 2) n) double (cmp (low * 2) (2 ^ drop)) in
      let g = order_with_rest (compare (low * 2) (2 ^ drop)) u low half c.rest more u_pos c.below c.left h in
      let e : u * (half * 2) ≡ den * 2 ^ (c.unit + drop) = ap (λ (n : ℕ). u * n) (sym double) ∙ sym units in
      order_is (compare ((low * u + c.rest) * 2) (den * 2 ^ (c.unit + drop))) (against low (2 ^ drop) more) ((low * u + c.rest) * 2) (den * 2 ^ (c.unit + drop)) (cmp ((low * u + c.rest) * 2) (den * 2 ^ (c.unit + drop))) (subst (λ (n : ℕ). Cmp (against low (2 ^ drop) more) ((low * u + c.rest) * 2) n) e g)

  -- 53 digits of w, what was dropped of it and `more` tell the nearest of a cut number
  pub near_cut : q < 2 ^ 53 → 2 ^ 52 ≤ q → near num den ≡ min infinity ((x + drop) * 2 ^ 52 + nearest q (against low (2 ^ drop) more))
  unfolding u
  near_cut l g =
      let s : c.up + (1074 - c.up) ≡ 1074 = let a = c.scale in omega arith in
      let p : c.unit + drop + (1074 - c.up) ≡ x + drop = let a = c.scale in let b = c.place in omega arith in
      near_scaled num den c.up (1074 - c.up) (c.unit + drop) q (low * u + c.rest) s c.divisor whole short l g
      ∙ ap (λ (n : ℕ). min infinity (n * 2 ^ 52 + nearest q (compare ((low * u + c.rest) * 2) (den * 2 ^ (c.unit + drop))))) p
      ∙ ap (λ (o : Ordering). min infinity ((x + drop) * 2 ^ 52 + nearest q o)) half_way

-- ---- the law of what is near above
module _ (num den w x : ℕ) (c : WithinTwoUnits num den w x) where
  -- one unit of a number near above w, multiplied out
  one : ℕ
  one = den * 2 ^ c.unit

  -- the unit of a number near above w is positive
  one_pos : 0 < one
  unfolding one
  one_pos = mul-pos c.divisor (pow_pos c.unit)

  -- the divisor of the digits kept is 2 ^ d units
  ones : (d : ℕ) → den * 2 ^ (c.unit + d) ≡ 2 ^ d * one
  unfolding one
  ones d = ap (λ (n : ℕ). den * n) (pow-add 2 c.unit d) ∙ sym (mul_assoc den (2 ^ c.unit) (2 ^ d)) ∙ mul_comm (den * 2 ^ c.unit) (2 ^ d)

  -- the number is q times 2 ^ d units, and r: how twice r compares with 2 ^ d units tells the nearest
  at_digits : (d q r : ℕ) (o : Ordering) → q * (2 ^ d * one) + r ≡ num * 2 ^ c.up → r < 2 ^ d * one → Cmp o (r * 2) (2 ^ d * one) → q < 2 ^ 53 → 2 ^ 52 ≤ q → near num den ≡ min infinity ((x + d) * 2 ^ 52 + nearest q o)
  at_digits d q r o e l h a b =
      let s : c.up + (1074 - c.up) ≡ 1074 = let z = c.scale in omega arith in
      let p : c.unit + d + (1074 - c.up) ≡ x + d = let z = c.scale in let y = c.place in omega arith in
      let u = den * 2 ^ (c.unit + d) in
      let f : q * u + r ≡ num * 2 ^ c.up = ap (λ (n : ℕ). q * n + r) (ones d) ∙ e in
      let k : r < u = subst (λ (n : ℕ). r < n) (sym (ones d)) l in
      let g : compare (r * 2) u ≡ o = order_is (compare (r * 2) u) o (r * 2) u (cmp (r * 2) u) (subst (λ (n : ℕ). Cmp o (r * 2) n) (sym (ones d)) h) in
      near_scaled num den c.up (1074 - c.up) (c.unit + d) q r s c.divisor f k a b
      ∙ ap (λ (n : ℕ). min infinity (n * 2 ^ 52 + nearest q (compare (r * 2) u))) p
      ∙ ap (λ (y : Ordering). min infinity ((x + d) * 2 ^ 52 + nearest q y)) g

  module _ (drop half q low : ℕ) (double : 2 ^ drop ≡ half * 2) (half_pos : 0 < half) (split : q * 2 ^ drop + low ≡ w) (within : low < 2 ^ drop) (few : q < 2 ^ 53) (lead : 2 ^ 52 ≤ q) where
    -- what the number near above w has over q times 2 ^ drop units
    over : ℕ
    over = num * 2 ^ c.up - q * (2 ^ drop * one)

    -- w in units is q times 2 ^ drop units and `low` units
    parts : w * one ≡ q * (2 ^ drop * one) + low * one
    parts = ap (λ (n : ℕ). n * one) (sym split) ∙ add-mul (q * 2 ^ drop) low one ∙ ap (λ (n : ℕ). n + low * one) (mul_assoc q (2 ^ drop) one)

    -- the number near above w is q times 2 ^ drop units and what it has over them
    whole_over : q * (2 ^ drop * one) + over ≡ num * 2 ^ c.up
    unfolding over one
    whole_over = back (q * (2 ^ drop * one)) (low * one) (num * 2 ^ c.up) (subst (λ (n : ℕ). n ≤ num * 2 ^ c.up) parts c.from)
      where
        back : (a b n : ℕ) → a + b ≤ n → a + (n - a) ≡ n
        back a b n h = omega arith

    -- what the number has over q times 2 ^ drop units is `low` units or more
    over_ge : low * one ≤ over
    unfolding over one
    over_ge = back (q * (2 ^ drop * one)) (low * one) (num * 2 ^ c.up) (subst (λ (n : ℕ). n ≤ num * 2 ^ c.up) parts c.from)
      where
        back : (a b n : ℕ) → a + b ≤ n → b ≤ n - a
        back a b n h = omega arith

    -- what the number has over q times 2 ^ drop units is less than `low` and two units
    over_lt : over < (low + 2) * one
    unfolding over one
    over_lt =
        let e : (w + 2) * one ≡ q * (2 ^ drop * one) + (low + 2) * one =
        add-mul w 2 one ∙ ap (λ (n : ℕ). n + 2 * one) parts ∙ add_assoc (q * (2 ^ drop * one)) (low * one) (2 * one) ∙ ap (λ (n : ℕ). q * (2 ^ drop * one) + n) (sym (add-mul low 2 one)) in
        back (q * (2 ^ drop * one)) ((low + 2) * one) (low * one) (num * 2 ^ c.up) (subst (λ (n : ℕ). num * 2 ^ c.up < n) e c.to) (subst (λ (n : ℕ). n ≤ num * 2 ^ c.up) parts c.from)
      where
        back : (a b d n : ℕ) → n < a + b → a + d ≤ n → n - a < b
        back a b d n h g = omega arith

    -- 2 ^ drop units are two times half of them
    by_halves : 2 ^ drop * one ≡ half * one * 2
    by_halves = ap (λ (n : ℕ). n * one) double ∙ mul_right_comm half 2 one

    -- where `low` and two more are half of 2 ^ drop at most, q is rounded down
    pub sure_down : low + 2 ≤ half → near num den ≡ min infinity ((x + drop) * 2 ^ 52 + q)
    sure_down h =
        let g : (low + 2) * one ≤ half * one = mul-le-mul_right one h in
        let l = over_lt in
        let k : over * 2 < 2 ^ drop * one = less over ((low + 2) * one) (half * one) (2 ^ drop * one) by_halves g l in
        at_digits drop q over Ordering.lt whole_over (half_less over (2 ^ drop * one) k) k few lead
      where
        less : (a b d e : ℕ) → e ≡ d * 2 → b ≤ d → a < b → a * 2 < e
        less a b d e f g l = omega arith

        half_less : (a b : ℕ) → a * 2 < b → a < b
        half_less a b h = omega arith

    -- where `low` is past half of 2 ^ drop, q is rounded up, also where two more units bring the number to the next digit
    pub sure_up : half < low → near num den ≡ min infinity ((x + drop) * 2 ^ 52 + suc q)
    sure_up h = go (dec_lt over (2 ^ drop * one))
      where
        -- the number is q + 1 times 2 ^ drop units or a little more, q + 1 having 53 digits or being the first of 54: q + 1 is the nearest
        next : (r : ℕ) → suc q * (2 ^ drop * one) + r ≡ num * 2 ^ c.up → r < one → Dec (suc q < 2 ^ 53) → near num den ≡ min infinity ((x + drop) * 2 ^ 52 + suc q)
        next r e l (yes f) =
            let g : one ≤ half * one = subst (λ (n : ℕ). n ≤ half * one) (one-mul one) (mul-le-mul_right one half_pos) in
            let k : r * 2 < 2 ^ drop * one = less r (half * one) (2 ^ drop * one) by_halves g l in
            at_digits drop (suc q) r Ordering.lt e (half_less r (2 ^ drop * one) k) k f (omega arith)
          where
            less : (a d e : ℕ) → e ≡ d * 2 → one ≤ d → a < one → a * 2 < e
            less a d e f g l = omega arith

            half_less : (a b : ℕ) → a * 2 < b → a < b
            half_less a b h = omega arith
        next r e l (no n) =
            let t : suc q ≡ 2 ^ 52 * 2 = omega arith in
            let d : 2 ^ (drop + 1) * one ≡ 2 * (2 ^ drop * one) = ap (λ (n : ℕ). n * one) (pow-add 2 drop 1 ∙ mul_comm (2 ^ drop) (2 ^ 1)) ∙ mul_assoc 2 (2 ^ drop) one in
            let f : 2 ^ 52 * (2 ^ (drop + 1) * one) + r ≡ num * 2 ^ c.up = ap (λ (n : ℕ). 2 ^ 52 * n + r) d ∙ ap (λ (n : ℕ). n + r) (sym (mul_assoc (2 ^ 52) 2 (2 ^ drop * one)) ∙ ap (λ (n : ℕ). n * (2 ^ drop * one)) (sym t)) ∙ e in
            let g : one ≤ half * one = subst (λ (n : ℕ). n ≤ half * one) (one-mul one) (mul-le-mul_right one half_pos) in
            let k : r * 2 < 2 ^ (drop + 1) * one = less r (half * one) (2 ^ drop * one) (2 ^ (drop + 1) * one) by_halves d g l in
            at_digits (drop + 1) (2 ^ 52) r Ordering.lt f (half_less r (2 ^ (drop + 1) * one) k) k (omega arith) (omega arith)
            ∙ ap (min infinity) (carried (x + drop) t)
          where
            less : (a d e g : ℕ) → e ≡ d * 2 → g ≡ 2 * e → one ≤ d → a < one → a * 2 < g
            less a d e g f h i l = omega arith

            half_less : (a b : ℕ) → a * 2 < b → a < b
            half_less a b h = omega arith

            carried : (y : ℕ) → suc q ≡ 2 ^ 52 * 2 → (x + (drop + 1)) * 2 ^ 52 + 2 ^ 52 ≡ (x + drop) * 2 ^ 52 + suc q
            carried y t = omega arith

        go : Dec (over < 2 ^ drop * one) → near num den ≡ min infinity ((x + drop) * 2 ^ 52 + suc q)
        go (yes l) =
            let g : suc half * one ≤ low * one = mul-le-mul_right one h in
            let e : suc half * one ≡ half * one + one = suc-mul half one in
            at_digits drop q over Ordering.gt whole_over l (more over (half * one) (low * one) (2 ^ drop * one) by_halves (subst (λ (n : ℕ). n ≤ low * one) e g) over_ge one_pos) few lead
          where
            more : (a d b e : ℕ) → e ≡ d * 2 → d + one ≤ b → b ≤ a → 0 < one → e < a * 2
            more a d b e f g l p = omega arith
        go (no n) =
            let r = over - 2 ^ drop * one in
            let a : (low + 2) * one ≤ suc (2 ^ drop) * one = mul-le-mul_right {m = low + 2} {n = suc (2 ^ drop)} one (omega arith) in
            let b : suc (2 ^ drop) * one ≡ 2 ^ drop * one + one = suc-mul (2 ^ drop) one in
            let e : suc q * (2 ^ drop * one) + r ≡ num * 2 ^ c.up = ap (λ (n : ℕ). n + r) (suc-mul q (2 ^ drop * one)) ∙ put (q * (2 ^ drop * one)) (2 ^ drop * one) over n ∙ whole_over in
            next r e (rest over (2 ^ drop * one) ((low + 2) * one) (suc (2 ^ drop) * one) b a over_lt n) (dec_lt (suc q) (2 ^ 53))
          where
            put : (a b o : ℕ) → (o < b → ⊥) → a + b + (o - b) ≡ a + o
            put a b o n = omega arith

            rest : (o b l s : ℕ) → s ≡ b + one → l ≤ s → o < l → (o < b → ⊥) → o - b < one
            rest o b l s e f g n = omega arith
