-- What the steps on the room keep true: division and multiplication by powers of five, one digit more, a number moved up, digits read.
-- Laws for the proofs; no promise names them. Assumes nothing.
use Rattle.std.specs.Prelude.{ℕ, zero, suc, ◌+◌, ◌*◌, ◌-◌, ◌/◌, ◌%◌, ◌^◌, ◌≤◌, ◌<◌, ◌≡◌, refl, Bool, true, false, not, ◌||◌, ◌&&◌, List, [], ◌∷◌, ◌++◌, ltb, eqb, length, take, drop, get_or, set}
use Rattle.std.proofs.Common.{sym, ◌∙◌, ap, subst, le_antisymm, mul_assoc, mul_comm, mul-le-mul_right, mul-pos, pow-suc, div-add-mod', add-one, arith, lt-ltb, eqb-true, pow-add, shl_exact, length-set, length-append, length-drop, length-take-le, take-suc-set, take_at, drop-cons}
use Rattle.std.proofs.Math.Nat.{pow-le-pow_right}
use Rattle.std.proofs.Math.Decide.{dec_lt}
use Rattle.std.proofs.lemmas.Bool.{eqb-false}
use Rattle.std.proofs.Math.Dec.{eqb-suc-zero}
use Rattle.std.proofs.Math.Arith.{lt_of_le-ne}
use Rattle.common.specs.Tests.{bounds}
use Rattle.record.specs.Byte.{digit}
use Rattle.limbs.specs.Worth.{worth}
use Rattle.limbs.specs.Worth as limbs
use Rattle.limbs.specs.Laws.{power_more, worth_append, worth_one, worth_split}
use Rattle.long_reals.specs.Digits.{digits_in, ReadAt, LeadsNonzero, leads}
use Rattle.long_reals.specs.Number.{number_in}
use Rattle.long_reals.specs.DigitsRight.{digit_le, number_next, number_past, digits_first, digits_past, digits_end}
use Rattle.long_reals.specs.RoomFraction.{Lowered}

-- ---- division
-- before the first division: n by 1 is n, and nothing is left
pub lowered_starts : (n : ℕ) → Lowered n 1 n false
lowered_starts n = record { rest = 0; whole = omega arith; below = omega arith; left = refl }

-- something is left of the whole just where it is left of an earlier division or of this one
told_left : (r d rest : ℕ) (more : Bool) → 0 < d → more ≡ ltb 0 rest → (more || not (eqb r 0)) ≡ ltb 0 (r * d + rest)
told_left zero d rest more p e = both more ∙ e ∙ ap (ltb 0) z
  where
    both : (b : Bool) → (b || false) ≡ b
    both true = refl
    both false = refl

    z : rest ≡ 0 * d + rest
    z = omega arith
told_left (suc r) d rest more p e = ap (λ (t : Bool). more || not t) (eqb-suc-zero r) ∙ both more ∙ sym (lt-ltb 0 (suc r * d + rest) (put (suc r * d) (mul-pos s p)))
  where
    s : 0 < suc r
    s = omega arith

    put : (x : ℕ) → 0 < x → 0 < x + rest
    put x h = omega arith

    both : (b : Bool) → (b || true) ≡ true
    both true = refl
    both false = refl

-- a quotient divided on, ⌊⌊a/b⌋/c⌋ = ⌊a/(b·c)⌋; the whole rest is 0 just where each one is
pub lowered_more : (n d q e p r : ℕ) (more : Bool) → Lowered n d q more → p * e + r ≡ q → r < e → Lowered n (d * e) p (more || not (eqb r 0))
lowered_more n d q e p r more l w h = record {
  rest = r * d + l.rest;
  whole = put l.rest w l.whole;
  below = less l.rest l.below (mul-le-mul_right d h);
  left = told_left r d l.rest more (some l.rest l.below) l.left;
}
  where
    put : (x : ℕ) → p * e + r ≡ q → q * d + x ≡ n → p * (d * e) + (r * d + x) ≡ n
    put x a b = let c : (p * e + r) * d + x ≡ n = rw a b in omega arith

    less : (x : ℕ) → x < d → suc r * d ≤ e * d → r * d + x < d * e
    less x a b = omega arith

    some : (x : ℕ) → x < d → 0 < d
    some x a = omega arith

-- two powers of one number multiplied
pub powers_joined : (b i j k : ℕ) → i + j ≡ k → b ^ i * b ^ j ≡ b ^ k
powers_joined b i j k e = sym (pow-add b i j) ∙ ap (λ (n : ℕ). b ^ n) e

-- ---- one digit more
-- one more digit above: the lower ones multiplied and added to, and what no longer fits put above them
pub pushed : (xs : List ℕ) (used by add : ℕ) (ys : List ℕ) (c : ℕ) → used < length xs → limbs.Scaled (take used xs) by add ys c
    → worth (take (used + 1) (set (ys ++ drop used xs) used c)) ≡ worth (take used xs) * by + add
pushed xs used by add ys c h s =
    let n = length-take-le used xs (omega arith) in
    let l : length ys ≡ used = s.same ∙ n in
    let w : used < length (ys ++ drop used xs) = simp (length-append, length-drop) (omega arith) in
    ap (λ (k : ℕ). worth (take k (set (ys ++ drop used xs) used c))) (add-one used)
    ∙ ap worth (take-suc-set (ys ++ drop used xs) used c w)
    ∙ ap (λ (z : List ℕ). worth (z ++ (c ∷ []))) (take_at ys (drop used xs) used l)
    ∙ worth_append ys (c ∷ [])
    ∙ ap (λ (k : ℕ). worth ys + 2 ^ (32 * length ys) * k) (worth_one c)
    ∙ ap (λ (k : ℕ). worth ys + 2 ^ (32 * k) * c) l
    ∙ ap (λ (k : ℕ). worth ys + k) (mul_comm (2 ^ (32 * used)) c)
    ∙ ap (λ (k : ℕ). worth ys + c * 2 ^ (32 * k)) (sym n)
    ∙ s.whole

-- ---- a number moved up
-- where a number is 0, so are its lower n digits
pub take_none : (n : ℕ) (xs : List ℕ) → n ≤ length xs → worth xs ≡ 0 → worth (take n xs) ≡ 0
take_none n xs h e = let s = worth_split n xs h in put (2 ^ (32 * n) * worth (drop n xs)) (sym e ∙ s)
  where
    put : (x : ℕ) → 0 ≡ worth (take n xs) + x → worth (take n xs) ≡ 0
    put x f = omega arith

-- m put in two digits above c that are 0 is m moved up by c digits
pub put_in_lem : (xs : List ℕ) (c m : ℕ) → worth xs ≡ 0 → c + 2 ≤ length xs
    → worth (take (c + 2) (set (set xs c (m % 4294967296)) (c + 1) (m / 4294967296))) ≡ m * 2 ^ (32 * c)
put_in_lem xs c m z h =
    let lo = m % 4294967296 in
    let hi = m / 4294967296 in
    let one = set xs c lo in
    let e : c + 2 ≡ suc (suc c) = omega arith in
    let f : c + 1 ≡ suc c = omega arith in
    let a = length-set xs c lo in
    let n : suc c < length one = omega arith in
    let t = take_none c xs (omega arith) z in
    ap (λ (k : ℕ). worth (take k (set one (c + 1) hi))) e
    ∙ ap (λ (k : ℕ). worth (take (suc (suc c)) (set one k hi))) f
    ∙ ap worth (take-suc-set one (suc c) hi n)
    ∙ worth_append (take (suc c) one) (hi ∷ [])
    ∙ ap (λ (k : ℕ). worth (take (suc c) one) + 2 ^ (32 * length (take (suc c) one)) * k) (worth_one hi)
    ∙ ap (λ (k : ℕ). worth (take (suc c) one) + 2 ^ (32 * k) * hi) (length-take-le (suc c) one (omega arith))
    ∙ ap (λ (l : List ℕ). worth l + 2 ^ (32 * suc c) * hi) (take-suc-set xs c lo (omega arith))
    ∙ ap (λ (k : ℕ). k + 2 ^ (32 * suc c) * hi) (worth_append (take c xs) (lo ∷ []))
    ∙ ap (λ (k : ℕ). worth (take c xs) + 2 ^ (32 * length (take c xs)) * k + 2 ^ (32 * suc c) * hi) (worth_one lo)
    ∙ ap (λ (k : ℕ). worth (take c xs) + 2 ^ (32 * k) * lo + 2 ^ (32 * suc c) * hi) (length-take-le c xs (omega arith))
    ∙ ap (λ (k : ℕ). k + 2 ^ (32 * c) * lo + 2 ^ (32 * suc c) * hi) t
    ∙ parts (2 ^ (32 * c)) (2 ^ (32 * suc c)) lo hi (power_more c) (div-add-mod' m 4294967296)
  where
    parts : (p q lo hi : ℕ) → q ≡ 4294967296 * p → hi * 4294967296 + lo ≡ m → 0 + p * lo + q * hi ≡ m * p
    parts p q lo hi e f = rw (e, ← f) (omega arith)

-- a number moved up by s: by whole digits of 32, and by what is left of s, as the code shifts
pub moved_up : (s n w v : ℕ) → w ≡ n * 2 ^ (32 * (s / 32)) → v ≡ w * (1 * 2 ^ (s % 32) % 4294967296) + 0 → v ≡ n * 2 ^ s
moved_up s n w v e f =
    f
    ∙ ap (λ (k : ℕ). w * k + 0) (shl_exact {a = 1} 1 (s % 32) 32 (omega arith) (omega arith))
    ∙ put w (2 ^ (s % 32))
    ∙ ap (λ (k : ℕ). k * 2 ^ (s % 32)) e
    ∙ mul_assoc n (2 ^ (32 * (s / 32))) (2 ^ (s % 32))
    ∙ ap (λ (k : ℕ). n * k) (powers_joined 2 (32 * (s / 32)) (s % 32) s (omega arith))
  where
    put : (a b : ℕ) → a * (1 * b) + 0 ≡ a * b
    put a b = omega arith

-- ---- digits read
-- what is read of count digits: 9 for each digit of the room, and `held`, of p digits, which is not in the room yet
pub record DigitsReading (t : List ℕ) (from count : ℕ) (a : List ℕ) (used held weight left i : ℕ) : Type 0 where
  pub p : ℕ
  pub within : i ≤ length t
  pub power : weight ≡ 10 ^ p
  pub short : p ≤ 8
  pub steps : 9 * used + p + left ≡ count
  pub small : held < weight
  pub value : number_in (worth (take used a) * weight + held) (drop i t) ≡ number_in 0 (drop from t)
  pub rest : digits_in (drop i t) + count ≡ digits_in (drop from t) + left

-- before the first digit is read
pub digits_reading_starts : (t : List ℕ) (from count : ℕ) (a : List ℕ) → from ≤ length t → DigitsReading t from count a 0 0 1 count from
unfolding worth
digits_reading_starts t from count a h = record {
  p = 0;
  within = h;
  power = refl;
  short = omega arith;
  steps = omega arith;
  small = omega arith;
  value = refl;
  rest = refl;
}

-- the weight of the digits that are held is 10 ^ 8 at most
pub weight_le : (t : List ℕ) (from count : ℕ) (a : List ℕ) (used held weight left i : ℕ) → DigitsReading t from count a used held weight left i → weight ≤ 100000000
weight_le t from count a used held weight left i r = subst (λ (n : ℕ). n ≤ 100000000) (sym r.power) (pow-le-pow_right {n = 10} (omega arith) {i = r.p} {j = 8} r.short)

-- a byte that is no digit is passed over
pub digits_reading_past : (t : List ℕ) (from count : ℕ) (a : List ℕ) (used held weight left i : ℕ) → i < length t → digit (get_or t i 0) ≡ false → DigitsReading t from count a used held weight left i → DigitsReading t from count a used held weight left (i + 1)
digits_reading_past t from count a used held weight left i h e r =
    let d : drop i t ≡ get_or t i 0 ∷ drop (suc i) t = drop-cons t i 0 h in
    rw add-one (record {
      p = r.p;
      within = h;
      power = r.power;
      short = r.short;
      steps = r.steps;
      small = r.small;
      value = sym (ap (number_in (worth (take used a) * weight + held)) d ∙ number_past (worth (take used a) * weight + held) (get_or t i 0) (drop (suc i) t) e) ∙ r.value;
      rest = ap (λ (n : ℕ). n + count) (sym (ap digits_in d ∙ digits_past (get_or t i 0) (drop (suc i) t) e)) ∙ r.rest;
    })

-- a digit is read: its value, and that one fewer is left
module _ (t : List ℕ) (from count : ℕ) (a : List ℕ) (used held weight left i : ℕ) (h : i < length t) (e : digit (get_or t i 0) ≡ true) (r : DigitsReading t from count a used held weight left i) where
  -- the byte at i, which is a digit
  abbrev byte : ℕ
  byte = get_or t i 0

  -- the number of what is read, with the digit at i held
  value_on : number_in (worth (take used a) * (weight * 10) + (held * 10 + (byte - 48))) (drop (suc i) t) ≡ number_in 0 (drop from t)
  value_on =
      ap (λ (n : ℕ). number_in n (drop (suc i) t)) (put (worth (take used a)) (byte - 48))
      ∙ sym (number_next (worth (take used a) * weight + held) byte (drop (suc i) t) e)
      ∙ ap (number_in (worth (take used a) * weight + held)) (sym (drop-cons t i 0 h))
      ∙ r.value
    where
      put : (w d : ℕ) → w * (weight * 10) + (held * 10 + d) ≡ (w * weight + held) * 10 + d
      put w d = omega arith

  -- how many digits follow the one at i
  rest_on : 0 < left → digits_in (drop (suc i) t) + count ≡ digits_in (drop from t) + (left - 1)
  rest_on l = let d : digits_in (drop i t) ≡ suc (digits_in (drop (suc i) t)) = ap digits_in (drop-cons t i 0 h) ∙ digits_first byte (drop (suc i) t) e in let q = r.rest in omega arith

  -- the weight of one digit more is ten times as much
  power_on : weight * 10 ≡ 10 ^ suc r.p
  power_on = ap (λ (n : ℕ). n * 10) r.power ∙ sym (pow-suc 10 r.p)

  -- what is held with the digit at i is still below its weight
  pub held_on : held * 10 + (byte - 48) < weight * 10
  held_on = let d = digit_le byte e in let s = r.small in omega arith

  -- a digit is held, and there is room to hold more
  pub digits_reading_digit : 0 < left → (weight * 10 ≡ 1000000000 → ⊥) → DigitsReading t from count a used (held * 10 + (byte - 48)) (weight * 10) (left - 1) (i + 1)
  digits_reading_digit l n = let k = r.steps in rw add-one (record {
    p = suc r.p;
    within = h;
    power = power_on;
    short = few r.p r.short (λ (f : r.p ≡ 8). n (power_on ∙ ap (λ (x : ℕ). 10 ^ suc x) f));
    steps = omega arith;
    small = held_on;
    value = value_on;
    rest = rest_on l;
  })
    where
      few : (p : ℕ) → p ≤ 8 → (p ≡ 8 → ⊥) → suc p ≤ 8
      few p s f = go (dec_lt p 8)
        where
          go : Dec (p < 8) → suc p ≤ 8
          go (yes l) = l
          go (no k) = absurd (f (omega arith))

  -- nine digits are held: they are put in as one more digit of the room
  pub digits_reading_full : (b : List ℕ) → 0 < left → weight * 10 ≡ 1000000000 → worth (take (used + 1) b) ≡ worth (take used a) * (weight * 10) + (held * 10 + (byte - 48)) → DigitsReading t from count b (used + 1) 0 1 (left - 1) (i + 1)
  digits_reading_full b l n w = let k = r.steps in let f = nine r.p r.short (sym power_on ∙ n) in rw (add-one i) (record {
    p = 0;
    within = h;
    power = refl;
    short = omega arith;
    steps = omega arith;
    small = omega arith;
    value = ap (λ (x : ℕ). number_in x (drop (suc i) t)) (put (worth (take (used + 1) b)) ∙ w) ∙ value_on;
    rest = rest_on l;
  })
    where
      put : (x : ℕ) → x * 1 + 0 ≡ x
      put x = omega arith

      nine : (p : ℕ) → p ≤ 8 → 10 ^ suc p ≡ 1000000000 → p ≡ 8
      nine p s f = go (dec_lt p 8)
        where
          go : Dec (p < 8) → p ≡ 8
          go (yes l) = let m : 10 ^ suc p ≤ 100000000 = pow-le-pow_right {n = 10} (omega arith) {i = suc p} {j = 8} l in absurd (omega arith)
          go (no k) = omega arith

-- what is read, of equal numbers, is the same
pub digits_reading_same : {t : List ℕ} {from count : ℕ} {a b : List ℕ} {u v g h w x l m i : ℕ} → a ≡ b → u ≡ v → g ≡ h → w ≡ x → l ≡ m → DigitsReading t from count b v h x m i → DigitsReading t from count a u g w l i
digits_reading_same {t} {from} {count} {a} {b} {u} {v} {g} {h} {w} {x} {l} {m} {i} p q e f d r =
    subst (λ (z : List ℕ). DigitsReading t from count z u g w l i) (sym p)
    (subst (λ (z : ℕ). DigitsReading t from count b z g w l i) (sym q)
    (subst (λ (z : ℕ). DigitsReading t from count b v z w l i) (sym e)
    (subst (λ (z : ℕ). DigitsReading t from count b v h z l i) (sym f)
    (subst (λ (z : ℕ). DigitsReading t from count b v h x z i) (sym d) r))))

-- after the last digit: what is held is put in as one more digit of the room
pub digits_reading_ends : (t : List ℕ) (from count : ℕ) (a : List ℕ) (used held weight left i : ℕ) (b : List ℕ) → count ≤ digits_in (drop from t) → (0 < left → length t ≤ i) → worth (take (used + 1) b) ≡ worth (take used a) * weight + held → DigitsReading t from count a used held weight left i → ReadAt t from count b (record { used = used + 1; next = i })
digits_reading_ends t from count a used held weight left i b h o w r =
    let z : left ≡ 0 = none (dec_lt 0 left) in
    let k = r.steps in
    let q = r.rest in
    record {
      few = omega arith;
      some = omega arith;
      within = r.within;
      value = ap (λ (n : ℕ). number_in n (drop i t)) w ∙ r.value;
      rest = omega arith;
    }
  where
    none : Dec (0 < left) → left ≡ 0
    none (yes l) =
        let e : i ≡ length t = le_antisymm r.within (o l) in
        let d = digits_end t i e in
        let q = r.rest in
        absurd (omega arith)
    none (no k) = omega arith

-- ---- the first digit
-- where a search for the first digit passes a byte that is no digit, or is `0`, the number stays
pub first_past : (t : List ℕ) (i : ℕ) → i < length t → (digit (get_or t i 0) && not (eqb (get_or t i 0) 48)) ≡ false → number_in 0 (drop (i + 1) t) ≡ number_in 0 (drop i t)
first_past t i h e =
    let c = get_or t i 0 in
    ap (λ (k : ℕ). number_in 0 (drop k t)) (add-one i) ∙ go (digit c) (eqb c 48) refl (eqb-true c 48) e ∙ ap (number_in 0) (sym (drop-cons t i 0 h))
  where
    never : true ≡ false → ⊥
    never z = let y : ◌≡◌ {A = ℕ} 0 1 = cc in omega arith

    go : (a b : Bool) → digit (get_or t i 0) ≡ a → (b ≡ true → get_or t i 0 ≡ 48) → (a && not b) ≡ false → number_in 0 (drop (suc i) t) ≡ number_in 0 (get_or t i 0 ∷ drop (suc i) t)
    go false b d f g = sym (number_past 0 (get_or t i 0) (drop (suc i) t) d)
    go true true d f g = let q = f refl in let z : 0 ≡ 0 * 10 + (get_or t i 0 - 48) = omega arith in ap (λ (n : ℕ). number_in n (drop (suc i) t)) z ∙ sym (number_next 0 (get_or t i 0) (drop (suc i) t) d)
    go true false d f g = let z : true ≡ false = g in absurd (never z)

-- a digit that is not `0` leads the text from its place on
pub first_leads : (t : List ℕ) (i : ℕ) → i < length t → (digit (get_or t i 0) && not (eqb (get_or t i 0) 48)) ≡ true → LeadsNonzero (drop i t)
first_leads t i h e = subst LeadsNonzero (sym (drop-cons t i 0 h)) (go (digit (get_or t i 0)) (eqb (get_or t i 0) 48) refl (eqb-false (get_or t i 0) 48) e)
  where
    never : false ≡ true → ⊥
    never z = let y : ◌≡◌ {A = ℕ} 0 1 = cc in omega arith

    go : (a b : Bool) → digit (get_or t i 0) ≡ a → (b ≡ false → get_or t i 0 ≡ 48 → ⊥) → (a && not b) ≡ true → LeadsNonzero (get_or t i 0 ∷ drop (suc i) t)
    go true false d f g = let b = bounds 48 (get_or t i 0) 57 d in leads (get_or t i 0) (drop (suc i) t) d (lt_of_le-ne b.0 (λ (q : 48 ≡ get_or t i 0). f refl (sym q)))
    go true true d f g = let z : false ≡ true = g in absurd (never z)
    go false b d f g = absurd (never g)
