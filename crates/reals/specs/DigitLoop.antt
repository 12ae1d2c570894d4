-- The laws by which the code's loop over digits goes, at an index of the whole text. Assumes nothing.
use Prim.Native.Nat.{ℕ, suc, ◌+◌, ◌*◌, ◌-◌, ◌/◌, ◌%◌, ◌^◌, ◌≤◌, ◌<◌, min}
use Rattle.std.specs.Prelude.{◌≡◌, refl, Bool, false, ◌||◌, ◌&&◌, eqb, ltb, drop, get_or, Option, Some, None}
use Rattle.std.proofs.Math.Path.{sym, ap, subst}
use Rattle.std.proofs.Common.{◌∙◌, le_antisymm, le_trans, add_assoc, add-mul, mul_assoc, mul_comm, mul-le-mul_left, mul-le-mul_right, pow-suc, suc-mul, div-mul-le_self, div-add-mod', mod-lt, arith, lt-ltb, le-ltb, eq-eqb, ne_eqb, ltb-false, length-drop}
use Rattle.std.proofs.Math.Bool.{true}
use mathlib.Core.List.{List, [], ◌∷◌}
use Rattle.std.proofs.Math.Nat.{one-le-pow}
use Rattle.std.proofs.Math.Decide.{dec_le}
use Rattle.std.proofs.lemmas.Bool.{eqb-false}
use Rattle.std.proofs.lemmas.List.{get_or_past}
use Rattle.std.proofs.Math.ListN.{length}
use Rattle.common.specs.Lists.{drop_end, split}
use Rattle.common.specs.Walk.{walk_ends}
use Rattle.common.specs.Tests.{bounds}
use Rattle.record.specs.Byte.{digit}
use Rattle.record.specs.Text.{NumberAndRest, number_and_rest, digit_turn, number_from}
use Rattle.record.specs.Form.{All, value_of}
use Rattle.record.specs.Turns.{digit_stops, digit_goes}
use Rattle.eights.specs.Told.{EightTold}
use Rattle.reals.specs.Scalar.{NumberAt, DecimalAt, TensAt, unsigned, is_minus, mantissa_bound, largest_held, Mantissa, mantissa, pointed, fraction_of, exponent_of_digits, exponent_of, digits_only, PlainAt}
use Rattle.reals.specs.Class.{no_and}
use Rattle.reals.specs.declared.Number.{Number}

-- the digits from `at` to i have been read: whatever number n stood before them, k stands there now, held up to the cap
pub record NumberReading (t : List ℕ) (at from cap value i : ℕ) : Type 0 where
  pub above : at ≤ i
  pub within : i ≤ length t
  pub held : value ≤ cap
  pub so_far : (n : ℕ) → (k : ℕ) × (number_from k (drop i t) ≡ number_from n (drop at t)) × (from ≡ min cap n → value ≡ min cap k)

-- a number with one digit more is held up to the cap the same, whether it was held before that or not
one_more : (cap v k d : ℕ) → v ≡ min cap k → min cap (v * 10 + d) ≡ min cap (k * 10 + d)
one_more cap v k d e = omega arith

module _ (t : List ℕ) (at from cap : ℕ) where
  -- before the first digit the number is as it was
  pub number_reading_starts : at ≤ length t → from ≤ cap → NumberReading t at from cap from at
  number_reading_starts h l = record { above = omega arith; within = h; held = l; so_far = λ n. (n, refl, λ e. e) }

  -- a digit more is read
  pub number_reading_goes : (value i next : ℕ) → i < length t → digit (get_or t i 0) ≡ true → next ≡ min cap (value * 10 + (get_or t i 0 - 48)) → NumberReading t at from cap value i → NumberReading t at from cap next (i + 1)
  unfolding number_from
  number_reading_goes value i next l d e r = record {
    above = let a : at ≤ i = r.above in omega arith;
    within = omega arith;
    held = omega arith;
    so_far = λ n.
        let s = r.so_far n in (
          s.0 * 10 + (get_or t i 0 - 48),
          digit_goes t i l s.0 (number_from n (drop at t)) d s.1,
          λ h. e ∙ one_more cap value s.0 (get_or t i 0 - 48) (s.2 h),
        );
  }

  -- at a byte that is no digit, or at the end, the number of the digits is read
  made : (value i : ℕ) → ((k : ℕ) → number_from k (drop i t) ≡ number_and_rest k (drop i t)) → NumberReading t at from cap value i → NumberAt t at from cap record { value = value; next = i }
  made value i h r = record {
    value = λ n e. let s = r.so_far n in s.2 e ∙ ap (min cap) (sym (ap (λ (d : NumberAndRest). d.value) (sym s.1 ∙ h s.0)));
    rest = λ n. let s = r.so_far n in ap (λ (d : NumberAndRest). d.rest) (sym s.1 ∙ h s.0);
    above = r.above;
    within = r.within;
  }

  -- a byte that is no digit ends the number
  pub number_reading_stops : (value i : ℕ) → i < length t → digit (get_or t i 0) ≡ false → NumberReading t at from cap value i → NumberAt t at from cap record { value = value; next = i }
  unfolding number_from
  number_reading_stops value i l d r = made value i (λ k. sym (digit_stops t i l k (number_from k (drop i t)) d refl)) r

  -- the text's end ends the number
  pub number_reading_ends : (value i : ℕ) → length t ≤ i → NumberReading t at from cap value i → NumberAt t at from cap record { value = value; next = length t }
  unfolding number_from
  number_reading_ends value i l r =
      let w : i ≤ length t = r.within in
      subst (λ (k : ℕ). NumberAt t at from cap record { value = value; next = k }) (le_antisymm w l)
      (made value i (λ k. walk_ends digit_turn (λ m. number_and_rest m []) k t i l ∙ ap (number_and_rest k) (sym (drop_end t i l))) r)

-- ---- some digits at once
-- a text has these bytes from a place on
abbrev pub BytesStandAt : List ℕ → ℕ → List ℕ → Type 0
BytesStandAt t at [] = Unit {0}
BytesStandAt t at (b ∷ bs) = (get_or t at 0 ≡ b) × BytesStandAt t (at + 1) bs

-- n digits stand at the place, and v is the number that they make
pub record DigitsAt (t : List ℕ) (at n v : ℕ) : Type 0 where
  pub bytes : List ℕ
  pub many : length bytes ≡ n
  pub stand : BytesStandAt t at bytes
  pub all : All digit bytes
  pub makes : v ≡ value_of bytes

-- the byte of a text at a place that is written as another sum
there : (t : List ℕ) {p q : ℕ} → p ≡ q → get_or t p 0 ≡ get_or t q 0
there t e = ap (λ (n : ℕ). get_or t n 0) e

-- the four bytes of a text from a place on
abbrev pub four_from : List ℕ → ℕ → List ℕ
four_from t i = get_or t i 0 ∷ get_or t (i + 1) 0 ∷ get_or t (i + 2) 0 ∷ get_or t (i + 3) 0 ∷ []

-- four digits at the place, by what each is worth
pub four_at_lem : (t : List ℕ) (i v : ℕ) → All digit (four_from t i) → v ≡ (get_or t i 0 - 48) * 1000 + (get_or t (i + 1) 0 - 48) * 100 + (get_or t (i + 2) 0 - 48) * 10 + (get_or t (i + 3) 0 - 48) → DigitsAt t i 4 v
unfolding value_of
four_at_lem t i v a e = record {
  bytes = four_from t i;
  many = refl;
  stand = (refl, (refl, (there t (omega arith), (there t (omega arith), tt))));
  all = a;
  makes = e ∙ by_places (get_or t i 0 - 48) (get_or t (i + 1) 0 - 48) (get_or t (i + 2) 0 - 48) (get_or t (i + 3) 0 - 48);
}
  where
    by_places : (a b c d : ℕ) → a * 1000 + b * 100 + c * 10 + d ≡ a * 10 ^ 3 + (b * 10 ^ 2 + (c * 10 ^ 1 + (d * 10 ^ 0 + 0)))
    by_places a b c d = omega arith

-- the eight bytes of a text from a place on
abbrev pub eight_from : List ℕ → ℕ → List ℕ
eight_from t i = get_or t i 0 ∷ get_or t (i + 1) 0 ∷ get_or t (i + 2) 0 ∷ get_or t (i + 3) 0 ∷ get_or t (i + 4) 0 ∷ get_or t (i + 5) 0 ∷ get_or t (i + 6) 0 ∷ get_or t (i + 7) 0 ∷ []

-- n digits stand at the place, or nothing is said
abbrev pub RunAt : List ℕ → ℕ → ℕ → Option ℕ → Type 0
RunAt t at n (Some v) = (at + n ≤ length t) × DigitsAt t at n v
RunAt t at n None = Unit {0}

-- a digit stands inside the text: past the end 0 is read, which is none
digit_inside : (t : List ℕ) (i : ℕ) → digit (get_or t i 0) ≡ true → i < length t
digit_inside t i h = go (dec_le (length t) i)
  where
    go : Dec (length t ≤ i) → i < length t
    go (yes l) = let e : get_or t i 0 ≡ 0 = get_or_past t i 0 l in let k : 48 ≤ get_or t i 0 = (bounds 48 (get_or t i 0) 57 h).0 in absurd (omega arith)
    go (no n) = omega arith

-- what is told of the eight bytes at the place says whether eight digits stand there
pub eight_at : (t : List ℕ) (i : ℕ) (x : Option ℕ) → EightTold (eight_from t i) x → RunAt t i 8 x
eight_at t i (Some v) h = (
  let l : i + 7 < length t = digit_inside t (i + 7) h.0.1.1.1.1.1.1.1.0 in omega arith,
  record {
    bytes = eight_from t i;
    many = refl;
    stand = (refl, (refl, (there t (omega arith), (there t (omega arith), (there t (omega arith), (there t (omega arith), (there t (omega arith), (there t (omega arith), tt))))))));
    all = h.0;
    makes = h.1;
  },
)
eight_at t i None h = tt

-- digits that may be put to a number: they are below the scale, and the place after them is a number
abbrev pub RunFits : ℕ → ℕ → ℕ → Option ℕ → Type 0
RunFits next n scale (Some v) = (v < scale) × (next + n < 2 ^ 64)
RunFits next n scale None = Unit {0}

-- n digits put to a number, held up to the cap; or the number as it is
abbrev pub RunAdded : Number → ℕ → ℕ → ℕ → Option ℕ → Number → Type 0
RunAdded d n scale cap (Some v) r = r ≡ record { value = min cap (d.value * scale + v); next = d.next + n }
RunAdded d n scale cap None r = r ≡ d

-- n digits make less than 10 ^ n
value_lt : (bs : List ℕ) → All digit bs → value_of bs < 10 ^ length bs
unfolding value_of
value_lt [] a = omega arith
value_lt (b ∷ bs) a =
    let p = 10 ^ length bs in
    let k = bounds 48 b 57 a.0 in
    let g : (b - 48) * p ≤ 9 * p = mul-le-mul_right p (nine b k.1) in
    let l : value_of bs < p = value_lt bs a.1 in
    subst (λ (n : ℕ). (b - 48) * p + value_of bs < n) (sym (pow-suc 10 (length bs))) (less ((b - 48) * p) p (value_of bs) g l)
  where
    nine : (b : ℕ) → b ≤ 57 → b - 48 ≤ 9
    nine b h = omega arith

    less : (x p v : ℕ) → x ≤ 9 * p → v < p → x + v < p * 10
    less x p v g l = omega arith

-- n digits at a place make less than 10 ^ n
pub digits_lt : (t : List ℕ) (at n v : ℕ) → DigitsAt t at n v → v < 10 ^ n
digits_lt t at n v d = subst (λ (x : ℕ). x < 10 ^ n) (sym d.makes) (subst (λ (k : ℕ). value_of d.bytes < 10 ^ k) d.many (value_lt d.bytes d.all))

-- a number moved up and added to is held up to the cap the same, whether it was held before that or not
capped : (cap x p v : ℕ) → 0 < p → min cap (min cap x * p + v) ≡ min cap (x * p + v)
capped cap x p v h = go (dec_le x cap)
  where
    go : Dec (x ≤ cap) → min cap (min cap x * p + v) ≡ min cap (x * p + v)
    go (yes l) = let e : min cap x ≡ x = omega arith in ap (λ (n : ℕ). min cap (n * p + v)) e
    go (no n) =
        let e : min cap x ≡ cap = omega arith in
        let a : cap * 1 ≤ cap * p = mul-le-mul_left cap h in
        let b : cap * p ≤ x * p = mul-le-mul_right p (omega arith) in
        ap (λ (n : ℕ). min cap (n * p + v)) e ∙ both_cap (cap * p) (x * p) a b
      where
        both_cap : (y z : ℕ) → cap * 1 ≤ y → y ≤ z → min cap (y + v) ≡ min cap (z + v)
        both_cap y z a b = omega arith

-- ---- a number n with digits more that make v and move it up by s: is it below the cap?
module _ (n v s cap : ℕ) (less : v < s) where
  -- n is below the cap's upper part: the number is below the cap
  pub below_cap : n < cap / s → n * s + v < cap
  below_cap h =
      let a : suc n * s ≤ cap / s * s = mul-le-mul_right s h in
      let b : cap / s * s ≤ cap = div-mul-le_self cap s in
      go (n * s) (suc n * s) (suc-mul n s) (le_trans a b)
    where
      go : (x y : ℕ) → y ≡ x + s → y ≤ cap → x + v < cap
      go x y e l = omega arith

  -- n is the cap's upper part, and v below the rest: the number is below the cap
  pub at_cap : n ≡ cap / s → v < cap % s → n * s + v < cap
  at_cap e h = subst (λ (x : ℕ). n * s + v < x) (ap (λ (x : ℕ). x * s + cap % s) e ∙ div-add-mod' cap s) (go (n * s) (cap % s) h)
    where
      go : (x y : ℕ) → v < y → x + v < x + y
      go x y h = omega arith

  -- n is the cap's upper part, and v not below the rest: the number reaches the cap
  pub full_cap : n ≡ cap / s → cap % s ≤ v → cap ≤ n * s + v
  full_cap e h = subst (λ (x : ℕ). x ≤ n * s + v) (ap (λ (x : ℕ). x * s + cap % s) e ∙ div-add-mod' cap s) (go (n * s) (cap % s) h)
    where
      go : (x y : ℕ) → y ≤ v → x + y ≤ x + v
      go x y h = omega arith

  -- n is above the cap's upper part: the number reaches the cap
  pub past_cap : cap / s < n → cap ≤ n * s + v
  past_cap h =
      let a : suc (cap / s) * s ≤ n * s = mul-le-mul_right s h in
      let r : cap % s < s = mod-lt cap (positive v s less) in
      go (cap / s * s) (suc (cap / s) * s) (n * s) (cap % s) (suc-mul (cap / s) s) (div-add-mod' cap s) r a
    where
      positive : (v s : ℕ) → v < s → 0 < s
      positive v s h = omega arith

      go : (x y z r : ℕ) → y ≡ x + s → x + r ≡ cap → r < s → y ≤ z → cap ≤ z + v
      go x y z r e f l g = omega arith

-- a number below the cap is held as itself
pub held_below : (cap x : ℕ) → x < cap → x ≡ min cap x
held_below cap x h = omega arith

-- a number from the cap on is held as the cap
pub held_above : (cap x : ℕ) → cap ≤ x → cap ≡ min cap x
held_above cap x h = omega arith

module _ (t : List ℕ) (at from cap : ℕ) where
  -- digits that stand at the place are read one after the other
  reading_all : (bs : List ℕ) (value i next : ℕ) → i + length bs ≤ length t → BytesStandAt t i bs → All digit bs → next ≡ min cap (value * 10 ^ length bs + value_of bs) → NumberReading t at from cap value i → NumberReading t at from cap next (i + length bs)
  unfolding value_of
  reading_all [] value i next l s a e r = let h = r.held in subst (λ (v : ℕ). NumberReading t at from cap v (i + 0)) (omega arith) (subst (λ (p : ℕ). NumberReading t at from cap value p) (omega arith) r)
  reading_all (b ∷ bs) value i next l s a e r =
      let v1 = min cap (value * 10 + (b - 48)) in
      let p = 10 ^ length bs in
      let d : digit (get_or t i 0) ≡ true = ap digit s.0 ∙ a.0 in
      let g : NumberReading t at from cap v1 (i + 1) = number_reading_goes t at from cap value i v1 (omega arith) d (ap (λ (c : ℕ). min cap (value * 10 + (c - 48))) (sym s.0)) r in
      let f : next ≡ min cap (v1 * p + value_of bs) =
      e ∙ ap (λ (q : ℕ). min cap (value * q + ((b - 48) * p + value_of bs))) (pow-suc 10 (length bs)) ∙ ap (min cap) (moved value (b - 48) p (value_of bs)) ∙ sym (capped cap (value * 10 + (b - 48)) p (value_of bs) (one-le-pow (length bs) 10 (omega arith))) in
      subst (λ (q : ℕ). NumberReading t at from cap next q) (further i (length bs)) (reading_all bs v1 (i + 1) next (omega arith) s.1 a.1 f g)
    where
      moved : (n d p v : ℕ) → n * (p * 10) + (d * p + v) ≡ (n * 10 + d) * p + v
      moved n d p v = sym (add_assoc (n * (p * 10)) (d * p) v) ∙ ap (λ (x : ℕ). x + d * p + v) (ap (λ (x : ℕ). n * x) (mul_comm p 10) ∙ sym (mul_assoc n 10 p)) ∙ ap (λ (x : ℕ). x + v) (sym (add-mul (n * 10) d p))

      further : (i n : ℕ) → i + 1 + n ≡ i + suc n
      further i n = omega arith

  -- n digits at the place, which make v, are read at once
  pub number_reading_digits : (value i next n v : ℕ) → i + n ≤ length t → DigitsAt t i n v → next ≡ min cap (value * 10 ^ n + v) → NumberReading t at from cap value i → NumberReading t at from cap next (i + n)
  number_reading_digits value i next n v l d e r =
      subst (λ (k : ℕ). NumberReading t at from cap next (i + k)) d.many
      (reading_all d.bytes value i next (subst (λ (k : ℕ). i + k ≤ length t) (sym d.many) l) d.stand d.all
      (e ∙ ap (λ (k : ℕ). min cap (value * 10 ^ k + v)) (sym d.many) ∙ ap (λ (x : ℕ). min cap (value * 10 ^ length d.bytes + x)) d.makes) r)

  -- n digits that stand where the reading is, or none, are read at once
  pub run_read : (n : ℕ) (o : Option ℕ) (d r : Number) → RunAt t d.next n o → RunAdded d n (10 ^ n) cap o r → NumberReading t at from cap d.value d.next → NumberReading t at from cap r.value r.next
  run_read n (Some v) d r h e g = subst (λ (q : Number). NumberReading t at from cap q.value q.next) (sym e) (number_reading_digits d.value d.next (min cap (d.value * 10 ^ n + v)) n v h.0 h.1 refl g)
  run_read n None d r h e g = subst (λ (q : Number). NumberReading t at from cap q.value q.next) (sym e) g

  -- n digits that stand where the reading is, or none, may be put to the number
  pub run_fits : (n : ℕ) (o : Option ℕ) (d : Number) → length t < 2 ^ 63 → RunAt t d.next n o → RunFits d.next n (10 ^ n) o
  run_fits n (Some v) d l h = (digits_lt t d.next n v h.1, let k : d.next + n ≤ length t = h.0 in omega arith)
  run_fits n None d l h = tt

  -- what is read on from where some digits were read is what is read from the start
  pub number_reading_then : (value i : ℕ) (r : Number) → NumberReading t at from cap value i → NumberAt t i value cap r → NumberAt t at from cap r
  number_reading_then value i r g n = record {
    value = λ k e. let s = g.so_far k in n.value s.0 (s.2 e) ∙ ap (λ (d : NumberAndRest). min cap d.value) s.1;
    rest = λ k. let s = g.so_far k in ap (λ (d : NumberAndRest). d.rest) (sym s.1) ∙ n.rest s.0;
    above = le_trans g.above n.above;
    within = n.within;
  }

-- ---- one byte of the text, or its end
module _ (t : List ℕ) (i : ℕ) where
  -- the byte at the place tells whether the sign is `-`
  pub minus_here : i < length t → eqb (get_or t i 0) 45 ≡ is_minus (drop i t)
  minus_here h = rw (split t i h) refl

  -- at the end there is no sign
  pub minus_none : length t ≤ i → false ≡ is_minus (drop i t)
  minus_none h = rw (drop_end t i h) refl

  -- a sign that stands at the place is passed over
  pub sign_passed : i < length t → eqb (get_or t i 0) 43 || eqb (get_or t i 0) 45 ≡ true → drop (i + 1) t ≡ unsigned (drop i t)
  sign_passed h e = rw (split t i h, e) refl

  -- a byte that is no sign is not passed over
  pub sign_none : i < length t → eqb (get_or t i 0) 43 || eqb (get_or t i 0) 45 ≡ false → drop i t ≡ unsigned (drop i t)
  sign_none h e = rw (split t i h, e) refl

  -- at the end no sign is passed over
  pub sign_end : length t ≤ i → drop i t ≡ unsigned (drop i t)
  sign_end h = rw (drop_end t i h) refl

  -- after a point the digits are read on as a fraction
  point : (n : ℕ) → i < length t → eqb (get_or t i 0) 46 ≡ true → fraction_of n (drop i t) ≡ pointed (drop (i + 1) t) (number_from n (drop (i + 1) t))
  point n h e = rw (split t i h, e) refl

  -- at a byte that is no point there is no fraction
  no_point : (n : ℕ) → i < length t → eqb (get_or t i 0) 46 ≡ false → fraction_of n (drop i t) ≡ mantissa n 0 (drop i t)
  no_point n h e = rw (split t i h, e) refl

  -- at the text's end there is no fraction
  no_byte : (n : ℕ) → length t ≤ i → fraction_of n (drop i t) ≡ mantissa n 0 (drop i t)
  no_byte n h = rw (drop_end t i h) refl

  -- the fraction after a point, by the place where its digits end
  pub decimal_pointed : (from : ℕ) (r : Number) → i < length t → eqb (get_or t i 0) 46 ≡ true → NumberAt t (i + 1) from mantissa_bound r → DecimalAt t i from record { value = r.value; places = r.next - (i + 1); next = r.next }
  decimal_pointed from r h e d = record {
    value = λ n f. d.value n f ∙ ap (λ (m : Mantissa). min mantissa_bound m.value) (sym (point n h e));
    places = λ n.
        ap (λ (m : Mantissa). m.places) (point n h e) ∙ ap (λ (l : List ℕ). length (drop (i + 1) t) - length l) (d.rest n) ∙ gone d.above d.within;
    rest = λ n. ap (λ (m : Mantissa). m.rest) (point n h e) ∙ d.rest n;
    above = let a : i + 1 ≤ r.next = d.above in omega arith;
    within = d.within;
    short = let w : r.next ≤ length t = d.within in omega arith;
  }
    where
      gone : i + 1 ≤ r.next → r.next ≤ length t → length (drop (i + 1) t) - length (drop r.next t) ≡ r.next - (i + 1)
      gone a b = simp length-drop (omega arith)

  -- where there is no fraction the number stays as it is
  decimal_plain : (from : ℕ) → i ≤ length t → ((n : ℕ) → fraction_of n (drop i t) ≡ mantissa n 0 (drop i t)) → DecimalAt t i from record { value = from; places = 0; next = i }
  decimal_plain from l h = record {
    value = λ n f. f ∙ ap (λ (m : Mantissa). min mantissa_bound m.value) (sym (h n));
    places = λ n. ap (λ (m : Mantissa). m.places) (h n);
    rest = λ n. ap (λ (m : Mantissa). m.rest) (h n);
    above = omega arith;
    within = l;
    short = omega arith;
  }

  -- at a byte that is no point the number stays as it is
  pub decimal_whole : (from : ℕ) → i < length t → eqb (get_or t i 0) 46 ≡ false → DecimalAt t i from record { value = from; places = 0; next = i }
  decimal_whole from h e = let l : i ≤ length t = omega arith in decimal_plain from l (λ n. no_point n h e)

  -- at the text's end the number stays as it is
  pub decimal_end : (from : ℕ) → i ≤ length t → length t ≤ i → DecimalAt t i from record { value = from; places = 0; next = i }
  decimal_end from l h = decimal_plain from l (λ n. no_byte n h)

  -- at the end the exponent is 0
  pub tens_none : length t ≤ i → TensAt (drop i t) (Some record { down = false; size = 0 })
  tens_none h = (0, rw (drop_end t i h) refl, refl)

  -- a byte that is no `E` or `e` begins no exponent
  pub tens_other : i < length t → eqb (get_or t i 0) 69 || eqb (get_or t i 0) 101 ≡ false → TensAt (drop i t) None
  tens_other h e = rw (split t i h, e) refl

  -- after an exponent's letter: u is where the digits begin
  module _ (h : i < length t) (e : eqb (get_or t i 0) 69 || eqb (get_or t i 0) 101 ≡ true) (u : ℕ) (us : drop u t ≡ unsigned (drop (i + 1) t)) where
    -- what follows the letter is the exponent, by its sign and digits
    letter : exponent_of (drop i t) ≡ exponent_of_digits (is_minus (drop (i + 1) t)) (drop u t) (number_from 0 (drop u t))
    letter = rw (split t i h, e, us) refl

    -- digits after an exponent's letter and sign are the exponent
    pub tens_read : (m : Bool) (x : ℕ) → m ≡ is_minus (drop (i + 1) t) → PlainAt (drop u t) largest_held (Some x) → TensAt (drop i t) (Some record { down = m; size = x })
    tens_read m x s p = ((number_from 0 (drop u t)).value, letter ∙ rw (p.0, s) refl, p.1)

    -- anything but digits after an exponent's letter and sign is malformed
    pub tens_bad : PlainAt (drop u t) largest_held None → TensAt (drop i t) None
    tens_bad p = letter ∙ rw p refl

-- ---- a rest that is digits only
module _ (t : List ℕ) (u cap : ℕ) (d : Number) (at : NumberAt t u 0 cap d) where
  -- what is left after the digits begins at the place where the code stands
  rest : (number_from 0 (drop u t)).rest ≡ drop d.next t
  rest = at.rest 0

  -- the digits reach the text's end, and there is one: the rest is a number
  pub plain_read : d.next ≡ length t → u < length t → PlainAt (drop u t) cap (Some d.value)
  plain_read n l =
      let z : length (number_from 0 (drop u t)).rest ≡ 0 = ap length rest ∙ simp length-drop (omega arith) in
      let o : 0 < length (drop u t) = simp length-drop (omega arith) in (
        rw (eq-eqb (length (number_from 0 (drop u t)).rest) 0 z, lt-ltb 0 (length (drop u t)) o) refl,
        at.value 0 (omega arith),
      )

  -- the digits do not reach the text's end, or there is none: the rest is no number
  pub plain_at_other : eqb d.next (length t) && ltb u (length t) ≡ false → PlainAt (drop u t) cap None
  plain_at_other f = go (eqb d.next (length t)) (ltb u (length t)) refl refl f
    where
      full : length (drop d.next t) ≡ 0 → d.next ≤ length t → d.next ≡ length t
      full o w = let q : length t - d.next ≡ 0 = sym (simp length-drop) ∙ o in omega arith

      go : (a b : Bool) → eqb d.next (length t) ≡ a → ltb u (length t) ≡ b → a && b ≡ false → digits_only (drop u t) ≡ false
      go true true p q f = let z : ◌≡◌ {A = ℕ} 0 1 = cc in absurd (omega arith)
      go true false p q f =
          let g : length t ≤ u = ltb-false u (length t) q in
          let z : length (drop u t) ≤ 0 = simp length-drop (omega arith) in
          rw (le-ltb 0 (length (drop u t)) z) (no_and (eqb (length (number_from 0 (drop u t)).rest) 0))
      go false b p q f =
          let w : d.next ≤ length t = at.within in
          let n : d.next ≡ length t → ⊥ = eqb-false d.next (length t) p in
          let z : length (number_from 0 (drop u t)).rest ≡ 0 → ⊥ = λ o. n (full (ap length (sym rest) ∙ o) w) in
          rw (ne_eqb (length (number_from 0 (drop u t)).rest) 0 z) refl
