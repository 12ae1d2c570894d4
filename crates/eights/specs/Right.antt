-- The laws behind the two tests and the three sums: what they tell of eight bytes, joined. Assumes nothing.
use Rattle.std.specs.Prelude.{ℕ, ◌+◌, ◌-◌, ◌*◌, ◌/◌, ◌%◌, ◌^◌, ◌≤◌, ◌<◌, ◌≡◌, refl, Bool, true, false, List, [], ◌∷◌, eqb, length}
use Rattle.std.proofs.Common.{sym, ◌∙◌, ap, lt_of_le_of_lt, mod-eq_of_lt, arith, le-leb, eqb-true}
use Rattle.std.proofs.lemmas.Bool.{eqb-false}
use Rattle.std.specs.Int.Bits.{bit_and}
use Rattle.std.proofs.lemmas.Nat.Bits.{and_high}
use Rattle.std.proofs.lemmas.Nat.{and_mask, and_shr, and_le_r}
use Rattle.common.specs.Tests.{bounds}
use Rattle.record.specs.Byte.{digit}
use Rattle.record.specs.Form.{All, value_of}
use Rattle.eights.specs.Fields.{EachNumber, each_map, each_two, fields_by, equal_fields, and_fields, sum_fields, fields_same, same_fields, fields_ap, lowest_field, others}
use Rattle.eights.specs.Eights.{joined_of, eight_of, TestSays, DigitsTest}

-- the mask of the upper half of each of eight bytes
abbrev pub uppers : ℕ
uppers = 0xf0f0_f0f0_f0f0_f0f0

-- eight bytes with 3 in each upper half, and 0 in each lower
abbrev pub threes : ℕ
threes = 0x3030_3030_3030_3030

-- eight bytes that are 6 each
abbrev pub sixes : ℕ
sixes = 0x0606_0606_0606_0606

-- ---- bytes whose upper half is 3
-- a byte whose upper half is 3: from 48 to 63
abbrev Threed : ℕ → Type 0
Threed b = (48 ≤ b) × (b ≤ 63)

-- a byte that the mask of the upper half leaves at 3 has 3 there
upper_is : (b : ℕ) → b < 2 ^ 8 → bit_and b 0xf0 ≡ 0x30 → Threed b
upper_is b l e =
    let h : b / 2 ^ 4 % 2 ^ 4 * 2 ^ 4 ≡ 48 = sym (and_high b 4 4) ∙ e in
    let m : b / 2 ^ 4 % 2 ^ 4 ≡ b / 2 ^ 4 = mod-eq_of_lt (omega arith) in
    let q : b / 2 ^ 4 ≡ 3 = three (b / 2 ^ 4 % 2 ^ 4) (b / 2 ^ 4) h m in
    (omega arith, omega arith)
  where
    three : (x y : ℕ) → x * 2 ^ 4 ≡ 48 → x ≡ y → y ≡ 3
    three x y e f = omega arith

-- a byte whose upper half is 3 is left so by the mask of the upper half
upper_back : (b : ℕ) → Threed b → bit_and b 0xf0 ≡ 0x30
upper_back b h = let l = h.0 in let g = h.1 in and_high b 4 4 ∙ omega arith

-- a byte masked to its upper half fits a field
masked_lt : (b : ℕ) → bit_and b 0xf0 < 2 ^ 8
masked_lt b = lt_of_le_of_lt (and_le_r b 0xf0) (omega arith)

-- where the test of all upper halves passes, the upper half of each byte is 3
tested : (f : ℕ → ℕ) (bs : List ℕ) → EachNumber (λ (b : ℕ). f b < 2 ^ 8) bs → bit_and (fields_by 8 f bs) (equal_fields 8 0xf0 (length bs)) ≡ equal_fields 8 0x30 (length bs) → EachNumber (λ (b : ℕ). Threed (f b)) bs
tested f bs l e =
    let m = fields_same 8 (λ (b : ℕ). bit_and (f b) 0xf0) 0x30 (omega arith) bs (each_map (λ b h. masked_lt (f b)) bs l) (sym (and_fields 8 f 0xf0 (omega arith) bs l) ∙ e) in
    each_two (λ b h k. upper_is (f b) h k) bs l m

-- where the upper half of each byte is 3, the test of all upper halves passes
tested_back : (f : ℕ → ℕ) (bs : List ℕ) → EachNumber (λ (b : ℕ). Threed (f b)) bs → bit_and (fields_by 8 f bs) (equal_fields 8 0xf0 (length bs)) ≡ equal_fields 8 0x30 (length bs)
tested_back f bs h =
    and_fields 8 f 0xf0 (omega arith) bs (each_map (λ (b : ℕ) (k : Threed (f b)). let g = k.1 in omega arith) bs h)
    ∙ same_fields 8 (λ (b : ℕ). bit_and (f b) 0xf0) 0x30 bs (each_map (λ b k. upper_back (f b) k) bs h)

-- where the upper half of each of eight bytes is 3, six can be added to each within 64 binary digits
pub threes_lt : (w : ℕ) → w < 2 ^ 64 → bit_and w uppers ≡ threes → w < 2 ^ 62
threes_lt w l e =
    let top : bit_and (w / 2 ^ 56) 0xf0 ≡ 0x30 = sym (and_shr w uppers 56) ∙ ap (λ (n : ℕ). n / 2 ^ 56) e in
    let h = (upper_is (w / 2 ^ 56) (omega arith) top).1 in
    omega arith

-- ---- digits
-- a digit by its bounds: from 48 to 57
abbrev pub DigitBounds : ℕ → Type 0
DigitBounds b = (48 ≤ b) × (b ≤ 57)

-- digits lie from 48 to 57
pub all_bounded : (bs : List ℕ) → All digit bs → EachNumber DigitBounds bs
all_bounded [] h = tt
all_bounded (b ∷ bs) h = (bounds 48 b 57 h.0, all_bounded bs h.1)

-- bytes that lie from 48 to 57 are digits
bounded_all : (bs : List ℕ) → EachNumber DigitBounds bs → All digit bs
bounded_all [] h = tt
bounded_all (b ∷ bs) h = (rw (le-leb 48 b h.0.0, le-leb b 57 h.0.1) refl, bounded_all bs h.1)

module _ (a b c d e f g h w : ℕ) (bytes : EachNumber (λ (x : ℕ). x < 2 ^ 8) (eight_of a b c d e f g h)) (is : w ≡ joined_of (eight_of a b c d e f g h)) where
  -- the joined bytes and sixes: six is added to each byte
  six_more : w + sixes ≡ fields_by 8 (λ (x : ℕ). x + 6) (eight_of a b c d e f g h)
  six_more = ap (λ (n : ℕ). n + sixes) is ∙ sum_fields 8 (λ (x : ℕ). x) 6 (eight_of a b c d e f g h)

  -- where the upper halves of the eight bytes are not all 3, the bytes are not all digits
  pub digits_none : (bit_and w uppers ≡ threes → ⊥) → All digit (eight_of a b c d e f g h) → ⊥
  digits_none n al =
      n
      (ap (λ (x : ℕ). bit_and x uppers) is
      ∙ tested_back (λ (x : ℕ). x) (eight_of a b c d e f g h) (each_map {Q = Threed} (λ (x : ℕ) (k : DigitBounds x). let l = k.0 in let g = k.1 in (l, omega arith)) (eight_of a b c d e f g h) (all_bounded (eight_of a b c d e f g h) al)))

  -- where the upper halves of the eight bytes are all 3, the test with six added tells whether the bytes are digits
  pub digits_told : (r : Bool) → eqb (bit_and (w + sixes) uppers) threes ≡ r → bit_and w uppers ≡ threes → TestSays r (All digit (eight_of a b c d e f g h))
  digits_told true t u =
      let bs = eight_of a b c d e f g h in
      let first = tested (λ (x : ℕ). x) bs bytes (ap (λ (x : ℕ). bit_and x uppers) (sym is) ∙ u) in
      let second = tested (λ (x : ℕ). x + 6) bs (each_map {Q = λ (x : ℕ). x + 6 < 2 ^ 8} (λ (x : ℕ) (k : Threed x). let g = k.1 in omega arith) bs first) (ap (λ (x : ℕ). bit_and x uppers) (sym six_more) ∙ eqb-true (bit_and (w + sixes) uppers) threes t) in
      bounded_all bs (each_two {R = DigitBounds} (λ (x : ℕ) (k : Threed x) (m : Threed (x + 6)). let l = k.0 in let g = m.1 in (l, omega arith)) bs first second)
  digits_told false t u = λ al.
      let bs = eight_of a b c d e f g h in
      eqb-false (bit_and (w + sixes) uppers) threes t
      (ap (λ (x : ℕ). bit_and x uppers) six_more
      ∙ tested_back (λ (x : ℕ). x + 6) bs (each_map {Q = λ (x : ℕ). Threed (x + 6)} (λ (x : ℕ) (k : DigitBounds x). let l = k.0 in let g = k.1 in (omega arith, omega arith)) bs (all_bounded bs al)))

-- ---- the number that eight digits make
-- of two neighbouring fields a mask keeps the lower one
kept : (k x u : ℕ) → u < 2 ^ k → bit_and (x * 2 ^ k + u) (2 ^ k - 1) ≡ u
kept k x u h = and_mask (x * 2 ^ k + u) k ∙ lowest_field k x u h

-- eight digits in fields of eight, summed and masked, are four pairs in fields of sixteen
pub pairs_are : (a b c d e f g h : ℕ) → a ≤ 9 → b ≤ 9 → c ≤ 9 → d ≤ 9 → e ≤ 9 → f ≤ 9 → g ≤ 9 → h ≤ 9
    → bit_and (joined_of (eight_of a b c d e f g h) * 10 + joined_of (eight_of a b c d e f g h) / 2 ^ 8) 0x00ff_00ff_00ff_00ff
    ≡ fields_by 16 (λ (x : ℕ). x) ((a * 10 + b) ∷ (c * 10 + d) ∷ (e * 10 + f) ∷ (g * 10 + h) ∷ [])
pairs_are a b c d e f g h la lb lc ld le lf lg lh =
    let ps = ((b * 10 + c) * 2 ^ 8 + (a * 10 + b)) ∷ ((d * 10 + e) * 2 ^ 8 + (c * 10 + d)) ∷ ((f * 10 + g) * 2 ^ 8 + (e * 10 + f)) ∷ (h * 10 * 2 ^ 8 + (g * 10 + h)) ∷ [] in
    let upper = joined_of (b ∷ c ∷ d ∷ e ∷ f ∷ g ∷ h ∷ []) in
    let n : (upper * 2 ^ 8 + a) / 2 ^ 8 ≡ upper = others 8 upper a (omega arith) in
    let t : (upper * 2 ^ 8 + a) * 10 + upper ≡ fields_by 16 (λ (x : ℕ). x) ps = omega arith in
    ap (λ (x : ℕ). bit_and ((upper * 2 ^ 8 + a) * 10 + x) 0x00ff_00ff_00ff_00ff) n
    ∙ ap (λ (x : ℕ). bit_and x 0x00ff_00ff_00ff_00ff) t
    ∙ and_fields 16 (λ (x : ℕ). x) 0xff (omega arith) ps (omega arith, (omega arith, (omega arith, (omega arith, tt))))
    ∙ four (kept 8 (b * 10 + c) (a * 10 + b) (omega arith)) (kept 8 (d * 10 + e) (c * 10 + d) (omega arith)) (kept 8 (f * 10 + g) (e * 10 + f) (omega arith)) (kept 8 (h * 10) (g * 10 + h) (omega arith))
  where
    four : {p q r s p' q' r' s' : ℕ} → p ≡ p' → q ≡ q' → r ≡ r' → s ≡ s' → fields_by 16 (λ (x : ℕ). x) (p ∷ q ∷ r ∷ s ∷ []) ≡ fields_by 16 (λ (x : ℕ). x) (p' ∷ q' ∷ r' ∷ s' ∷ [])
    four k l m n = omega arith

-- four pairs in fields of sixteen, summed and masked, are two fours in fields of 32
pub fours_are : (p q r s : ℕ) → p < 100 → q < 100 → r < 100 → s < 100
    → bit_and (fields_by 16 (λ (x : ℕ). x) (p ∷ q ∷ r ∷ s ∷ []) * 100 + fields_by 16 (λ (x : ℕ). x) (p ∷ q ∷ r ∷ s ∷ []) / 2 ^ 16) 0x0000_ffff_0000_ffff
    ≡ fields_by 32 (λ (x : ℕ). x) ((p * 100 + q) ∷ (r * 100 + s) ∷ [])
fours_are p q r s lp lq lr ls =
    let fs = ((q * 100 + r) * 2 ^ 16 + (p * 100 + q)) ∷ (s * 100 * 2 ^ 16 + (r * 100 + s)) ∷ [] in
    let upper = fields_by 16 (λ (x : ℕ). x) (q ∷ r ∷ s ∷ []) in
    let n : (upper * 2 ^ 16 + p) / 2 ^ 16 ≡ upper = others 16 upper p (omega arith) in
    let t : (upper * 2 ^ 16 + p) * 100 + upper ≡ fields_by 32 (λ (x : ℕ). x) fs = omega arith in
    ap (λ (x : ℕ). bit_and ((upper * 2 ^ 16 + p) * 100 + x) 0x0000_ffff_0000_ffff) n
    ∙ ap (λ (x : ℕ). bit_and x 0x0000_ffff_0000_ffff) t
    ∙ and_fields 32 (λ (x : ℕ). x) 0xffff (omega arith) fs (omega arith, (omega arith, tt))
    ∙ two (kept 16 (q * 100 + r) (p * 100 + q) (omega arith)) (kept 16 (s * 100) (r * 100 + s) (omega arith))
  where
    two : {p q p' q' : ℕ} → p ≡ p' → q ≡ q' → fields_by 32 (λ (x : ℕ). x) (p ∷ q ∷ []) ≡ fields_by 32 (λ (x : ℕ). x) (p' ∷ q' ∷ [])
    two k l = omega arith

-- two fours in fields of 32, summed, are one number
pub eight_number_is : (p q : ℕ) → p < 10000 → q < 10000 → (fields_by 32 (λ (x : ℕ). x) (p ∷ q ∷ []) * 10000 + fields_by 32 (λ (x : ℕ). x) (p ∷ q ∷ []) / 2 ^ 32) % 2 ^ 32 ≡ p * 10000 + q
eight_number_is p q lp lq =
    let u = fields_by 32 (λ (x : ℕ). x) (q ∷ []) in
    let n : (u * 2 ^ 32 + p) / 2 ^ 32 ≡ u = others 32 u p (omega arith) in
    let t : (u * 2 ^ 32 + p) * 10000 + u ≡ q * 10000 * 2 ^ 32 + (p * 10000 + q) = omega arith in
    ap (λ (x : ℕ). ((u * 2 ^ 32 + p) * 10000 + x) % 2 ^ 32) n ∙ ap (λ (x : ℕ). x % 2 ^ 32) t ∙ lowest_field 32 (q * 10000) (p * 10000 + q) (omega arith)

-- what a digit's byte is worth: less 48
abbrev worth : ℕ → ℕ
worth b = b - 48

-- joined digits less 48 in each byte are joined numbers
worths : (bs : List ℕ) → EachNumber DigitBounds bs → joined_of bs - equal_fields 8 48 (length bs) ≡ fields_by 8 worth bs
worths bs h =
    ap (λ (n : ℕ). n - equal_fields 8 48 (length bs)) (fields_ap 8 (λ (b : ℕ). b) (λ (b : ℕ). worth b + 48) (λ (b : ℕ) (k : DigitBounds b). let l = k.0 in omega arith) bs h ∙ sym (sum_fields 8 worth 48 bs))
    ∙ less (fields_by 8 worth bs) (equal_fields 8 48 (length bs))
  where
    less : (x y : ℕ) → x + y - y ≡ x
    less x y = omega arith

-- a digit is worth nine at most
worth_le : (b : ℕ) → DigitBounds b → worth b ≤ 9
worth_le b k = let l = k.0 in let g = k.1 in omega arith

-- the first of the code's three sums: of what the digits are worth, pairs
abbrev pub pairs_of : ℕ → ℕ
pairs_of x = bit_and (x * 10 + x / 2 ^ 8) 0x00ff_00ff_00ff_00ff

-- the second of the code's three sums: of pairs, fours
abbrev pub fours_of : ℕ → ℕ
fours_of x = bit_and (x * 100 + x / 2 ^ 16) 0x0000_ffff_0000_ffff

-- the third of the code's three sums: of fours, the number
abbrev pub all_of : ℕ → ℕ
all_of x = (x * 10000 + x / 2 ^ 32) % 2 ^ 32

-- the code's three sums give the number that eight digits make, from what the digits are worth
sums_make : (a b c d e f g h : ℕ) → a ≤ 9 → b ≤ 9 → c ≤ 9 → d ≤ 9 → e ≤ 9 → f ≤ 9 → g ≤ 9 → h ≤ 9
    → all_of (fours_of (pairs_of (joined_of (eight_of a b c d e f g h)))) ≡ a * 10 ^ 7 + (b * 10 ^ 6 + (c * 10 ^ 5 + (d * 10 ^ 4 + (e * 10 ^ 3 + (f * 10 ^ 2 + (g * 10 ^ 1 + (h * 10 ^ 0 + 0)))))))
sums_make a b c d e f g h la lb lc ld le lf lg lh =
    ap (λ (n : ℕ). all_of (fours_of n)) (pairs_are a b c d e f g h la lb lc ld le lf lg lh)
    ∙ ap all_of (fours_are (a * 10 + b) (c * 10 + d) (e * 10 + f) (g * 10 + h) (omega arith) (omega arith) (omega arith) (omega arith))
    ∙ eight_number_is ((a * 10 + b) * 100 + (c * 10 + d)) ((e * 10 + f) * 100 + (g * 10 + h)) (omega arith) (omega arith)
    ∙ omega arith

-- the code's three sums give the number that eight digits make, from their joined bytes
pub makes : (a b c d e f g h w : ℕ) → All digit (eight_of a b c d e f g h) → w ≡ joined_of (eight_of a b c d e f g h) → all_of (fours_of (pairs_of (w - threes))) ≡ value_of (eight_of a b c d e f g h)
unfolding value_of
makes a b c d e f g h w al is = go (all_bounded (eight_of a b c d e f g h) al)
  where
    go : EachNumber DigitBounds (eight_of a b c d e f g h) → all_of (fours_of (pairs_of (w - threes))) ≡ value_of (eight_of a b c d e f g h)
    go (ka, (kb, (kc, (kd, (ke, (kf, (kg, (kh, t)))))))) =
        ap (λ (n : ℕ). all_of (fours_of (pairs_of (n - threes)))) is
        ∙ ap (λ (n : ℕ). all_of (fours_of (pairs_of n))) (worths (eight_of a b c d e f g h) (ka, (kb, (kc, (kd, (ke, (kf, (kg, (kh, t)))))))))
        ∙ sums_make (worth a) (worth b) (worth c) (worth d) (worth e) (worth f) (worth g) (worth h) (worth_le a ka) (worth_le b kb) (worth_le c kc) (worth_le d kd) (worth_le e ke) (worth_le f kf) (worth_le g kg) (worth_le h kh)

-- eight joined digits lie between eight times `0` and eight times `9`
pub joined_bounds : (a b c d e f g h : ℕ) → EachNumber DigitBounds (eight_of a b c d e f g h) → (threes ≤ joined_of (eight_of a b c d e f g h)) × (joined_of (eight_of a b c d e f g h) ≤ 0x3939_3939_3939_3939)
joined_bounds a b c d e f g h (ka, (kb, (kc, (kd, (ke, (kf, (kg, (kh, t)))))))) =
    let la = ka.0 in let lb = kb.0 in let lc = kc.0 in let ld = kd.0 in let le = ke.0 in let lf = kf.0 in let lg = kg.0 in let lh = kh.0 in
    let ua = ka.1 in let ub = kb.1 in let uc = kc.1 in let ud = kd.1 in let ue = ke.1 in let uf = kf.1 in let ug = kg.1 in let uh = kh.1 in
    (omega arith, omega arith)

-- where the test of eight bytes passed, they are digits
pub digits_test_passed : (a b c d e f g h w : ℕ) (r : Bool) → EachNumber (λ (x : ℕ). x < 2 ^ 8) (eight_of a b c d e f g h) → w ≡ joined_of (eight_of a b c d e f g h) → DigitsTest w r → r ≡ true → All digit (eight_of a b c d e f g h)
digits_test_passed a b c d e f g h w true l is t p = t a b c d e f g h l is
digits_test_passed a b c d e f g h w false l is t p = let z : ◌≡◌ {A = ℕ} 0 1 = cc in absurd (omega arith)

-- where the test of eight bytes failed, they are not all digits
pub digits_test_failed : (a b c d e f g h w : ℕ) (r : Bool) → EachNumber (λ (x : ℕ). x < 2 ^ 8) (eight_of a b c d e f g h) → w ≡ joined_of (eight_of a b c d e f g h) → DigitsTest w r → r ≡ false → All digit (eight_of a b c d e f g h) → ⊥
digits_test_failed a b c d e f g h w true l is t p = let z : ◌≡◌ {A = ℕ} 0 1 = cc in absurd (omega arith)
digits_test_failed a b c d e f g h w false l is t p = t a b c d e f g h l is
