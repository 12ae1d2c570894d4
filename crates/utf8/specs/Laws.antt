-- What the definitions of Utf8.antt say at each range of numbers and each kind of first byte: the laws that the code's proofs and
-- the theorems of Agree.antt cite. Assumes nothing.
use Rattle.std.specs.Prelude.{ℕ, zero, suc, ◌+◌, ◌*◌, ◌-◌, ◌/◌, ◌%◌, ◌≤◌, ◌<◌, ◌≡◌, refl, Bool, true, false, ◌&&◌, List, [], ◌∷◌, eqb, leb, ltb, length, take, drop, get_or}
use Rattle.std.proofs.Common.{sym, ◌∙◌, ap, arith, ltb-true, lt-ltb, le-ltb, le-leb, length-drop, drop_of_length-le, take_all, drop-drop, get_or-drop}
use Rattle.std.proofs.Math.Decide.{dec_lt, dec_le}
use Rattle.std.proofs.lemmas.Bool.{lt-leb}
use Rattle.std.proofs.Math.ListN.{get_or-eq_default}
use Rattle.std.proofs.lemmas.List.Edits.{sets, sets-eq}
use Rattle.common.specs.Pick.{pick}
use Rattle.common.specs.Tests.{both, bounds}
use Rattle.utf8.specs.Utf8.{scalar, encode, byte_at, tail, least_second, highest, second_in_range, lead_two, lead_three, lead_four, lead_of, valid_from, valid_of}
use Rattle.utf8.specs.Answer.{LeadCharacter, valid, invalid, put_at, put_width}

-- ---- which numbers are characters
-- a number below the surrogates is a character
pub scalar_low : (c : ℕ) → c < 55296 → scalar c ≡ true
scalar_low c h = rw (lt-ltb c 55296 h)

-- a number from above the surrogates to 10FFFF is a character
pub scalar_high : (c : ℕ) → 57344 ≤ c → c ≤ 1114111 → scalar c ≡ true
scalar_high c l h = rw (le-ltb c 55296 (omega arith), le-leb 57344 c l, le-leb c 1114111 h)

-- a surrogate is no character
pub scalar_between : (c : ℕ) → 55296 ≤ c → c ≤ 57343 → scalar c ≡ false
scalar_between c l h = rw (le-ltb c 55296 l, lt-leb 57344 c (omega arith))

-- a number above 10FFFF is no character
pub scalar_above : (c : ℕ) → 1114111 < c → scalar c ≡ false
scalar_above c h = rw (le-ltb c 55296 (omega arith), le-leb 57344 c (omega arith), lt-leb c 1114111 h)

-- up to 10FFFF a number that is no surrogate is a character
pub scalar_apart : (c : ℕ) → leb 55296 c && leb c 57343 ≡ false → c ≤ 1114111 → scalar c ≡ true
scalar_apart c e h = go (dec_lt c 55296) (dec_le c 57343)
  where
    go : Dec (c < 55296) → Dec (c ≤ 57343) → scalar c ≡ true
    go (yes l) _ = scalar_low c l
    go (no n) (no m) = scalar_high c (omega arith) h
    go (no n) (yes m) =
        let z : ◌≡◌ {A = Bool} true false = sym (rw (le-leb 55296 c (omega arith), le-leb c 57343 m)) ∙ e in
        absurd (let w : ◌≡◌ {A = ℕ} 0 1 = cc in omega arith)

-- ---- the table's lines
-- a character below 80 (hex) is encoded as `0xxxxxxx`
pub encode_one : (c : ℕ) → c < 128 → encode c ≡ c ∷ []
unfolding encode
encode_one c h = rw (scalar_low c (omega arith), lt-ltb c 128 h)

-- a character from 80 to 7FF (hex) is encoded as `110xxxxx 10xxxxxx`
pub encode_two : (c : ℕ) → 128 ≤ c → c < 2048 → encode c ≡ (192 + c / 64) ∷ (128 + c % 64) ∷ []
unfolding encode
encode_two c l h = rw (scalar_low c (omega arith), le-ltb c 128 l, lt-ltb c 2048 h)

-- a character from 800 to FFFF (hex) is encoded as `1110xxxx 10xxxxxx 10xxxxxx`
pub encode_three : (c : ℕ) → 2048 ≤ c → c < 65536 → scalar c ≡ true → encode c ≡ (224 + c / 4096) ∷ (128 + (c / 64) % 64) ∷ (128 + c % 64) ∷ []
unfolding encode
encode_three c l h e = rw (e, le-ltb c 128 (omega arith), le-ltb c 2048 l, lt-ltb c 65536 h)

-- a character from 10000 (hex) on is encoded as `11110xxx 10xxxxxx 10xxxxxx 10xxxxxx`
pub encode_four : (c : ℕ) → 65536 ≤ c → c ≤ 1114111
    → encode c ≡ (240 + c / 262144) ∷ (128 + (c / 4096) % 64) ∷ (128 + (c / 64) % 64) ∷ (128 + c % 64) ∷ []
unfolding encode
encode_four c l h = rw (scalar_high c (omega arith) h, le-ltb c 128 (omega arith), le-ltb c 2048 (omega arith), le-ltb c 65536 l)

-- a number that is no character has no encoding
pub encode_none : (c : ℕ) → scalar c ≡ false → encode c ≡ []
unfolding encode
encode_none c e = rw e

-- the line of section 3's table that a number belongs to
pub data TableLine (c : ℕ) : Type 0 where
  one : c < 128 → TableLine c
  two : 128 ≤ c → c < 2048 → TableLine c
  three : 2048 ≤ c → c < 65536 → scalar c ≡ true → TableLine c
  four : 65536 ≤ c → c ≤ 1114111 → TableLine c
  none : scalar c ≡ false → TableLine c

-- each number belongs to a line of section 3's table, or is no character
pub table_line_is : (c : ℕ) → TableLine c
table_line_is c = go (dec_lt c 128) (dec_lt c 2048) (dec_lt c 55296) (dec_lt c 57344) (dec_lt c 65536) (dec_le c 1114111)
  where
    go : Dec (c < 128) → Dec (c < 2048) → Dec (c < 55296) → Dec (c < 57344) → Dec (c < 65536) → Dec (c ≤ 1114111) → TableLine c
    go (yes h) _ _ _ _ _ = one h
    go (no n) (yes h) _ _ _ _ = two (omega arith) h
    go (no n) (no m) (yes h) _ _ _ = three (omega arith) (omega arith) (scalar_low c h)
    go (no n) (no m) (no k) (yes h) _ _ = none (scalar_between c (omega arith) (omega arith))
    go (no n) (no m) (no k) (no j) (yes h) _ = three (omega arith) h (scalar_high c (omega arith) (omega arith))
    go (no n) (no m) (no k) (no j) (no i) (yes h) = four (omega arith) h
    go (no n) (no m) (no k) (no j) (no i) (no h) = none (scalar_above c (omega arith))

-- what a number's encoding of n bytes says of it: the line of section 3's table by n
pub record Sized (c n : ℕ) : Type 0 where
  pub at_one : n ≡ 1 → c < 128
  pub at_two : n ≡ 2 → (128 ≤ c) × (c < 2048)
  pub at_three : n ≡ 3 → (2048 ≤ c) × (c < 65536) × (scalar c ≡ true)
  pub at_four : n ≡ 4 → (65536 ≤ c) × (c ≤ 1114111)
  pub at_most : n ≤ 4
  pub at_none : n ≡ 0 → encode c ≡ []

-- an encoding's length tells the line of section 3's table
pub sized : (c n : ℕ) → n ≡ length (encode c) → Sized c n
sized c n e = go (table_line_is c)
  where
    go : TableLine c → Sized c n
    go (one h) =
        let k : n ≡ 1 = e ∙ ap length (encode_one c h) in
        record {
          at_one = λ q. h;
          at_two = λ q. absurd (omega arith);
          at_three = λ q. absurd (omega arith);
          at_four = λ q. absurd (omega arith);
          at_most = omega arith;
          at_none = λ q. absurd (omega arith);
        }
    go (two l h) =
        let k : n ≡ 2 = e ∙ ap length (encode_two c l h) in
        record {
          at_one = λ q. absurd (omega arith);
          at_two = λ q. (l, h);
          at_three = λ q. absurd (omega arith);
          at_four = λ q. absurd (omega arith);
          at_most = omega arith;
          at_none = λ q. absurd (omega arith);
        }
    go (three l h s) =
        let k : n ≡ 3 = e ∙ ap length (encode_three c l h s) in
        record {
          at_one = λ q. absurd (omega arith);
          at_two = λ q. absurd (omega arith);
          at_three = λ q. (l, h, s);
          at_four = λ q. absurd (omega arith);
          at_most = omega arith;
          at_none = λ q. absurd (omega arith);
        }
    go (four l h) =
        let k : n ≡ 4 = e ∙ ap length (encode_four c l h) in
        record {
          at_one = λ q. absurd (omega arith);
          at_two = λ q. absurd (omega arith);
          at_three = λ q. absurd (omega arith);
          at_four = λ q. (l, h);
          at_most = omega arith;
          at_none = λ q. absurd (omega arith);
        }
    go (none s) =
        let k : n ≡ 0 = e ∙ ap length (encode_none c s) in
        record {
          at_one = λ q. absurd (omega arith);
          at_two = λ q. absurd (omega arith);
          at_three = λ q. absurd (omega arith);
          at_four = λ q. absurd (omega arith);
          at_most = omega arith;
          at_none = λ q. encode_none c s;
        }

-- ---- what bytes begin with
-- where the byte at k is one, k is a place in the list
pub byte_in : (s : List ℕ) (k : ℕ) → byte_at s k < 256 → k < length s
byte_in s k h = go (dec_lt k (length s))
  where
    go : Dec (k < length s) → k < length s
    go (yes l) = l
    go (no n) = let e : byte_at s k ≡ 256 = get_or-eq_default s 256 (omega arith) in absurd (omega arith)

-- a byte inside the list does not depend on what stands for one past the end
pub byte_at_lem : (s : List ℕ) (k d : ℕ) → k < length s → get_or s k d ≡ byte_at s k
byte_at_lem [] k d h = absurd (omega arith)
byte_at_lem (x ∷ xs) zero d h = refl
byte_at_lem (x ∷ xs) (suc k) d h = byte_at_lem xs k d (omega arith)

-- a first byte below 128 is a character by itself
pub lead_one : (s : List ℕ) (a : ℕ) → a ≡ byte_at s 0 → a < 128 → valid a 1 ≡ lead_of s
unfolding lead_of
lead_one s a ea h = rw (← ea, lt-ltb a 128 h)

-- C2 to DF begin two bytes
pub lead_two_lem : (s : List ℕ) (a b : ℕ) → a ≡ byte_at s 0 → b ≡ byte_at s 1 → leb 194 a && leb a 223 ≡ true → lead_two a b ≡ lead_of s
unfolding lead_of
lead_two_lem s a b ea eb t = rw (← ea, ← eb, le-ltb a 128 (omega (arith, (bounds 194 a 223 t).0)), t)

-- E0 to EF begin three bytes
pub lead_three_lem : (s : List ℕ) (a b c : ℕ) → a ≡ byte_at s 0 → b ≡ byte_at s 1 → c ≡ byte_at s 2 → leb 224 a && leb a 239 ≡ true → lead_three a b c ≡ lead_of s
unfolding lead_of
lead_three_lem s a b c ea eb ec t =
    let l : 224 ≤ a = (bounds 224 a 239 t).0 in
    rw (← ea, ← eb, ← ec, le-ltb a 128 (omega arith), le-leb 194 a (omega arith), lt-leb a 223 (omega arith), t)

-- F0 to F4 begin four bytes
pub lead_four_lem : (s : List ℕ) (a b c d : ℕ) → a ≡ byte_at s 0 → b ≡ byte_at s 1 → c ≡ byte_at s 2 → d ≡ byte_at s 3
    → leb 240 a && leb a 244 ≡ true → lead_four a b c d ≡ lead_of s
unfolding lead_of
lead_four_lem s a b c d ea eb ec ed t =
    let l : 240 ≤ a = (bounds 240 a 244 t).0 in
    rw (← ea, ← eb, ← ec, ← ed, le-ltb a 128 (omega arith), le-leb 194 a (omega arith), lt-leb a 223 (omega arith), le-leb 224 a (omega arith), lt-leb a 239 (omega arith), t)

-- no other byte begins a sequence
pub lead_none : (s : List ℕ) (a : ℕ) → a ≡ byte_at s 0 → 128 ≤ a → leb 194 a && leb a 223 ≡ false → leb 224 a && leb a 239 ≡ false
    → leb 240 a && leb a 244 ≡ false → invalid ≡ lead_of s
unfolding lead_of
lead_none s a ea h x y z = rw (← ea, le-ltb a 128 h, x, y, z)

-- the ways in which bytes begin with a character
pub data LeadCases (s : List ℕ) : LeadCharacter → Type 0 where
  led_one : byte_at s 0 < 128 → LeadCases s (valid (byte_at s 0) 1)
  led_two : 194 ≤ byte_at s 0 → byte_at s 0 ≤ 223 → tail (byte_at s 1) ≡ true → LeadCases s (valid ((byte_at s 0 - 192) * 64 + (byte_at s 1 - 128)) 2)
  led_three : 224 ≤ byte_at s 0 → byte_at s 0 ≤ 239 → second_in_range (byte_at s 0) (byte_at s 1) ≡ true → tail (byte_at s 2) ≡ true
      → LeadCases s (valid ((byte_at s 0 - 224) * 4096 + (byte_at s 1 - 128) * 64 + (byte_at s 2 - 128)) 3)
  led_four : 240 ≤ byte_at s 0 → byte_at s 0 ≤ 244 → second_in_range (byte_at s 0) (byte_at s 1) ≡ true → tail (byte_at s 2) ≡ true → tail (byte_at s 3) ≡ true
      → LeadCases s (valid ((byte_at s 0 - 240) * 262144 + (byte_at s 1 - 128) * 4096 + (byte_at s 2 - 128) * 64 + (byte_at s 3 - 128)) 4)
  led_none : LeadCases s invalid

-- each list of bytes begins in one of the five ways
pub lead_case_is : (s : List ℕ) → LeadCases s (lead_of s)
unfolding lead_of
lead_case_is s = one (ltb (byte_at s 0) 128) refl
  where
    two : (t : Bool) → tail (byte_at s 1) ≡ t → leb 194 (byte_at s 0) && leb (byte_at s 0) 223 ≡ true
        → LeadCases s (pick t (valid ((byte_at s 0 - 192) * 64 + (byte_at s 1 - 128)) 2) invalid)
    two true e h = led_two (bounds 194 (byte_at s 0) 223 h).0 (bounds 194 (byte_at s 0) 223 h).1 e
    two false e h = led_none

    three : (t : Bool) → second_in_range (byte_at s 0) (byte_at s 1) && tail (byte_at s 2) ≡ t → leb 224 (byte_at s 0) && leb (byte_at s 0) 239 ≡ true
        → LeadCases s (pick t (valid ((byte_at s 0 - 224) * 4096 + (byte_at s 1 - 128) * 64 + (byte_at s 2 - 128)) 3) invalid)
    three true e h = let p = both (second_in_range (byte_at s 0) (byte_at s 1)) (tail (byte_at s 2)) e in
        led_three (bounds 224 (byte_at s 0) 239 h).0 (bounds 224 (byte_at s 0) 239 h).1 p.0 p.1
    three false e h = led_none

    four : (t : Bool) → second_in_range (byte_at s 0) (byte_at s 1) && tail (byte_at s 2) && tail (byte_at s 3) ≡ t → leb 240 (byte_at s 0) && leb (byte_at s 0) 244 ≡ true
        → LeadCases s (pick t (valid ((byte_at s 0 - 240) * 262144 + (byte_at s 1 - 128) * 4096 + (byte_at s 2 - 128) * 64 + (byte_at s 3 - 128)) 4) invalid)
    four true e h =
        let p = both (second_in_range (byte_at s 0) (byte_at s 1) && tail (byte_at s 2)) (tail (byte_at s 3)) e in
        let q = both (second_in_range (byte_at s 0) (byte_at s 1)) (tail (byte_at s 2)) p.0 in
        led_four (bounds 240 (byte_at s 0) 244 h).0 (bounds 240 (byte_at s 0) 244 h).1 q.0 q.1 p.1
    four false e h = led_none

    last : (t : Bool) → leb 240 (byte_at s 0) && leb (byte_at s 0) 244 ≡ t
        → LeadCases s (pick t (lead_four (byte_at s 0) (byte_at s 1) (byte_at s 2) (byte_at s 3)) invalid)
    last true h = four (second_in_range (byte_at s 0) (byte_at s 1) && tail (byte_at s 2) && tail (byte_at s 3)) refl h
    last false h = led_none

    third : (t : Bool) → leb 224 (byte_at s 0) && leb (byte_at s 0) 239 ≡ t
        → LeadCases s (pick t (lead_three (byte_at s 0) (byte_at s 1) (byte_at s 2))
        (pick (leb 240 (byte_at s 0) && leb (byte_at s 0) 244) (lead_four (byte_at s 0) (byte_at s 1) (byte_at s 2) (byte_at s 3)) invalid))
    third true h = three (second_in_range (byte_at s 0) (byte_at s 1) && tail (byte_at s 2)) refl h
    third false h = last (leb 240 (byte_at s 0) && leb (byte_at s 0) 244) refl

    next : (t : Bool) → leb 194 (byte_at s 0) && leb (byte_at s 0) 223 ≡ t
        → LeadCases s (pick t (lead_two (byte_at s 0) (byte_at s 1)) (pick (leb 224 (byte_at s 0) && leb (byte_at s 0) 239)
        (lead_three (byte_at s 0) (byte_at s 1) (byte_at s 2))
        (pick (leb 240 (byte_at s 0) && leb (byte_at s 0) 244) (lead_four (byte_at s 0) (byte_at s 1) (byte_at s 2) (byte_at s 3)) invalid)))
    next true h = two (tail (byte_at s 1)) refl h
    next false h = third (leb 224 (byte_at s 0) && leb (byte_at s 0) 239) refl

    one : (t : Bool) → ltb (byte_at s 0) 128 ≡ t
        → LeadCases s (pick t (valid (byte_at s 0) 1) (pick (leb 194 (byte_at s 0) && leb (byte_at s 0) 223) (lead_two (byte_at s 0) (byte_at s 1))
        (pick (leb 224 (byte_at s 0) && leb (byte_at s 0) 239) (lead_three (byte_at s 0) (byte_at s 1) (byte_at s 2))
        (pick (leb 240 (byte_at s 0) && leb (byte_at s 0) 244) (lead_four (byte_at s 0) (byte_at s 1) (byte_at s 2) (byte_at s 3)) invalid))))
    one true h = led_one (ltb-true (byte_at s 0) 128 h)
    one false h = next (leb 194 (byte_at s 0) && leb (byte_at s 0) 223) refl

-- a tail byte lies from 80 to BF
pub tail_byte : (b : ℕ) → tail b ≡ true → (128 ≤ b) × (b ≤ 191)
tail_byte b e = bounds 128 b 191 e

-- the least second byte is not below the tail bytes
pub lowest_tail : (a : ℕ) → 128 ≤ least_second a
lowest_tail a = go (eqb a 224) (eqb a 240)
  where
    go : (t u : Bool) → 128 ≤ pick t 160 (pick u 144 128)
    go true u = omega arith
    go false true = omega arith
    go false false = omega arith

-- the greatest second byte is not above the tail bytes
pub highest_tail : (a : ℕ) → highest a ≤ 191
highest_tail a = go (eqb a 237) (eqb a 244)
  where
    go : (t u : Bool) → pick t 159 (pick u 143 191) ≤ 191
    go true u = omega arith
    go false true = omega arith
    go false false = omega arith

-- a second byte lies in the range of its first byte, and is a tail byte
pub second_byte : (a b : ℕ) → second_in_range a b ≡ true → (least_second a ≤ b) × (b ≤ highest a) × (128 ≤ b) × (b ≤ 191)
second_byte a b e =
    let (l, h) = bounds (least_second a) b (highest a) e in
    (l, h, omega (arith, lowest_tail a), omega (arith, highest_tail a))

-- the second and third of three bytes, by the tests' answers
pub three_tests : (a b c : ℕ) (p q : Bool) → p ≡ second_in_range a b → q ≡ tail c → p && q ≡ true
    → (second_in_range a b && tail c ≡ true) × (128 ≤ b) × (b ≤ 191) × (128 ≤ c) × (c ≤ 191)
three_tests a b c p q ep eq e =
    let (x, y) = both p q e in
    let (l, h, bl, bh) = second_byte a b (sym ep ∙ x) in
    let (cl, ch) = tail_byte c (sym eq ∙ y) in
    (rw (sym ep ∙ x, sym eq ∙ y), bl, bh, cl, ch)

-- the second, third and fourth of four bytes, by the tests' answers
pub four_tests : (a b c d : ℕ) (p q r : Bool) → p ≡ second_in_range a b → q ≡ tail c → r ≡ tail d → p && q && r ≡ true
    → (second_in_range a b && tail c && tail d ≡ true) × (128 ≤ b) × (b ≤ 191) × (128 ≤ c) × (c ≤ 191) × (128 ≤ d) × (d ≤ 191)
four_tests a b c d p q r ep eq er e =
    let (x, y) = both (p && q) r e in
    let (t, bl, bh, cl, ch) = three_tests a b c p q ep eq x in
    let (dl, dh) = tail_byte d (sym er ∙ y) in
    (rw (t, sym er ∙ y), bl, bh, cl, ch, dl, dh)

-- a character stands in bytes of the list, at least one
pub used_within : (s : List ℕ) (c n : ℕ) → lead_of s ≡ valid c n → (0 < n) × (n ≤ length s)
used_within s c n = go (lead_of s) (lead_case_is s)
  where
    go : (l : LeadCharacter) → LeadCases s l → l ≡ valid c n → (0 < n) × (n ≤ length s)
    go _ (led_one h) e = let k : n ≡ 1 = cc in (omega arith, omega (arith, byte_in s 0 (omega arith)))
    go _ (led_two l h t) e = let k : n ≡ 2 = cc in (omega arith, omega (arith, byte_in s 1 (omega (arith, tail_byte (byte_at s 1) t))))
    go _ (led_three l h t u) e = let k : n ≡ 3 = cc in (omega arith, omega (arith, byte_in s 2 (omega (arith, tail_byte (byte_at s 2) u))))
    go _ (led_four l h t u v) e = let k : n ≡ 4 = cc in (omega arith, omega (arith, byte_in s 3 (omega (arith, tail_byte (byte_at s 3) v))))
    go _ led_none e = let z : ◌≡◌ {A = ℕ} 0 1 = cc in absurd (omega arith)

-- ---- an encoding put into a room
-- an encoding that does not fit a room: no byte is put
pub put_short : (at : ℕ) (e o : List ℕ) → length o < at + length e → (0 ≡ put_width at e o) × (o ≡ put_at at e o)
unfolding put_width put_at
put_short at e o h = (rw (lt-leb (at + length e) (length o) h), rw (lt-leb (at + length e) (length o) h))

-- an encoding that fits a room: its bytes are stored one after another
pub put_fits : (at : ℕ) (e o : List ℕ) → at + length e ≤ length o → (length e ≡ put_width at e o) × (sets o at e ≡ put_at at e o)
unfolding put_width put_at
put_fits at e o h = (rw (le-leb (at + length e) (length o) h), rw (le-leb (at + length e) (length o) h) (sets-eq e o at h))

-- ---- one sequence after another
-- bytes are valid after n are passed over just where those from n on are
pub valid_skip : (s : List ℕ) (n : ℕ) → n ≤ length s → valid_from s n ≡ valid_of (drop n s)
unfolding valid_from
valid_skip [] zero h = refl
valid_skip [] (suc n) h = absurd (omega arith)
valid_skip (b ∷ r) zero h = refl
valid_skip (b ∷ r) (suc n) h = valid_skip r n (omega arith)

-- at the end there is no byte left, and that is valid
pub valid_ends : (s : List ℕ) (i : ℕ) → length s ≤ i → true ≡ valid_of (drop i s)
unfolding valid_from
valid_ends s i h = rw (drop_of_length-le s h)

-- bytes that begin with a character are valid just where the rest is
pub valid_after : (s : List ℕ) (c n : ℕ) → lead_of s ≡ valid c n → valid_of s ≡ valid_of (drop n s)
unfolding valid_from
valid_after [] c n e = let (p, q) = used_within [] c n e in absurd (omega arith)
valid_after (b ∷ r) c zero e = let (p, q) = used_within (b ∷ r) c zero e in absurd (omega arith)
valid_after (b ∷ r) c (suc n) e =
    let (p, q) = used_within (b ∷ r) c (suc n) e in
    let k : suc n - 1 ≡ n = omega arith in
    rw (e, k) (valid_skip r n (omega arith))

-- where no sequence stands the bytes are not valid
pub valid_stops : (s : List ℕ) → 0 < length s → lead_of s ≡ invalid → valid_of s ≡ false
unfolding valid_from
valid_stops [] h e = absurd (omega arith)
valid_stops (b ∷ r) h e = rw e

-- the test of all bytes, at place i: a byte below 128 is passed
pub valid_one : (s : List ℕ) (i : ℕ) → i < length s → get_or s i 0 < 128 → valid_of (drop i s) ≡ valid_of (drop (i + 1) s)
valid_one s i h l =
    let a : get_or s i 0 ≡ byte_at (drop i s) 0 = byte_at_lem s i 0 h ∙ ap (get_d' s) (omega arith) ∙ sym (get_or-drop i s 0 256) in
    valid_after (drop i s) (get_or s i 0) 1 (sym (lead_one (drop i s) (get_or s i 0) a l)) ∙ ap valid_of (drop-drop 1 i s)
  where
    get_d' : List ℕ → ℕ → ℕ
    get_d' xs k = get_or xs k 256

-- the rest of the bytes from i, as a part that runs to the end
part : (s : List ℕ) (i : ℕ) → take (length s - i) (drop i s) ≡ drop i s
part s i = take_all (length s - i) (drop i s) (omega (arith, length-drop i s))

-- the test of all bytes, at place i: a character of n bytes is passed
pub valid_here : (s : List ℕ) (i c n : ℕ) → i ≤ length s → valid c n ≡ lead_of (take (length s - i) (drop i s))
    → (0 < n) × (i + n ≤ length s) × (valid_of (drop i s) ≡ valid_of (drop (i + n) s))
valid_here s i c n h e =
    let l : lead_of (drop i s) ≡ valid c n = sym (e ∙ ap lead_of (part s i)) in
    let (p, q) = used_within (drop i s) c n l in
    (omega arith, omega (arith, length-drop i s), valid_after (drop i s) c n l ∙ ap valid_of (drop-drop n i s))

-- the test of all bytes, at place i: where no sequence begins, it fails
pub valid_fails : (s : List ℕ) (i : ℕ) → i < length s → invalid ≡ lead_of (take (length s - i) (drop i s)) → valid_of (drop i s) ≡ false
valid_fails s i h e = valid_stops (drop i s) (omega (arith, length-drop i s)) (sym (e ∙ ap lead_of (part s i)))
