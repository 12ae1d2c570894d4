-- What Utf8.antt computes is what RFC 3629's tables say (Rfc3629.antt), and nothing else: each character has one encoding, which is a
-- sequence of section 4; each sequence encodes one character; the character that bytes begin with is read back; bytes pass the test
-- just where they are sequences one after another. No theorem asks that the numbers of a list are bytes. Assumes nothing.
use Rattle.std.specs.Prelude.{ℕ, zero, suc, ◌+◌, ◌*◌, ◌-◌, ◌/◌, ◌%◌, ◌≤◌, ◌<◌, ◌≡◌, refl, Bool, true, false, ◌&&◌, List, [], ◌∷◌, ◌++◌, eqb, leb, length, take, drop}
use Rattle.std.proofs.Common.{sym, ◌∙◌, ap, subst, div-add-mod', mod-lt, arith, le-leb, eqb-true, length-drop, take-append-drop, length-take-le}
use Rattle.std.proofs.Math.Nat.{div-div-eq-div-mul}
use Rattle.std.proofs.Math.Decide.{dec_lt, dec_le, ℕ_discrete}
use Rattle.std.proofs.Math.Seq.{drop-append_seam}
use Rattle.common.specs.Pick.{pick}
use Rattle.utf8.specs.Utf8.{scalar, encode, byte_at, tail, least_second, highest, second_in_range, lead_two, lead_three, lead_four, lead_of, valid_from, valid_of}
use Rattle.utf8.specs.Encoding.{encode_all}
use Rattle.utf8.specs.Answer.{LeadCharacter, valid, invalid}
use Rattle.utf8.specs.Laws.{scalar_low, scalar_high, scalar_between, encode_one, encode_two, encode_three, encode_four, TableLine, one, two, three, four, none, table_line_is, byte_in, lead_one, lead_two_lem, lead_three_lem, lead_four_lem, LeadCases, led_one, led_two, led_three, led_four, led_none, lead_case_is, tail_byte, second_byte, used_within, valid_after, valid_stops}
use Rattle.utf8.specs.Rfc3629.{In, Tail, Encoded, line_one, line_two, line_three, line_four, Sequence, utf8_1, utf8_2, utf8_3_e0, utf8_3_e1, utf8_3_ed, utf8_3_ee, utf8_4_f0, utf8_4_f1, utf8_4_f4, Valid, more}
use Rattle.utf8.specs.Rfc3629 as table

-- ---- section 3's table and `encode`
-- a number in digits of six bits: the last is the remainder by 64, the others the quotient
split : (x y : ℕ) → y < 64 → ((x * 64 + y) / 64 ≡ x) × ((x * 64 + y) % 64 ≡ y)
split x y h =
    let e : (x * 64 + y) / 64 * 64 + (x * 64 + y) % 64 ≡ x * 64 + y = div-add-mod' (x * 64 + y) 64 in
    let l : (x * 64 + y) % 64 < 64 = mod-lt (x * 64 + y) (omega arith) in
    (omega arith, omega arith)

-- two digits of six bits dropped at once, or one after the other
twice : (c : ℕ) → c / 4096 ≡ c / 64 / 64
twice c = sym (div-div-eq-div-mul c 64 64)

-- three digits of six bits dropped at once, or one after the other
thrice : (c : ℕ) → c / 262144 ≡ c / 64 / 64 / 64
thrice c = sym (ap (λ (n : ℕ). n / 64) (div-div-eq-div-mul c 64 64) ∙ div-div-eq-div-mul c 4096 64)

-- no number is a character and is none
never : (c : ℕ) → scalar c ≡ true → scalar c ≡ false → ⊥
never c t f = let e : ◌≡◌ {A = Bool} true false = sym t ∙ f in let z : ◌≡◌ {A = ℕ} 0 1 = cc in omega arith

-- a number below 10000 (hex) that is no surrogate is a character
apart : (c : ℕ) → c < 65536 → (In 55296 57343 c → ⊥) → scalar c ≡ true
apart c h n = go (dec_lt c 55296) (dec_le 57344 c)
  where
    go : Dec (c < 55296) → Dec (57344 ≤ c) → scalar c ≡ true
    go (yes l) _ = scalar_low c l
    go (no k) (yes l) = scalar_high c l (omega arith)
    go (no k) (no j) = absurd (n (omega arith, omega arith))

-- what section 3's table says of a number is its encoding, and the number is a character
pub table_only : {c : ℕ} {bs : List ℕ} → Encoded c bs → (scalar c ≡ true) × (bs ≡ encode c)
table_only {c} (line_one (l, h)) = (scalar_low c (omega arith), sym (encode_one c (omega arith)))
table_only {c} (line_two {x = x} {y = y} (l, h) e xl yl) =
    let (p, q) = split x y yl in
    let d : c / 64 ≡ x = ap (λ (n : ℕ). n / 64) e ∙ p in
    let m : c % 64 ≡ y = ap (λ (n : ℕ). n % 64) e ∙ q in
    (scalar_low c (omega arith), sym (encode_two c l (omega arith) ∙ rw (d, m)))
table_only {c} (line_three {x = x} {y = y} {z = z} (l, h) n e xl yl zl) =
    let s : scalar c ≡ true = apart c (omega arith) n in
    let f : c ≡ (x * 64 + y) * 64 + z = omega arith in
    let (p, q) = split (x * 64 + y) z zl in
    let (p₂, q₂) = split x y yl in
    let m : c % 64 ≡ z = ap (λ (k : ℕ). k % 64) f ∙ q in
    let d : c / 64 ≡ x * 64 + y = ap (λ (k : ℕ). k / 64) f ∙ p in
    let m₂ : (c / 64) % 64 ≡ y = ap (λ (k : ℕ). k % 64) d ∙ q₂ in
    let d₂ : c / 4096 ≡ x = twice c ∙ ap (λ (k : ℕ). k / 64) d ∙ p₂ in
    (s, sym (encode_three c l (omega arith) s ∙ rw (d₂, m₂, m)))
table_only {c} (line_four {x = x} {y = y} {z = z} {w = w} (l, h) e xl yl zl wl) =
    let f : c ≡ ((x * 64 + y) * 64 + z) * 64 + w = omega arith in
    let (p, q) = split ((x * 64 + y) * 64 + z) w wl in
    let (p₂, q₂) = split (x * 64 + y) z zl in
    let (p₃, q₃) = split x y yl in
    let m : c % 64 ≡ w = ap (λ (k : ℕ). k % 64) f ∙ q in
    let d : c / 64 ≡ (x * 64 + y) * 64 + z = ap (λ (k : ℕ). k / 64) f ∙ p in
    let m₂ : (c / 64) % 64 ≡ z = ap (λ (k : ℕ). k % 64) d ∙ q₂ in
    let d₂ : c / 64 / 64 ≡ x * 64 + y = ap (λ (k : ℕ). k / 64) d ∙ p₂ in
    let m₃ : (c / 4096) % 64 ≡ y = ap (λ (k : ℕ). k % 64) (twice c ∙ d₂) ∙ q₃ in
    let d₃ : c / 262144 ≡ x = thrice c ∙ ap (λ (k : ℕ). k / 64) d₂ ∙ p₃ in
    (scalar_high c (omega arith) h, sym (encode_four c l h ∙ rw (d₃, m₃, m₂, m)))

-- the encoding of a character is what section 3's table says
pub table_is : (c : ℕ) → scalar c ≡ true → Encoded c (encode c)
table_is c s = go (table_line_is c)
  where
    surrogate : In 55296 57343 c → ⊥
    surrogate (l, h) = never c s (scalar_between c l h)

    go : TableLine c → Encoded c (encode c)
    go (one h) = rw (encode_one c h) (line_one {c = c} (omega arith, omega arith))
    go (two l h) =
        let e : c / 64 * 64 + c % 64 ≡ c = div-add-mod' c 64 in
        let m : c % 64 < 64 = mod-lt c (omega arith) in
        rw (encode_two c l h) (line_two {c = c} {x = c / 64} {y = c % 64} (l, omega arith) (sym e) (omega arith) m)
    go (three l h _) =
        let e : c / 64 * 64 + c % 64 ≡ c = div-add-mod' c 64 in
        let m : c % 64 < 64 = mod-lt c (omega arith) in
        let e₂ : c / 64 / 64 * 64 + (c / 64) % 64 ≡ c / 64 = div-add-mod' (c / 64) 64 in
        let m₂ : (c / 64) % 64 < 64 = mod-lt (c / 64) (omega arith) in
        let t : c / 4096 ≡ c / 64 / 64 = twice c in
        rw (encode_three c l h s) (line_three {c = c} {x = c / 4096} {y = (c / 64) % 64} {z = c % 64} (l, omega arith) surrogate (omega arith) (omega arith) m₂ m)
    go (four l h) =
        let e : c / 64 * 64 + c % 64 ≡ c = div-add-mod' c 64 in
        let m : c % 64 < 64 = mod-lt c (omega arith) in
        let e₂ : c / 64 / 64 * 64 + (c / 64) % 64 ≡ c / 64 = div-add-mod' (c / 64) 64 in
        let m₂ : (c / 64) % 64 < 64 = mod-lt (c / 64) (omega arith) in
        let t : c / 4096 ≡ c / 64 / 64 = twice c in
        let e₃ : c / 4096 / 64 * 64 + (c / 4096) % 64 ≡ c / 4096 = div-add-mod' (c / 4096) 64 in
        let m₃ : (c / 4096) % 64 < 64 = mod-lt (c / 4096) (omega arith) in
        let u : c / 4096 / 64 ≡ c / 262144 = div-div-eq-div-mul c 4096 64 in
        rw (encode_four c l h) (line_four {c = c} {x = c / 262144} {y = (c / 4096) % 64} {z = (c / 64) % 64} {w = c % 64} (l, h) (omega arith) (omega arith) m₃ m₂ m)
    go (none f) = absurd (never c s f)

-- ---- section 4's syntax and section 3's table
-- what section 4 asks of a second byte, by each first byte that narrows its range
record Second (a b : ℕ) : Type 0 where
  after_e0 : a ≡ 224 → 160 ≤ b
  after_ed : a ≡ 237 → b ≤ 159
  after_f0 : a ≡ 240 → 144 ≤ b
  after_f4 : a ≡ 244 → b ≤ 143
  is_tail : Tail b

-- a second byte of section 4 passes the test
second_is : (a b : ℕ) → Second a b → second_in_range a b ≡ true
second_is a b s = rw (le-leb (least_second a) b (low (eqb a 224) refl (eqb a 240) refl), le-leb b (highest a) (high (eqb a 237) refl (eqb a 244) refl))
  where
    low : (t : Bool) → eqb a 224 ≡ t → (u : Bool) → eqb a 240 ≡ u → pick t 160 (pick u 144 128) ≤ b
    low true e u f = s.after_e0 (eqb-true a 224 e)
    low false e true f = s.after_f0 (eqb-true a 240 f)
    low false e false f = s.is_tail.0

    high : (t : Bool) → eqb a 237 ≡ t → (u : Bool) → eqb a 244 ≡ u → b ≤ pick t 159 (pick u 143 191)
    high true e u f = s.after_ed (eqb-true a 237 e)
    high false e true f = s.after_f4 (eqb-true a 244 f)
    high false e false f = s.is_tail.1

-- a byte that passes the test for a second byte is one of section 4
second_only : (a b : ℕ) → second_in_range a b ≡ true → Second a b
second_only a b e =
    let (l, h, x, y) = second_byte a b e in
    record {
      after_e0 = λ q. subst (λ (n : ℕ). n ≤ b) (ap least_second q) l;
      after_ed = λ q. subst (λ (n : ℕ). b ≤ n) (ap highest q) h;
      after_f0 = λ q. subst (λ (n : ℕ). n ≤ b) (ap least_second q) l;
      after_f4 = λ q. subst (λ (n : ℕ). b ≤ n) (ap highest q) h;
      is_tail = (x, y);
    }

-- a tail byte passes the test
tail_is : (b : ℕ) → Tail b → tail b ≡ true
tail_is b (l, h) = rw (le-leb 128 b l, le-leb b 191 h)

-- a number in a range passes its test
in_is : (l a h : ℕ) → l ≤ a → a ≤ h → leb l a && leb a h ≡ true
in_is l a h x y = rw (le-leb l a x, le-leb a h y)

-- the second byte of the third line of section 3's table is one of section 4
second_three : {c : ℕ} (x y z : ℕ) → In 2048 65535 c → (In 55296 57343 c → ⊥) → c ≡ x * 4096 + y * 64 + z → x < 16 → y < 64 → z < 64 → Second (224 + x) (128 + y)
second_three {c} x y z (l, h) s e xl yl zl = record {
  after_e0 = λ q. omega arith;
  after_ed = λ q. below q (dec_le (128 + y) 159);
  after_f0 = λ q. absurd (omega arith);
  after_f4 = λ q. absurd (omega arith);
  is_tail = (omega arith, omega arith);
}
  where
    below : 224 + x ≡ 237 → Dec (128 + y ≤ 159) → 128 + y ≤ 159
    below q (yes j) = j
    below q (no j) = absurd (s (omega arith, omega arith))

-- the second byte of the fourth line of section 3's table is one of section 4
second_four : {c : ℕ} (x y z w : ℕ) → In 65536 1114111 c → c ≡ x * 262144 + y * 4096 + z * 64 + w → x < 8 → y < 64 → z < 64 → w < 64 → Second (240 + x) (128 + y)
second_four x y z w (l, h) e xl yl zl wl = record {
  after_e0 = λ q. absurd (omega arith);
  after_ed = λ q. absurd (omega arith);
  after_f0 = λ q. omega arith;
  after_f4 = λ q. omega arith;
  is_tail = (omega arith, omega arith);
}

-- whatever follows, the bytes of a character in section 3's table are read as that character, in all of them
pub table_leads : {c : ℕ} {bs : List ℕ} → Encoded c bs → (r : List ℕ) → lead_of (bs ++ r) ≡ valid c (length bs)
table_leads {c} (line_one (l, h)) r = sym (lead_one (c ∷ r) c refl (omega arith))
table_leads {c} (line_two {x = x} {y = y} (l, h) e xl yl) r =
    let t : tail (128 + y) ≡ true = tail_is (128 + y) (omega arith, omega arith) in
    let n : (192 + x - 192) * 64 + (128 + y - 128) ≡ c = omega arith in
    let k : lead_two (192 + x) (128 + y) ≡ valid c 2 = rw (t, n) in
    sym (lead_two_lem ((192 + x) ∷ (128 + y) ∷ r) (192 + x) (128 + y) refl refl (in_is 194 (192 + x) 223 (omega arith) (omega arith))) ∙ k
table_leads {c} (line_three {x = x} {y = y} {z = z} (l, h) s e xl yl zl) r =
    let u : second_in_range (224 + x) (128 + y) ≡ true =
    second_is (224 + x) (128 + y) (second_three x y z (l, h) s e xl yl zl) in
    let t : tail (128 + z) ≡ true = tail_is (128 + z) (omega arith, omega arith) in
    let n : (224 + x - 224) * 4096 + (128 + y - 128) * 64 + (128 + z - 128) ≡ c = omega arith in
    let k : lead_three (224 + x) (128 + y) (128 + z) ≡ valid c 3 = rw (u, t, n) in
    sym (lead_three_lem ((224 + x) ∷ (128 + y) ∷ (128 + z) ∷ r) (224 + x) (128 + y) (128 + z) refl refl refl (in_is 224 (224 + x) 239 (omega arith) (omega arith))) ∙ k
table_leads {c} (line_four {x = x} {y = y} {z = z} {w = w} (l, h) e xl yl zl wl) r =
    let u : second_in_range (240 + x) (128 + y) ≡ true =
    second_is (240 + x) (128 + y) (second_four x y z w (l, h) e xl yl zl wl) in
    let t : tail (128 + z) ≡ true = tail_is (128 + z) (omega arith, omega arith) in
    let v : tail (128 + w) ≡ true = tail_is (128 + w) (omega arith, omega arith) in
    let n : (240 + x - 240) * 262144 + (128 + y - 128) * 4096 + (128 + z - 128) * 64 + (128 + w - 128) ≡ c = omega arith in
    let k : lead_four (240 + x) (128 + y) (128 + z) (128 + w) ≡ valid c 4 = rw (u, t, v, n) in
    sym (lead_four_lem ((240 + x) ∷ (128 + y) ∷ (128 + z) ∷ (128 + w) ∷ r) (240 + x) (128 + y) (128 + z) (128 + w) refl refl refl refl
    (in_is 240 (240 + x) 244 (omega arith) (omega arith))) ∙ k

-- two bytes of section 4 are a line of section 3's table
two_bytes : (a b : ℕ) → In 194 223 a → Tail b → Encoded ((a - 192) * 64 + (b - 128)) (a ∷ b ∷ [])
two_bytes a b (al, ah) (bl, bh) =
    let p : 192 + (a - 192) ≡ a = omega arith in
    let q : 128 + (b - 128) ≡ b = omega arith in
    rw (p, q) at (line_two {c = (a - 192) * 64 + (b - 128)} {x = a - 192} {y = b - 128} (omega arith, omega arith) refl (omega arith) (omega arith))

-- three bytes of section 4 are a line of section 3's table
three_bytes : (a b d : ℕ) → In 224 239 a → Second a b → Tail d → Encoded ((a - 224) * 4096 + (b - 128) * 64 + (d - 128)) (a ∷ b ∷ d ∷ [])
three_bytes a b d (al, ah) s (dl, dh) =
    let (bl, bh) = s.is_tail in
    let p : 224 + (a - 224) ≡ a = omega arith in
    let q : 128 + (b - 128) ≡ b = omega arith in
    let r : 128 + (d - 128) ≡ d = omega arith in
    rw (p, q, r) at
    (line_three {c = (a - 224) * 4096 + (b - 128) * 64 + (d - 128)} {x = a - 224} {y = b - 128} {z = d - 128}
    (least (dec_lt 224 a), omega arith) surrogate refl (omega arith) (omega arith) (omega arith))
  where
    least : Dec (224 < a) → 2048 ≤ (a - 224) * 4096 + (b - 128) * 64 + (d - 128)
    least (yes h) = let (bl, bh) = s.is_tail in omega arith
    least (no h) = let k : 160 ≤ b = s.after_e0 (omega arith) in omega arith

    surrogate : In 55296 57343 ((a - 224) * 4096 + (b - 128) * 64 + (d - 128)) → ⊥
    surrogate (l, h) =
        let (bl, bh) = s.is_tail in
        let k : b ≤ 159 = s.after_ed (omega arith) in
        omega arith

-- four bytes of section 4 are a line of section 3's table
four_bytes : (a b d e : ℕ) → In 240 244 a → Second a b → Tail d → Tail e
    → Encoded ((a - 240) * 262144 + (b - 128) * 4096 + (d - 128) * 64 + (e - 128)) (a ∷ b ∷ d ∷ e ∷ [])
four_bytes a b d e (al, ah) s (dl, dh) (el, eh) =
    let (bl, bh) = s.is_tail in
    let p : 240 + (a - 240) ≡ a = omega arith in
    let q : 128 + (b - 128) ≡ b = omega arith in
    let r : 128 + (d - 128) ≡ d = omega arith in
    let t : 128 + (e - 128) ≡ e = omega arith in
    rw (p, q, r, t) at
    (line_four {c = (a - 240) * 262144 + (b - 128) * 4096 + (d - 128) * 64 + (e - 128)} {x = a - 240} {y = b - 128} {z = d - 128} {w = e - 128}
    (least (dec_lt 240 a), most (dec_lt a 244)) refl (omega arith) (omega arith) (omega arith) (omega arith))
  where
    least : Dec (240 < a) → 65536 ≤ (a - 240) * 262144 + (b - 128) * 4096 + (d - 128) * 64 + (e - 128)
    least (yes h) = omega arith
    least (no h) = let k : 144 ≤ b = s.after_f0 (omega arith) in omega arith

    most : Dec (a < 244) → (a - 240) * 262144 + (b - 128) * 4096 + (d - 128) * 64 + (e - 128) ≤ 1114111
    most (yes h) = let (bl, bh) = s.is_tail in omega arith
    most (no h) = let k : b ≤ 143 = s.after_f4 (omega arith) in omega arith

-- a tail byte after a first byte that does not narrow the second's range is a second byte
free : (a b : ℕ) → (a ≡ 224 → ⊥) → (a ≡ 237 → ⊥) → (a ≡ 240 → ⊥) → (a ≡ 244 → ⊥) → Tail b → Second a b
free a b w x y z t = record {
  after_e0 = λ q. absurd (w q);
  after_ed = λ q. absurd (x q);
  after_f0 = λ q. absurd (y q);
  after_f4 = λ q. absurd (z q);
  is_tail = t;
}

-- each sequence of section 4 is a line of section 3's table
sequence_table : {bs : List ℕ} → Sequence bs → (c : ℕ) × Encoded c bs
sequence_table (utf8_1 {a = a} h) = (a, line_one h)
sequence_table (utf8_2 {a = a} {b = b} h t) = (_, two_bytes a b h t)
sequence_table (utf8_3_e0 {b = b} {c = d} (l, h) t) = (_, three_bytes 224 b d (omega arith, omega arith) (second_only 224 b (in_is 160 b 191 l h)) t)
sequence_table (utf8_3_e1 {a = a} {b = b} {c = d} (l, h) s t) =
    (_, three_bytes a b d (omega arith, omega arith) (free a b (λ q. omega arith) (λ q. omega arith) (λ q. omega arith) (λ q. omega arith) s) t)
sequence_table (utf8_3_ed {b = b} {c = d} (l, h) t) = (_, three_bytes 237 b d (omega arith, omega arith) (second_only 237 b (in_is 128 b 159 l h)) t)
sequence_table (utf8_3_ee {a = a} {b = b} {c = d} (l, h) s t) =
    (_, three_bytes a b d (omega arith, omega arith) (free a b (λ q. omega arith) (λ q. omega arith) (λ q. omega arith) (λ q. omega arith) s) t)
sequence_table (utf8_4_f0 {b = b} {c = d} {d = e} (l, h) t u) = (_, four_bytes 240 b d e (omega arith, omega arith) (second_only 240 b (in_is 144 b 191 l h)) t u)
sequence_table (utf8_4_f1 {a = a} {b = b} {c = d} {d = e} (l, h) s t u) =
    (_, four_bytes a b d e (omega arith, omega arith) (free a b (λ q. omega arith) (λ q. omega arith) (λ q. omega arith) (λ q. omega arith) s) t u)
sequence_table (utf8_4_f4 {b = b} {c = d} {d = e} (l, h) t u) = (_, four_bytes 244 b d e (omega arith, omega arith) (second_only 244 b (in_is 128 b 143 l h)) t u)

-- three bytes in section 4's ranges are one of the four alternatives of UTF8-3
three_sequence : (a b d : ℕ) → In 224 239 a → Second a b → Tail d → Sequence (a ∷ b ∷ d ∷ [])
three_sequence a b d (l, h) s t = go (ℕ_discrete a 224) (ℕ_discrete a 237) (dec_lt a 237)
  where
    go : Dec (a ≡ 224) → Dec (a ≡ 237) → Dec (a < 237) → Sequence (a ∷ b ∷ d ∷ [])
    go (yes e) _ _ = rw e (utf8_3_e0 (s.after_e0 e, s.is_tail.1) t)
    go (no n) (yes e) _ = rw e (utf8_3_ed (s.is_tail.0, s.after_ed e) t)
    go (no n) (no m) (yes k) = utf8_3_e1 {a = a} (omega arith, omega arith) s.is_tail t
    go (no n) (no m) (no k) = utf8_3_ee {a = a} (omega arith, h) s.is_tail t

-- four bytes in section 4's ranges are one of the three alternatives of UTF8-4
four_sequence : (a b d e : ℕ) → In 240 244 a → Second a b → Tail d → Tail e → Sequence (a ∷ b ∷ d ∷ e ∷ [])
four_sequence a b d e (l, h) s t u = go (ℕ_discrete a 240) (ℕ_discrete a 244)
  where
    go : Dec (a ≡ 240) → Dec (a ≡ 244) → Sequence (a ∷ b ∷ d ∷ e ∷ [])
    go (yes q) _ = rw q (utf8_4_f0 (s.after_f0 q, s.is_tail.1) t u)
    go (no n) (yes q) = rw q (utf8_4_f4 (s.is_tail.0, s.after_f4 q) t u)
    go (no n) (no m) = utf8_4_f1 {a = a} (omega arith, omega arith) s.is_tail t u

-- each line of section 3's table is a sequence of section 4
table_sequence : {c : ℕ} {bs : List ℕ} → Encoded c bs → Sequence bs
table_sequence (line_one h) = utf8_1 h
table_sequence (line_two {x = x} {y = y} (l, h) e xl yl) = utf8_2 {a = 192 + x} {b = 128 + y} (omega arith, omega arith) (omega arith, omega arith)
table_sequence (line_three {x = x} {y = y} {z = z} (l, h) s e xl yl zl) =
    three_sequence (224 + x) (128 + y) (128 + z) (omega arith, omega arith) (second_three x y z (l, h) s e xl yl zl) (omega arith, omega arith)
table_sequence (line_four {x = x} {y = y} {z = z} {w = w} (l, h) e xl yl zl wl) =
    four_sequence (240 + x) (128 + y) (128 + z) (128 + w) (omega arith, omega arith) (second_four x y z w (l, h) e xl yl zl wl) (omega arith, omega arith) (omega arith, omega arith)

-- ---- the theorems
-- (a) the encoding of a character is a sequence
pub encode_is : (c : ℕ) → scalar c ≡ true → Sequence (encode c)
encode_is c s = table_sequence (table_is c s)

-- (b) each sequence is the encoding of a character
pub sequence_encodes : {bs : List ℕ} → Sequence bs → (c : ℕ) × ((scalar c ≡ true) × (bs ≡ encode c))
sequence_encodes q = let (c, e) = sequence_table q in (c, table_only e)

-- the character that an encoding begins with is the one encoded, whatever follows
pub encode_leads : (c : ℕ) (r : List ℕ) → scalar c ≡ true → lead_of (encode c ++ r) ≡ valid c (length (encode c))
encode_leads c r s = table_leads (table_is c s) r

-- (c) two characters with the same encoding are the same
pub encode_injective : (c d : ℕ) → scalar c ≡ true → scalar d ≡ true → encode c ≡ encode d → c ≡ d
encode_injective c d s t e =
    let p : lead_of (encode c ++ []) ≡ valid c (length (encode c)) = encode_leads c [] s in
    let q : lead_of (encode d ++ []) ≡ valid d (length (encode d)) = encode_leads d [] t in
    let r : valid c (length (encode c)) ≡ valid d (length (encode d)) = sym p ∙ ap (λ (x : List ℕ). lead_of (x ++ [])) e ∙ q in
    cc

-- (d) a sequence is read as the character that it encodes, in all its bytes, whatever follows
pub sequence_leads : {bs : List ℕ} (r : List ℕ) → Sequence bs → (c : ℕ) × ((bs ≡ encode c) × (scalar c ≡ true) × (lead_of (bs ++ r) ≡ valid c (length bs)))
sequence_leads r q = let (c, e) = sequence_table q in let (s, b) = table_only e in (c, (b, s, table_leads e r))

-- the first byte of a list, as a list
first_one : (s : List ℕ) → 0 < length s → byte_at s 0 ∷ [] ≡ take 1 s
first_one [] h = absurd (omega arith)
first_one (a ∷ r) h = refl

-- the first two bytes of a list
first_two : (s : List ℕ) → 1 < length s → byte_at s 0 ∷ byte_at s 1 ∷ [] ≡ take 2 s
first_two [] h = absurd (omega arith)
first_two (a ∷ r) h = ap (λ (x : List ℕ). a ∷ x) (first_one r (omega arith))

-- the first three bytes of a list
first_three : (s : List ℕ) → 2 < length s → byte_at s 0 ∷ byte_at s 1 ∷ byte_at s 2 ∷ [] ≡ take 3 s
first_three [] h = absurd (omega arith)
first_three (a ∷ r) h = ap (λ (x : List ℕ). a ∷ x) (first_two r (omega arith))

-- the first four bytes of a list
first_four : (s : List ℕ) → 3 < length s → byte_at s 0 ∷ byte_at s 1 ∷ byte_at s 2 ∷ byte_at s 3 ∷ [] ≡ take 4 s
first_four [] h = absurd (omega arith)
first_four (a ∷ r) h = ap (λ (x : List ℕ). a ∷ x) (first_three r (omega arith))

-- what is read as a character is a line of section 3's table
lead_table : (s : List ℕ) (c k : ℕ) → lead_of s ≡ valid c k → Encoded c (take k s)
lead_table s c k = go (lead_of s) (lead_case_is s)
  where
    go : (l : LeadCharacter) → LeadCases s l → l ≡ valid c k → Encoded c (take k s)
    go _ (led_one h) e =
        let n : byte_at s 0 ≡ c = cc in
        let m : 1 ≡ k = cc in
        rw (← n, ← m, ← first_one s (byte_in s 0 (omega arith))) (line_one {c = byte_at s 0} (omega arith, omega arith))
    go _ (led_two l h t) e =
        let b : Tail (byte_at s 1) = tail_byte (byte_at s 1) t in
        let n : (byte_at s 0 - 192) * 64 + (byte_at s 1 - 128) ≡ c = cc in
        let m : 2 ≡ k = cc in
        rw (← n, ← m, ← first_two s (byte_in s 1 (omega (arith, b.1)))) (two_bytes (byte_at s 0) (byte_at s 1) (l, h) b)
    go _ (led_three l h t u) e =
        let b : Tail (byte_at s 2) = tail_byte (byte_at s 2) u in
        let n : (byte_at s 0 - 224) * 4096 + (byte_at s 1 - 128) * 64 + (byte_at s 2 - 128) ≡ c = cc in
        let m : 3 ≡ k = cc in
        rw (← n, ← m, ← first_three s (byte_in s 2 (omega (arith, b.1)))) (three_bytes (byte_at s 0) (byte_at s 1) (byte_at s 2) (l, h) (second_only (byte_at s 0) (byte_at s 1) t) b)
    go _ (led_four l h t u v) e =
        let b : Tail (byte_at s 3) = tail_byte (byte_at s 3) v in
        let n : (byte_at s 0 - 240) * 262144 + (byte_at s 1 - 128) * 4096 + (byte_at s 2 - 128) * 64 + (byte_at s 3 - 128) ≡ c = cc in
        let m : 4 ≡ k = cc in
        rw (← n, ← m, ← first_four s (byte_in s 3 (omega (arith, b.1))))
        (four_bytes (byte_at s 0) (byte_at s 1) (byte_at s 2) (byte_at s 3) (l, h) (second_only (byte_at s 0) (byte_at s 1) t) (tail_byte (byte_at s 2) u) b)
    go _ led_none e = let z : ◌≡◌ {A = ℕ} 0 1 = cc in absurd (omega arith)

-- (d) the other way round: what is read as a character is one, and its encoding stands there
pub lead_is : (s : List ℕ) (c k : ℕ) → lead_of s ≡ valid c k → (scalar c ≡ true) × (take k s ≡ encode c) × (k ≡ length (encode c))
lead_is s c k e =
    let (t, b) = table_only (lead_table s c k e) in
    let (p, q) = used_within s c k e in
    (t, b, sym (length-take-le k s q) ∙ ap length b)

-- (d) where no character is read, the bytes begin with no sequence
pub lead_no : (s bs r : List ℕ) → lead_of s ≡ invalid → Sequence bs → s ≡ bs ++ r → ⊥
lead_no s bs r e q f =
    let (c, t) = sequence_table q in
    let g : valid c (length bs) ≡ invalid = sym (table_leads t r) ∙ ap lead_of (sym f) ∙ e in
    let z : ◌≡◌ {A = ℕ} 0 1 = cc in
    omega arith

-- every number of the list is a character
abbrev pub Scalars : List ℕ → Type 0
Scalars [] = Unit
Scalars (c ∷ r) = (scalar c ≡ true) × Scalars r

-- (e) encodings one after another are valid
pub all_valid : (cs : List ℕ) → Scalars cs → Valid (encode_all cs)
unfolding encode_all
all_valid [] h = table.none
all_valid (c ∷ r) (h, t) = more (encode_is c h) (all_valid r t)

-- (e) the other way round: valid bytes are the encodings of characters
pub valid_all : {bs : List ℕ} → Valid bs → (cs : List ℕ) × (Scalars cs × (bs ≡ encode_all cs))
unfolding encode_all
valid_all table.none = ([], (tt, refl))
valid_all (more {bs = bs} {r = r} q v) =
    let (c, (s, e)) = sequence_encodes q in
    let (cs, (t, f)) = valid_all v in
    (c ∷ cs, ((s, t), ap (λ (x : List ℕ). x ++ r) e ∙ ap (λ (x : List ℕ). encode c ++ x) f))

-- (f) valid bytes pass the test
pub valid_only : {bs : List ℕ} → Valid bs → valid_of bs ≡ true
unfolding valid_from
valid_only table.none = refl
valid_only (more {bs = bs} {r = r} q v) =
    let (c, e) = sequence_table q in
    valid_after (bs ++ r) c (length bs) (table_leads e r) ∙ ap valid_of (drop-append_seam bs r) ∙ valid_only v

-- bytes that pass the test are valid, if those that are fewer are
valid_step : (s : List ℕ) → ((t : List ℕ) → length t < length s → valid_of t ≡ true → Valid t) → valid_of s ≡ true → Valid s
valid_step [] ih e = table.none
valid_step (a ∷ r) ih e = go (a ∷ r) (omega arith) ih e (lead_of (a ∷ r)) refl
  where
    go : (s : List ℕ) → 0 < length s → ((t : List ℕ) → length t < length s → valid_of t ≡ true → Valid t) → valid_of s ≡ true → (l : LeadCharacter) → lead_of s ≡ l → Valid s
    go s h ih e (valid c k) f =
        let (p, q) = used_within s c k f in
        let (t, b, m) = lead_is s c k f in
        let rest : Valid (drop k s) = ih (drop k s) (omega (arith, length-drop k s)) (sym (valid_after s c k f) ∙ e) in
        let first : Sequence (take k s) = rw b (encode_is c t) in
        subst Valid (take-append-drop k s) (more first rest)
    go s h ih e invalid f = let z : ◌≡◌ {A = Bool} false true = sym (valid_stops s h f) ∙ e in absurd (let w : ◌≡◌ {A = ℕ} 0 1 = cc in omega arith)

-- (f) bytes that pass the test are valid
pub valid_is : (s : List ℕ) → valid_of s ≡ true → Valid s
valid_is s = go (length s) s (omega arith)
  where
    go : (n : ℕ) (s : List ℕ) → length s ≤ n → valid_of s ≡ true → Valid s
    go zero s h e = valid_step s (λ t l f. absurd (omega arith)) e
    go (suc n) s h e = valid_step s (λ t l f. go n t (omega arith) f) e
