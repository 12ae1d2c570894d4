-- Hex digits and groups, as the code computes them: one law for each way out. Assumes nothing.
use Rattle.std.specs.Prelude.{ℕ, zero, suc, ◌+◌, ◌*◌, ◌/◌, ◌%◌, ◌≤◌, ◌<◌, ◌≡◌, refl, Bool, true, false, ◌&&◌, List, [], ◌∷◌, leb, ltb, length, get_or, Some, None}
use Rattle.std.proofs.Common.{sym, ◌∙◌, ap, arith, ltb-true, ltb-false, leb-true, le-leb}
use Rattle.std.proofs.lemmas.Bool.{lt-leb}
use Rattle.std.proofs.Math.ListN.{get_or-eq_default}
use Rattle.common.specs.Compare.{clash}
use Rattle.common.specs.Pick.{pick}
use Rattle.common.specs.Tests.{both}
use Rattle.utf8.specs.Utf8.{byte_at}
use Rattle.strings.specs.Text.{hex_digit, hex_value, two_at, two_of, four_at, four_of, char, wrong, character_of_code, high, surrogates_joined, group_two, group_four}

-- past the end stands no byte
pub byte_past : (s : List ℕ) (k : ℕ) → length s ≤ k → 256 ≡ byte_at s k
byte_past s k h = sym (get_or-eq_default s 256 h)

-- a hex digit by its range: `0` to `9`, `A` to `F` or `a` to `f`
pub data Digit (b : ℕ) : Type 0 where
  decimal : 48 ≤ b → b ≤ 57 → Digit b
  capital : 65 ≤ b → b ≤ 70 → Digit b
  small : 97 ≤ b → b ≤ 102 → Digit b

-- every hex digit is one of the three
pub hex_digit_is : (b : ℕ) → hex_digit b ≡ true → Digit b
hex_digit_is b e = go (leb 48 b && leb b 57) (leb 65 b && leb b 70) (leb 97 b && leb b 102) refl refl refl
  where
    go : (x y z : Bool) → leb 48 b && leb b 57 ≡ x → leb 65 b && leb b 70 ≡ y → leb 97 b && leb b 102 ≡ z → Digit b
    go true y z p q r = let k = both (leb 48 b) (leb b 57) p in decimal (leb-true 48 b k.0) (leb-true b 57 k.1)
    go false true z p q r = let k = both (leb 65 b) (leb b 70) q in capital (leb-true 65 b k.0) (leb-true b 70 k.1)
    go false false true p q r = let k = both (leb 97 b) (leb b 102) r in small (leb-true 97 b k.0) (leb-true b 102 k.1)
    go false false false p q r = let w : ◌≡◌ {A = Bool} false true = sym (rw (p, q, r) refl) ∙ e in let u : ◌≡◌ {A = ℕ} 0 1 = ap (λ (t : Bool). pick t 1 0) w in absurd (omega arith)

-- a hex digit's value is below 16, and is the code's sum for it
hex_both : (b : ℕ) → hex_digit b ≡ true → (hex_value b < 16) × (b % 16 + b / 64 * 9 ≡ hex_value b)
hex_both b e = go (hex_digit_is b e)
  where
    go : Digit b → (hex_value b < 16) × (b % 16 + b / 64 * 9 ≡ hex_value b)
    go (decimal l h) = rw (le-leb b 57 h) (omega arith, omega arith)
    go (capital l h) = rw (lt-leb b 57 (omega arith), le-leb b 70 h) (omega arith, omega arith)
    go (small l h) = rw (lt-leb b 57 (omega arith), lt-leb b 70 (omega arith)) (omega arith, omega arith)

-- a hex digit's value is below 16
pub hex_below : (b : ℕ) → hex_digit b ≡ true → hex_value b < 16
hex_below b e = (hex_both b e).0

-- the code's sum is a hex digit's value
pub hex_sum : (b : ℕ) → hex_digit b ≡ true → b % 16 + b / 64 * 9 ≡ hex_value b
hex_sum b e = (hex_both b e).1

-- a hex digit stands within the list
pub hex_within : (s : List ℕ) (k : ℕ) → hex_digit (byte_at s k) ≡ true → k < length s
hex_within s k e = go (ltb k (length s)) refl
  where
    go : (t : Bool) → ltb k (length s) ≡ t → k < length s
    go true p = ltb-true k (length s) p
    go false p =
        let z : ◌≡◌ {A = Bool} false true = ap hex_digit (sym (get_or-eq_default s 256 (ltb-false k (length s) p))) ∙ e in
        let w : ◌≡◌ {A = ℕ} 0 1 = ap (λ (t : Bool). pick t 1 0) z in
        absurd (omega arith)

-- four hex digits stand within the list
pub four_within : (s : List ℕ) (k : ℕ) → four_at s k ≡ true → k + 4 ≤ length s
four_within s k e =
    let x = both (two_at s k) (two_at s (k + 2)) e in
    let y = both (hex_digit (byte_at s (k + 2))) (hex_digit (byte_at s (k + 2 + 1))) x.1 in
    let z = hex_within s (k + 2 + 1) y.1 in
    omega arith

-- a number asked for past the end of the list is none, if it could stand only within the list
pub not_past : (t : Bool) (v e l : ℕ) → (t ≡ true → e ≤ l) → l < e → None ≡ pick t (Some v) None
not_past true v e l f h = let k = f refl in absurd (omega arith)
not_past false v e l f h = refl

-- fewer than two bytes are no two hex digits
pub two_past : (s : List ℕ) (k : ℕ) → length s < k + 2 → None ≡ pick (two_at s k) (Some (two_of s k)) None
two_past s k = not_past (two_at s k) (two_of s k) (k + 2) (length s) (λ e. let z = hex_within s (k + 1) (both (hex_digit (byte_at s k)) (hex_digit (byte_at s (k + 1))) e).1 in omega arith)

-- fewer than four bytes are no four hex digits
pub four_past : (s : List ℕ) (k : ℕ) → length s < k + 4 → None ≡ pick (four_at s k) (Some (four_of s k)) None
four_past s k = not_past (four_at s k) (four_of s k) (k + 4) (length s) (four_within s k)

-- two bytes of a list, as the code reads them
module _ (s : List ℕ) (k a b : ℕ) (ea : a ≡ byte_at s k) (eb : b ≡ byte_at s (k + 1)) where
  -- two bytes that are hex digits: v is their number
  pub two_is : (v : ℕ) → hex_digit a && hex_digit b ≡ true → v ≡ hex_value a * 16 + hex_value b → Some v ≡ pick (two_at s k) (Some (two_of s k)) None
  two_is v h e = rw (sym ea, sym eb, h) (ap Some e)

  -- two bytes that are not both hex digits have no number
  pub two_not : hex_digit a && hex_digit b ≡ false → None ≡ pick (two_at s k) (Some (two_of s k)) None
  two_not h = rw (sym ea, sym eb, h) refl

  -- four bytes of a list, as the code reads them
  module _ (c d : ℕ) (ec : c ≡ byte_at s (k + 2)) (ed : d ≡ byte_at s (k + 3)) where
    last : d ≡ byte_at s (k + 2 + 1)
    last = let e : k + 3 ≡ k + 2 + 1 = omega arith in ed ∙ ap (byte_at s) e

    -- four bytes that are hex digits: their number is that of the two pairs
    pub four_hex_is : (v w : ℕ) → (hex_digit a && hex_digit b) && (hex_digit c && hex_digit d) ≡ true → v ≡ hex_value a * 16 + hex_value b → w ≡ hex_value c * 16 + hex_value d → Some (v * 256 + w) ≡ pick (four_at s k) (Some (four_of s k)) None
    four_hex_is v w h e f = rw (sym ea, sym eb, sym ec, sym last, h, e, f) refl

    -- four bytes that are not all hex digits have no number
    pub four_not : (hex_digit a && hex_digit b) && (hex_digit c && hex_digit d) ≡ false → None ≡ pick (four_at s k) (Some (four_of s k)) None
    four_not h = rw (sym ea, sym eb, sym ec, sym last, h) refl

-- the number of two hex digits is below 256
pub two_below : (s : List ℕ) (k : ℕ) → two_at s k ≡ true → two_of s k < 256
two_below s k e =
    let j = both (hex_digit (byte_at s k)) (hex_digit (byte_at s (k + 1))) e in
    let x = hex_below (byte_at s k) j.0 in
    let y = hex_below (byte_at s (k + 1)) j.1 in
    omega arith

-- the number of four hex digits is below 65536
pub four_below : (s : List ℕ) (k : ℕ) → four_at s k ≡ true → four_of s k < 65536
four_below s k e =
    let j = both (two_at s k) (two_at s (k + 2)) e in
    let x = two_below s k j.0 in
    let y = two_below s (k + 2) j.1 in
    omega arith

-- where a number is picked, the test passes, and it is the value
pub hex_found : (t : Bool) (v a : ℕ) → Some a ≡ pick t (Some v) None → (t ≡ true) × (a ≡ v)
hex_found true v a e = (refl, cc)
hex_found false v a e = clash (cc)

-- where none is picked, the test fails
pub hex_missed : (t : Bool) (v : ℕ) → None ≡ pick t (Some v) None → t ≡ false
hex_missed true v e = clash (cc)
hex_missed false v e = refl

-- where no four hex digits stand there is no group of four
pub two_wrong : (s : List ℕ) → None ≡ pick (four_at s 0) (Some (four_of s 0)) None → wrong ≡ group_two s
unfolding group_two
two_wrong s e = rw (hex_missed (four_at s 0) (four_of s 0) e) refl

-- a high surrogate without four hex digits after it is no group
pub two_single : (s : List ℕ) (a : ℕ) → Some a ≡ pick (four_at s 0) (Some (four_of s 0)) None → high a ≡ true → None ≡ pick (four_at s 4) (Some (four_of s 4)) None → wrong ≡ group_two s
unfolding group_two
two_single s a e g f =
    let x = hex_found (four_at s 0) (four_of s 0) a e in
    let hi : high (four_of s 0) ≡ true = rw (sym x.1) g in
    rw (x.0, hi, hex_missed (four_at s 4) (four_of s 4) f) refl

-- a high surrogate and a second group are one character of eight digits
pub two_pair : (s : List ℕ) (a b : ℕ) → Some a ≡ pick (four_at s 0) (Some (four_of s 0)) None → high a ≡ true → Some b ≡ pick (four_at s 4) (Some (four_of s 4)) None → char (surrogates_joined a b) 8 ≡ group_two s
unfolding group_two
two_pair s a b e g f =
    let x = hex_found (four_at s 0) (four_of s 0) a e in
    let y = hex_found (four_at s 4) (four_of s 4) b f in
    let hi : high (four_of s 0) ≡ true = rw (sym x.1) g in
    rw (x.0, hi, y.0, x.1, y.1) refl

-- four hex digits that are no high surrogate are a group of their own
pub two_alone : (s : List ℕ) (a : ℕ) → Some a ≡ pick (four_at s 0) (Some (four_of s 0)) None → high a ≡ false → char (character_of_code a) 4 ≡ group_two s
unfolding group_two
two_alone s a e g =
    let x = hex_found (four_at s 0) (four_of s 0) a e in
    let hi : high (four_of s 0) ≡ false = rw (sym x.1) g in
    rw (x.0, hi, x.1) refl

-- where no eight hex digits stand, for want of the first four, there is no group of eight
pub four_wrong : (s : List ℕ) → None ≡ pick (four_at s 0) (Some (four_of s 0)) None → wrong ≡ group_four s
unfolding group_four
four_wrong s e = rw (hex_missed (four_at s 0) (four_of s 0) e) refl

-- where no eight hex digits stand, for want of the last four, there is no group of eight
pub four_half : (s : List ℕ) (a : ℕ) → Some a ≡ pick (four_at s 0) (Some (four_of s 0)) None → None ≡ pick (four_at s 4) (Some (four_of s 4)) None → wrong ≡ group_four s
unfolding group_four
four_half s a e f = rw ((hex_found (four_at s 0) (four_of s 0) a e).0, hex_missed (four_at s 4) (four_of s 4) f) refl

-- eight hex digits are a group
pub four_char : (s : List ℕ) (a b : ℕ) → Some a ≡ pick (four_at s 0) (Some (four_of s 0)) None → Some b ≡ pick (four_at s 4) (Some (four_of s 4)) None → char (character_of_code (a * 65536 + b)) 8 ≡ group_four s
unfolding group_four
four_char s a b e f =
    let x = hex_found (four_at s 0) (four_of s 0) a e in
    let y = hex_found (four_at s 4) (four_of s 4) b f in
    rw (x.0, y.0, x.1, y.1) refl

-- the number of four hex digits that is picked is below 65536
pub picked_below : (s : List ℕ) (k a : ℕ) → Some a ≡ pick (four_at s k) (Some (four_of s k)) None → a < 65536
picked_below s k a e = let x = hex_found (four_at s k) (four_of s k) a e in let l = four_below s k x.0 in omega arith

-- a byte of a list, or what stands for none past its end, is 256 at most
pub byte_small : (s : List ℕ) (k : ℕ) → get_or s k 0 < 256 → byte_at s k ≤ 256
byte_small [] k h = omega arith
byte_small (b ∷ r) zero h = omega arith
byte_small (b ∷ r) (suc k) h = byte_small r k h
