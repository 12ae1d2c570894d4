-- RFC 3629: which numbers are characters, their encoding (section 3's table), and the character that a list of bytes begins with,
-- computed. Rfc3629.antt has section 4's table of byte sequences as rules. Assumes nothing.
use Rattle.std.specs.Prelude.{ℕ, zero, suc, ◌+◌, ◌*◌, ◌-◌, ◌/◌, ◌%◌, Bool, true, false, ◌&&◌, ◌||◌, List, [], ◌∷◌, eqb, leb, ltb, get_or}
use Rattle.common.specs.Pick.{pick}
use Rattle.utf8.specs.Answer.{LeadCharacter, valid, invalid}

-- "UTF-8 encodes characters from the U+0000..U+10FFFF range"; "prohibits encoding character numbers between U+D800 and U+DFFF"
abbrev pub scalar : ℕ → Bool
scalar c = ltb c 55296 || (leb 57344 c && leb c 1114111)

-- section 3's table, a line for each range of character numbers; a number that is no character has no encoding
unfoldable pub encode : ℕ → List ℕ
encode c =
    pick
    (scalar c)
    (pick
    (ltb c 128)
    (c ∷ [])
    (pick
    (ltb c 2048)
    ((192 + c / 64) ∷ (128 + c % 64) ∷ [])
    (pick
    (ltb c 65536)
    ((224 + c / 4096) ∷ (128 + (c / 64) % 64) ∷ (128 + c % 64) ∷ [])
    ((240 + c / 262144) ∷ (128 + (c / 4096) % 64) ∷ (128 + (c / 64) % 64) ∷ (128 + c % 64) ∷ []))))
    []

-- the byte at k, or 256, which is no byte, past the end
abbrev pub byte_at : List ℕ → ℕ → ℕ
byte_at s k = get_or s k 256

-- a tail byte: `UTF8-tail = %x80-BF`
abbrev pub tail : ℕ → Bool
tail b = leb 128 b && leb b 191

-- the least second byte after a first one: after E0 and F0 no longer form than needed
abbrev pub least_second : ℕ → ℕ
least_second a = pick (eqb a 224) 160 (pick (eqb a 240) 144 128)

-- the greatest second byte after a first one: after ED no surrogate, after F4 nothing above 10FFFF
abbrev pub highest : ℕ → ℕ
highest a = pick (eqb a 237) 159 (pick (eqb a 244) 143 191)

-- whether b is in the second byte's range, which section 4 narrows after the first bytes E0, ED, F0 and F4
abbrev pub second_in_range : ℕ → ℕ → Bool
second_in_range a b = leb (least_second a) b && leb b (highest a)

-- what two bytes begin with: the character, or no sequence where the second byte is no tail
abbrev pub lead_two : ℕ → ℕ → LeadCharacter
lead_two a b = pick (tail b) (valid ((a - 192) * 64 + (b - 128)) 2) invalid

-- what three bytes begin with: the character, or no sequence where the second byte is out of its range or the third no tail
abbrev pub lead_three : ℕ → ℕ → ℕ → LeadCharacter
lead_three a b c = pick (second_in_range a b && tail c) (valid ((a - 224) * 4096 + (b - 128) * 64 + (c - 128)) 3) invalid

-- what four bytes begin with: the character, or no sequence where the second byte is out of its range or a later one no tail
abbrev pub lead_four : ℕ → ℕ → ℕ → ℕ → LeadCharacter
lead_four a b c d = pick (second_in_range a b && tail c && tail d) (valid ((a - 240) * 262144 + (b - 128) * 4096 + (c - 128) * 64 + (d - 128)) 4) invalid

-- the sequence that a list of bytes begins with: its first byte tells its length
unfoldable pub lead_of : List ℕ → LeadCharacter
lead_of s =
    pick
    (ltb (byte_at s 0) 128)
    (valid (byte_at s 0) 1)
    (pick
    (leb 194 (byte_at s 0) && leb (byte_at s 0) 223)
    (lead_two (byte_at s 0) (byte_at s 1))
    (pick
    (leb 224 (byte_at s 0) && leb (byte_at s 0) 239)
    (lead_three (byte_at s 0) (byte_at s 1) (byte_at s 2))
    (pick
    (leb 240 (byte_at s 0) && leb (byte_at s 0) 244)
    (lead_four (byte_at s 0) (byte_at s 1) (byte_at s 2) (byte_at s 3))
    invalid)))

-- what follows in a test of all bytes: the rest of a character's bytes are passed over, and no sequence ends all
abbrev pub after_character : LeadCharacter → (ℕ → Bool) → Bool
after_character (valid c n) k = k (n - 1)
after_character invalid k = false

-- the bytes are one valid sequence after another, once n are passed over that belong to one already begun
unfoldable pub valid_from : List ℕ → ℕ → Bool
valid_from [] zero = true
valid_from [] (suc n) = false
valid_from (b ∷ r) zero = after_character (lead_of (b ∷ r)) (λ n. valid_from r n)
valid_from (b ∷ r) (suc n) = valid_from r n

-- "UTF8-octets = *( UTF8-char )": the bytes are one valid sequence after another
abbrev pub valid_of : List ℕ → Bool
valid_of s = valid_from s 0
