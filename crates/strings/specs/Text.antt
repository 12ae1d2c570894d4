-- Document 01, 'Strings', with document 02's #109: the text that a string's bytes stand for, for every list of bytes, computed. Rules.antt has
-- the same as rules. Iso.antt has ISO 10303-21's own grammar; the lines below say in brackets where the documents go beyond it. Pages are
-- numbers from 0, page A, to 8, page I (crate pages). Assumes nothing.
use Rattle.std.specs.Prelude.{ℕ, zero, suc, ◌+◌, ◌*◌, ◌-◌, min, Bool, true, false, ◌&&◌, ◌||◌, List, [], ◌∷◌, ◌++◌, eqb, leb, ltb, length, drop}
use Rattle.common.specs.Pick.{pick}
use Rattle.utf8.specs.Utf8.{scalar, byte_at, lead_of}
use Rattle.utf8.specs.Encoding.{encode_all}
use Rattle.utf8.specs.Answer.{LeadCharacter, valid, invalid}
use Rattle.pages.specs.Pages.{page_of, code_of}
use Rattle.pages.specs.Rules.{page_a}

-- a hex digit, "either case" (ISO has capitals only)
abbrev pub hex_digit : ℕ → Bool
hex_digit b = leb 48 b && leb b 57 || (leb 65 b && leb b 70 || leb 97 b && leb b 102)

-- a hex digit's value
abbrev pub hex_value : ℕ → ℕ
hex_value b = pick (leb b 57) (b - 48) (pick (leb b 70) (b - 55) (b - 87))

-- two hex digits stand from k on
abbrev pub two_at : List ℕ → ℕ → Bool
two_at s k = hex_digit (byte_at s k) && hex_digit (byte_at s (k + 1))

-- four hex digits stand from k on
abbrev pub four_at : List ℕ → ℕ → Bool
four_at s k = two_at s k && two_at s (k + 2)

-- the number of two hex digits at k
abbrev pub two_of : List ℕ → ℕ → ℕ
two_of s k = hex_value (byte_at s k) * 16 + hex_value (byte_at s (k + 1))

-- the number of four hex digits at k
abbrev pub four_of : List ℕ → ℕ → ℕ
four_of s k = two_of s k * 256 + two_of s (k + 2)

-- a group: its character and how many bytes it took; or it is bad
pub data Group : Type 0 where
  char : ℕ → ℕ → Group
  wrong : Group

-- the character of a code: "other surrogates and codes above 10FFFF give U+FFFD"
abbrev pub character_of_code : ℕ → ℕ
character_of_code c = pick (scalar c) c 65533

-- a high surrogate of UTF-16, D800 to DBFF
abbrev pub high : ℕ → Bool
high c = leb 55296 c && ltb c 56320

-- a low surrogate of UTF-16, DC00 to DFFF
abbrev pub low : ℕ → Bool
low c = leb 56320 c && ltb c 57344

-- "a high and a low surrogate join" (ISO knows no surrogates); "in `\X2\` a high one together with its second group" is U+FFFD
abbrev pub surrogates_joined : ℕ → ℕ → ℕ
surrogates_joined h l = pick (low l) (65536 + (h - 55296) * 1024 + (l - 56320)) 65533

-- the group of a high surrogate: "a high one not followed by four hex digits is a bad group"
abbrev pub pair_of : List ℕ → Group
pair_of s = pick (four_at s 4) (char (surrogates_joined (four_of s 0) (four_of s 4)) 8) wrong

-- "`\X2\` groups of four" hex digits
unfoldable pub group_two : List ℕ → Group
group_two s = pick (four_at s 0) (pick (high (four_of s 0)) (pair_of s) (char (character_of_code (four_of s 0)) 4)) wrong

-- "and `\X4\` of eight" hex digits
unfoldable pub group_four : List ℕ → Group
group_four s = pick (four_at s 0 && four_at s 4) (char (character_of_code (four_of s 0 * 65536 + four_of s 4)) 8) wrong

-- a group of w digits, four or eight
abbrev pub group_of : ℕ → List ℕ → Group
group_of w s = pick (eqb w 4) (group_two s) (group_four s)

-- the groups of a directive: their characters and how many bytes they took; or those before a bad group
pub data GroupsRead : Type 0 where
  groups_ended : List ℕ → ℕ → GroupsRead
  groups_broken : List ℕ → GroupsRead

-- the groups of a directive, with one more in front
abbrev pub with_char : ℕ → ℕ → GroupsRead → GroupsRead
with_char c k (groups_ended cs n) = groups_ended (c ∷ cs) (k + n)
with_char c k (groups_broken cs) = groups_broken (c ∷ cs)

-- the groups from a group on: it and what follows it, or broken off where it is bad
abbrev pub grouped : Group → (ℕ → GroupsRead) → GroupsRead
grouped (char c k) f = with_char c k (f k)
grouped wrong f = groups_broken []

-- "a `\X0` there is eaten with the byte after it" (ISO asks for `\X0\`), the byte after it where there is one
abbrev pub closing_taken : List ℕ → ℕ
closing_taken s = pick (eqb (byte_at s 0) 92 && (eqb (byte_at s 1) 88 && eqb (byte_at s 2) 48)) (min 4 (length s)) 0

-- "up to the end or a backslash at a group's start" (ISO asks for a group and for `\X0\`); "a group cut short by the end" is no group,
-- and its bytes are read on as what follows (docs/DIFFERENCES.md). The first n bytes belong to a group already read
unfoldable pub groups_from : ℕ → ℕ → List ℕ → GroupsRead
groups_from w n [] = groups_ended [] 0
groups_from w (suc n) (b ∷ r) = groups_from w n r
groups_from w zero (b ∷ r) =
    pick
    (ltb (suc (length r)) w || eqb b 92)
    (groups_ended [] (closing_taken (b ∷ r)))
    (grouped (group_of w (b ∷ r)) (λ k. groups_from w (k - 1) r))

-- what stands at a string's byte: its characters, and how many bytes are read for them
pub record Piece : Type 0 where
  pub chars : List ℕ
  pub used : ℕ

-- a piece of these characters and so many bytes
abbrev pub gives : List ℕ → ℕ → Piece
gives cs k = record { chars = cs; used = k }

-- groups as a piece: "A bad group gives the characters already read, then a literal backslash, and reading goes on after the directive's first byte"
abbrev pub extended : GroupsRead → Piece
extended (groups_ended cs n) = gives cs (4 + n)
extended (groups_broken cs) = gives (cs ++ 92 ∷ []) 1

-- the byte at k is b
abbrev pub is : List ℕ → ℕ → ℕ → Bool
is s k b = eqb (byte_at s k) b

-- "`\X2\` groups of four and `\X4\` of eight"; "An unknown directive is a literal backslash" (ISO has none)
abbrev pub long_of : List ℕ → Piece
long_of s =
    pick
    (is s 1 88 && (is s 2 50 && is s 3 92))
    (extended (groups_from 4 0 (drop 4 s)))
    (pick (is s 1 88 && (is s 2 52 && is s 3 92)) (extended (groups_from 8 0 (drop 4 s))) (gives (92 ∷ []) 1))

-- what follows a backslash while page p is in force: "`\\` a backslash; `\N\` LF; `\T\` tab" (ISO has neither inside a string); "`\P?\`
-- nothing" (ISO: a capital letter or `_`); "`\S\c` code c+128" (ISO: a c from 20 to 7E), which #109 reads on that page ("apply the page to every
-- later `\S\` in that string"); "`\X\HH` one octet"
unfoldable pub directive_of : ℕ → List ℕ → Piece
directive_of p s =
    pick
    (is s 1 92)
    (gives (92 ∷ []) 2)
    (pick
    (is s 1 78 && is s 2 92)
    (gives (10 ∷ []) 3)
    (pick
    (is s 1 84 && is s 2 92)
    (gives (9 ∷ []) 3)
    (pick
    (is s 1 80 && is s 3 92)
    (gives [] 4)
    (pick
    (is s 1 83 && (is s 2 92 && leb 4 (length s)))
    (gives (code_of p (byte_at s 3 + 128) ∷ []) 4)
    (pick (is s 1 88 && (is s 2 92 && two_at s 3)) (gives (two_of s 3 ∷ []) 5) (long_of s))))))

-- "Raw bytes from 80 up: a valid UTF-8 sequence, else Latin-1" (ISO has no stray bytes)
abbrev pub raw_of : ℕ → LeadCharacter → Piece
raw_of b (valid c k) = gives (c ∷ []) k
raw_of b invalid = gives (b ∷ []) 1

-- "`''` gives a quote"; a backslash opens a directive; other bytes below 80 are themselves (a single quote and
-- control bytes too: ISO has neither)
unfoldable pub piece_of : ℕ → List ℕ → Piece
piece_of p s =
    pick
    (is s 0 92)
    (directive_of p s)
    (pick (is s 0 39 && is s 1 39) (gives (39 ∷ []) 2) (pick (ltb (byte_at s 0) 128) (gives (byte_at s 0 ∷ []) 1) (raw_of (byte_at s 0) (lead_of s))))

-- the page in force after the piece that stands at the start: the one that a `\P?\` there selects, and else the one before it
unfoldable pub page_after : ℕ → List ℕ → ℕ
page_after p s = pick (is s 0 92 && (is s 1 80 && is s 3 92)) (page_of (byte_at s 2)) p

-- the characters of a string's bytes, piece after piece, each on the page that those before it leave in force; the first n bytes belong to a
-- piece already read
unfoldable pub text_from : ℕ → ℕ → List ℕ → List ℕ
text_from p n [] = []
text_from p (suc n) (b ∷ r) = text_from p n r
text_from p zero (b ∷ r) = (piece_of p (b ∷ r)).chars ++ text_from (page_after p (b ∷ r)) ((piece_of p (b ∷ r)).used - 1) r

-- the characters from a place on where page p is in force
unfoldable pub text_on : ℕ → List ℕ → List ℕ
text_on p s = text_from p 0 s

-- a string's characters: "a fresh string, means page A"
unfoldable pub text_of : List ℕ → List ℕ
text_of s = text_on page_a s

-- a string's text: its characters in UTF-8
unfoldable pub bytes_of : List ℕ → List ℕ
bytes_of s = encode_all (text_of s)

-- "no quote, backslash or high byte occurs"
unfoldable pub plain : List ℕ → Bool
plain [] = true
plain (b ∷ r) = pick (eqb b 39 || (eqb b 92 || leb 128 b)) false (plain r)
