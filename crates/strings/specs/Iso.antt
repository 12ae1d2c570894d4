-- ISO 10303-21, 'String' and 'Control directives': the grammar of what stands between a string's apostrophes, and the text that it
-- stands for, as rules that name no loop. Left out, since ISO gives them no text: `\S\` while a letter after I or the low line is named, codes
-- that the named page leaves undefined, and groups that are no character. IsoRight.antt shows that the total rule of documents 01 and 02 (Text.antt)
-- gives every string of these rules this text. Assumes nothing.
-- Definitions to be believed: no law, and nothing computed that no theorem ties (docs/BELIEVE.md).
use Rattle.std.specs.Prelude.{ℕ, ◌+◌, ◌*◌, ◌-◌, ◌<◌, ◌≡◌, List, [], ◌∷◌, ◌++◌}
use Rattle.utf8.specs.Rfc3629.{In, Encoded}
use Rattle.pages.specs.Tables.{page_entry}
use Rattle.strings.specs.Text.{hex_value}

-- "SPACE", "DIGIT", "LOWER" (a to z), "UPPER" (A to Z and _) and "SPECIAL" (! " * $ % & . # + , - ( ) ? / : ; < = > @ [ ] { | } ^ ` ~):
-- all printing characters but the apostrophe (39) and the reverse solidus (92)
pub data Basic : ℕ → Type 0 where
  to_ampersand : {b : ℕ} → In 32 38 b → Basic b
  to_bracket : {b : ℕ} → In 40 91 b → Basic b
  to_tilde : {b : ℕ} → In 93 126 b → Basic b

-- "LATIN_CODEPOINT = SPACE | DIGIT | LOWER | UPPER | SPECIAL | REVERSE_SOLIDUS | APOSTROPHE"
abbrev pub Latin : ℕ → Type 0
Latin b = In 32 126 b

-- "UPPER": A to Z and _
pub data Upper : ℕ → Type 0 where
  capital : {b : ℕ} → In 65 90 b → Upper b
  low_line : Upper 95

-- "HEX = 0 | 1 | 2 | 3 | 4 | 5 | 6 | 7 | 8 | 9 | A | B | C | D | E | F"
pub data Hex : ℕ → Type 0 where
  digit : {b : ℕ} → In 48 57 b → Hex b
  letter : {b : ℕ} → In 65 70 b → Hex b

-- a number that is a character of ISO 10646: no surrogate, nothing above 10FFFF
pub data Character : ℕ → Type 0 where
  below : {c : ℕ} → In 0 55295 c → Character c
  above : {c : ℕ} → In 57344 1114111 c → Character c

-- "HEX_ONE = HEX HEX": an octet
pub data One : List ℕ → ℕ → Type 0 where
  one : {a b : ℕ} → Hex a → Hex b → One (a ∷ b ∷ []) (hex_value a * 16 + hex_value b)

-- "HEX_TWO = HEX_ONE HEX_ONE"
pub data Two : List ℕ → ℕ → Type 0 where
  two : {x y : List ℕ} {m n : ℕ} → One x m → One y n → Two (x ++ y) (m * 256 + n)

-- "HEX_FOUR = HEX_TWO HEX_TWO"
pub data Four : List ℕ → ℕ → Type 0 where
  four : {x y : List ℕ} {m n : ℕ} → Two x m → Two y n → Four (x ++ y) (m * 65536 + n)

-- "HEX_TWO { HEX_TWO }": each is a character of the basic multilingual plane
pub data Twos : List ℕ → List ℕ → Type 0 where
  last : {x : List ℕ} {c : ℕ} → Two x c → Character c → Twos x (c ∷ [])
  next : {x r : List ℕ} {c : ℕ} {cs : List ℕ} → Two x c → Character c → Twos r cs → Twos (x ++ r) (c ∷ cs)

-- "HEX_FOUR { HEX_FOUR }": each is a character
pub data Fours : List ℕ → List ℕ → Type 0 where
  last : {x : List ℕ} {c : ℕ} → Four x c → Character c → Fours x (c ∷ [])
  next : {x r : List ℕ} {c : ℕ} {cs : List ℕ} → Four x c → Character c → Fours r cs → Fours (x ++ r) (c ∷ cs)

-- "END_EXTENDED = REVERSE_SOLIDUS "X0" REVERSE_SOLIDUS"
abbrev pub end_extended : List ℕ
end_extended = 92 ∷ 88 ∷ 48 ∷ 92 ∷ []

-- what stands between the apostrophes, and its text; the first argument is the page in force, its letter's byte less 65: 0 to 8 for A to I, from 9
-- up no page. Page A is in force at the start
pub data Iso : ℕ → List ℕ → List ℕ → Type 0 where
  -- nothing stands there, or nothing more
  ends : {p : ℕ} → Iso p [] []
  -- "SPECIAL | DIGIT | SPACE | LOWER | UPPER"
  basic : {p : ℕ} {b : ℕ} {r cs : List ℕ} → Basic b → Iso p r cs → Iso p (b ∷ r) (b ∷ cs)
  -- "HIGH_CODEPOINT": U+0080 to U+10FFFF, in UTF-8
  high_codepoint : {p : ℕ} {c : ℕ} {x r cs : List ℕ} → In 128 1114111 c → Encoded c x → Iso p r cs → Iso p (x ++ r) (c ∷ cs)
  -- "APOSTROPHE APOSTROPHE"
  apostrophe : {p : ℕ} {r cs : List ℕ} → Iso p r cs → Iso p (39 ∷ 39 ∷ r) (39 ∷ cs)
  -- "REVERSE_SOLIDUS REVERSE_SOLIDUS"
  reverse_solidus : {p : ℕ} {r cs : List ℕ} → Iso p r cs → Iso p (92 ∷ 92 ∷ r) (92 ∷ cs)
  -- "PAGE = REVERSE_SOLIDUS "S" REVERSE_SOLIDUS LATIN_CODEPOINT": the character that the page, one of ISO 8859-1 to 8859-9, has at the
  -- code plus 128, where it has one
  page : {p c : ℕ} {r cs : List ℕ} → Latin c → p < 9 → (page_entry p (c + 128) ≡ 0xFFFD → ⊥) → Iso p r cs → Iso p (92 ∷ 83 ∷ 92 ∷ c ∷ r) (page_entry p (c + 128) ∷ cs)
  -- "ALPHABET = REVERSE_SOLIDUS "P" UPPER REVERSE_SOLIDUS": names the page from here on, A to I those of ISO 8859-1 to 8859-9
  alphabet : {p : ℕ} {a : ℕ} {r cs : List ℕ} → Upper a → Iso (a - 65) r cs → Iso p (92 ∷ 80 ∷ a ∷ 92 ∷ r) cs
  -- "EXTENDED2 = REVERSE_SOLIDUS "X2" REVERSE_SOLIDUS HEX_TWO { HEX_TWO } END_EXTENDED"
  extended2 : {p : ℕ} {g r cs ds : List ℕ} → Twos g cs → Iso p r ds → Iso p (92 ∷ 88 ∷ 50 ∷ 92 ∷ (g ++ (end_extended ++ r))) (cs ++ ds)
  -- "EXTENDED4 = REVERSE_SOLIDUS "X4" REVERSE_SOLIDUS HEX_FOUR { HEX_FOUR } END_EXTENDED"
  extended4 : {p : ℕ} {g r cs ds : List ℕ} → Fours g cs → Iso p r ds → Iso p (92 ∷ 88 ∷ 52 ∷ 92 ∷ (g ++ (end_extended ++ r))) (cs ++ ds)
  -- "ARBITRARY = REVERSE_SOLIDUS "X" REVERSE_SOLIDUS HEX_ONE": the octet's character
  arbitrary : {p : ℕ} {x r cs : List ℕ} {c : ℕ} → One x c → Iso p r cs → Iso p (92 ∷ 88 ∷ 92 ∷ (x ++ r)) (c ∷ cs)
