-- Document 01, 'Strings', with document 02's #109: what a string's bytes stand for, as rules that name no loop. A rule speaks of a list of
-- bytes, of what stands at its start, of the characters that this gives and of how many bytes it takes. The rules of a directive and of a piece also
-- name the page before it and after it (crate pages: page A is 0, page I is 8). Bytes are written as characters: `bytes "\\N\\"` is the three bytes of
-- `\N\`, since a backslash in quotation marks is doubled. Words quoted from the documents count in hex. RulesRight.antt shows that Text.antt computes
-- just this, and that there is no other answer. Assumes nothing.
-- Definitions to be believed: no law, and nothing computed that no theorem ties (docs/BELIEVE.md).
use Rattle.std.specs.Prelude.{ℕ, ◌+◌, ◌*◌, ◌≤◌, ◌<◌, ◌≡◌, List, [], ◌∷◌, ◌++◌, length, drop}
use Rattle.common.specs.Bytes.{bytes, byte}
use Rattle.lex.specs.Grammar.{Begins}
use Rattle.utf8.specs.Rfc3629.{In, Encoded}
use Rattle.pages.specs.Rules.{page_a, Selects, Coded}

-- "hex digits, either case": a byte and the digit's value
pub data HexValue : ℕ → ℕ → Type 0 where
  -- a decimal digit, `0` to `9`
  decimal : {v : ℕ} → v < 10 → HexValue (byte "0" + v) v
  -- a capital hex digit, `A` to `F`
  capital : {v : ℕ} → v < 6 → HexValue (byte "A" + v) (10 + v)
  -- a small hex digit, `a` to `f`
  small : {v : ℕ} → v < 6 → HexValue (byte "a" + v) (10 + v)

-- "four .. hex digits" stand at the start, and this is their number
pub data FourHex : List ℕ → ℕ → Type 0 where
  digits : {a b c d i j k l : ℕ} {r : List ℕ} → HexValue a i → HexValue b j → HexValue c k → HexValue d l
      → FourHex (a ∷ b ∷ c ∷ d ∷ r) (i * 4096 + j * 256 + k * 16 + l)

-- a high surrogate of UTF-16, D800 to DBFF
abbrev pub High : ℕ → Type 0
High n = In 55296 56319 n

-- a low surrogate of UTF-16, DC00 to DFFF
abbrev pub Low : ℕ → Type 0
Low n = In 56320 57343 n

-- the character that a code gives
pub data CharacterOfCode : ℕ → ℕ → Type 0 where
  -- a code below the surrogates gives its character
  below : {n : ℕ} → n < 55296 → CharacterOfCode n n
  -- a code above the surrogates and up to 10FFFF gives its character
  above : {n : ℕ} → In 57344 1114111 n → CharacterOfCode n n
  -- "other surrogates .. give U+FFFD"
  surrogate : {n : ℕ} → In 55296 57343 n → CharacterOfCode n 65533
  -- "codes above 10FFFF give U+FFFD"
  beyond : {n : ℕ} → 1114111 < n → CharacterOfCode n 65533

-- a group, of four digits in `\X2\` and of eight in `\X4\`, stands at the start: its character, and how many bytes it takes
pub data GoodGroup : ℕ → List ℕ → ℕ → ℕ → Type 0 where
  -- "`\X2\` groups of four": any code but a high surrogate's
  single : {s : List ℕ} {n c : ℕ} → FourHex s n → (High n → ⊥) → CharacterOfCode n c → GoodGroup 4 s c 4
  -- "In `\X2\` a high and a low surrogate join": D800 + y and DC00 + x are the code 10000 + y·400 + x, in hex
  pair : {s : List ℕ} {y x : ℕ} → FourHex s (55296 + y) → y < 1024 → FourHex (drop 4 s) (56320 + x) → x < 1024
      → GoodGroup 4 s (65536 + y * 1024 + x) 8
  -- a high surrogate whose second group is no low one is U+FFFD, "in `\X2\` a high one together with its second group"
  unpaired : {s : List ℕ} {n m : ℕ} → FourHex s n → High n → FourHex (drop 4 s) m → (Low m → ⊥) → GoodGroup 4 s 65533 8
  -- "and `\X4\` of eight hex digits"
  eight : {s : List ℕ} {n m c : ℕ} → FourHex s n → FourHex (drop 4 s) m → CharacterOfCode (n * 65536 + m) c → GoodGroup 8 s c 8

-- "a bad group": one could start here, for so many bytes are left and there is no backslash, and none does. "a high one not
-- followed by four hex digits is a bad group" is a theorem of RulesRight.antt (high-alone)
pub record BadGroup (w : ℕ) (s : List ℕ) : Type 0 where
  pub whole : w ≤ length s
  pub unmarked : Begins (byte "\\") s → ⊥
  pub not_good : (c k : ℕ) → GoodGroup w s c k → ⊥

-- the groups of a directive, good ones to their end: their characters, and how many bytes they take
pub data Groups : ℕ → List ℕ → List ℕ → ℕ → Type 0 where
  -- the groups of a directive run "up to the end"
  at_end : {w : ℕ} → Groups w [] [] 0
  -- "or a backslash at a group's start; a `\X0` there is eaten with the byte after it"
  closed : {w b : ℕ} {r : List ℕ} → Groups w (bytes "\\X0" ++ b ∷ r) [] 4
  -- a `\X0` at the end is eaten alone, since no byte comes after it
  closed_last : {w : ℕ} → Groups w (bytes "\\X0") [] 3
  -- "another directive is read as such": a backslash with no `X0` after it is left to be read
  another : {w : ℕ} {r : List ℕ} → ((q : List ℕ) → r ≡ bytes "X0" ++ q → ⊥) → Groups w (bytes "\\" ++ r) [] 0
  -- "a group cut short by the end is literal": its bytes are left, to be read on as text (the Rust, which decides, does not copy them)
  cut : {w b : ℕ} {r : List ℕ} → (b ≡ byte "\\" → ⊥) → length (b ∷ r) < w → Groups w (b ∷ r) [] 0
  -- a good group, and the groups after it
  next : {w : ℕ} {s cs : List ℕ} {c k n : ℕ} → GoodGroup w s c k → Groups w (drop k s) cs n → Groups w s (c ∷ cs) (k + n)

-- the groups of a directive up to a bad one: "the characters already read"
pub data Broken : ℕ → List ℕ → List ℕ → Type 0 where
  -- a bad group at the start: no character is read before it
  bad : {w : ℕ} {s : List ℕ} → BadGroup w s → Broken w s []
  -- a good group, and then the groups up to the bad one
  good : {w : ℕ} {s cs : List ℕ} {c k : ℕ} → GoodGroup w s c k → Broken w (drop k s) cs → Broken w s (c ∷ cs)

-- "`\X2\` groups of four and `\X4\` of eight hex digits": the digit in the directive's name, and how many digits its groups have
pub data GroupWidth : ℕ → ℕ → Type 0 where
  -- a group of `\X2\` has four digits
  two : GroupWidth (byte "2") 4
  -- a group of `\X4\` has eight digits
  four : GroupWidth (byte "4") 8

-- a directive stands at the start: the page before it, its characters, how many bytes it takes, the page after it
pub data Directive : ℕ → List ℕ → List ℕ → ℕ → ℕ → Type 0 where
  -- "`\\` a backslash"
  backslash : {g : ℕ} {r : List ℕ} → Directive g (bytes "\\\\" ++ r) (bytes "\\") 2 g
  -- "`\N\` LF"
  newline : {g : ℕ} {r : List ℕ} → Directive g (bytes "\\N\\" ++ r) (10 ∷ []) 3 g
  -- "`\T\` tab"
  tab : {g : ℕ} {r : List ℕ} → Directive g (bytes "\\T\\" ++ r) (9 ∷ []) 3 g
  -- "`\P?\` nothing", whatever byte the `?` is; and the page that this byte selects is in force from here on (#109)
  page : {g h b : ℕ} {r : List ℕ} → Selects b h → Directive g (bytes "\\P" ++ b ∷ bytes "\\" ++ r) [] 4 h
  -- "`\S\c` code c+128", and "apply the page to every later `\S\` in that string" (#109): the character that the page has for the sum
  shift : {g c d : ℕ} {r : List ℕ} → Coded g (c + 128) d → Directive g (bytes "\\S\\" ++ c ∷ r) (d ∷ []) 4 g
  -- "`\X\HH` one octet"
  octet : {g a b i j : ℕ} {r : List ℕ} → HexValue a i → HexValue b j → Directive g (bytes "\\X\\" ++ a ∷ b ∷ r) ((i * 16 + j) ∷ []) 5 g
  -- "`\X2\` groups of four and `\X4\` of eight"
  long : {g d w n : ℕ} {r cs : List ℕ} → GroupWidth d w → Groups w r cs n → Directive g (bytes "\\X" ++ d ∷ bytes "\\" ++ r) cs (4 + n) g
  -- "A bad group gives the characters already read, then a literal backslash, and reading goes on after the directive's first byte"
  long_bad : {g d w : ℕ} {r cs : List ℕ} → GroupWidth d w → Broken w r cs → Directive g (bytes "\\X" ++ d ∷ bytes "\\" ++ r) (cs ++ bytes "\\") 1 g

-- a piece stands at the start: the page before it, its characters, how many bytes it takes, the page after it
pub data PieceReads : ℕ → List ℕ → List ℕ → ℕ → ℕ → Type 0 where
  -- "`''` gives a quote"
  quote : {g : ℕ} {r : List ℕ} → PieceReads g (bytes "''" ++ r) (bytes "'") 2 g
  -- a directive at the start is read as such
  directive : {g h k : ℕ} {s cs : List ℕ} → Directive g s cs k h → PieceReads g s cs k h
  -- "An unknown directive is a literal backslash": a backslash at which no directive stands
  unknown : {g : ℕ} {r : List ℕ} → ((cs : List ℕ) (k h : ℕ) → Directive g (bytes "\\" ++ r) cs k h → ⊥) → PieceReads g (bytes "\\" ++ r) (bytes "\\") 1 g
  -- any other byte below 80 is itself: no backslash, and no quote that a quote follows
  itself : {g b : ℕ} {r : List ℕ} → b < 128 → (b ≡ byte "\\" → ⊥) → (b ≡ byte "'" → Begins (byte "'") r → ⊥) → PieceReads g (b ∷ r) (b ∷ []) 1 g
  -- "Raw bytes from 80 up: a valid UTF-8 sequence"
  sequence : {g c : ℕ} (bs r : List ℕ) → Encoded c bs → 128 ≤ c → PieceReads g (bs ++ r) (c ∷ []) (length bs) g
  -- "else Latin-1": a byte with which no valid sequence begins
  latin : {g b : ℕ} {r : List ℕ} → 128 ≤ b → ((c : ℕ) (bs q : List ℕ) → Encoded c bs → b ∷ r ≡ bs ++ q → ⊥) → PieceReads g (b ∷ r) (b ∷ []) 1 g

-- bytes from a place on where a page is in force, and their characters: one piece after another, to the end
pub data TextOn : ℕ → List ℕ → List ℕ → Type 0 where
  -- no bytes, no characters
  none : {g : ℕ} → TextOn g [] []
  -- a piece, and the text of the bytes after it, on the page that it leaves in force
  more : {g h k : ℕ} {s cs ds : List ℕ} → PieceReads g s cs k h → TextOn h (drop k s) ds → TextOn g s (cs ++ ds)

-- a string's bytes and its characters: "a fresh string, means page A"
abbrev pub Text : List ℕ → List ℕ → Type 0
Text s cs = TextOn page_a s cs
