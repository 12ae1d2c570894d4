-- RFC 3629's two tables as rules that name no loop: section 3's, which bytes encode a character number, and section 4's syntax of
-- byte sequences. Agree.antt shows that what Utf8.antt computes are just these, and that there is no other.
-- Assumes nothing.
-- Definitions to be believed: no law, and nothing computed that no theorem ties (docs/BELIEVE.md).
use Rattle.std.specs.Prelude.{ℕ, ◌+◌, ◌*◌, ◌≤◌, ◌<◌, ◌≡◌, List, [], ◌∷◌, ◌++◌}

-- the ABNF's `%xL-H`: a number from l to h
abbrev pub In : ℕ → ℕ → ℕ → Type 0
In l h n = (l ≤ n) × (n ≤ h)

-- section 3's table: the bytes of the character number c, whose bits x, y, z, w fill the places marked x
pub data Encoded : ℕ → List ℕ → Type 0 where
  -- "0000 0000-0000 007F | 0xxxxxxx"
  line_one : {c : ℕ} → In 0 127 c → Encoded c (c ∷ [])
  -- "0000 0080-0000 07FF | 110xxxxx 10xxxxxx"
  line_two : {c x y : ℕ} → In 128 2047 c → c ≡ x * 64 + y → x < 32 → y < 64 → Encoded c ((192 + x) ∷ (128 + y) ∷ [])
  -- "0000 0800-0000 FFFF | 1110xxxx 10xxxxxx 10xxxxxx"; it "prohibits encoding character numbers between U+D800 and U+DFFF"
  line_three : {c x y z : ℕ} → In 2048 65535 c → (In 55296 57343 c → ⊥) → c ≡ x * 4096 + y * 64 + z → x < 16 → y < 64 → z < 64
      → Encoded c ((224 + x) ∷ (128 + y) ∷ (128 + z) ∷ [])
  -- "0001 0000-0010 FFFF | 11110xxx 10xxxxxx 10xxxxxx 10xxxxxx"
  line_four : {c x y z w : ℕ} → In 65536 1114111 c → c ≡ x * 262144 + y * 4096 + z * 64 + w → x < 8 → y < 64 → z < 64 → w < 64
      → Encoded c ((240 + x) ∷ (128 + y) ∷ (128 + z) ∷ (128 + w) ∷ [])

-- section 4: `UTF8-tail = %x80-BF`
abbrev pub Tail : ℕ → Type 0
Tail b = In 128 191 b

-- section 4: `UTF8-char = UTF8-1 / UTF8-2 / UTF8-3 / UTF8-4`
pub data Sequence : List ℕ → Type 0 where
  -- `UTF8-1 = %x00-7F`
  utf8_1 : {a : ℕ} → In 0 127 a → Sequence (a ∷ [])
  -- `UTF8-2 = %xC2-DF UTF8-tail`
  utf8_2 : {a b : ℕ} → In 194 223 a → Tail b → Sequence (a ∷ b ∷ [])
  -- `UTF8-3 = %xE0 %xA0-BF UTF8-tail /`
  utf8_3_e0 : {b c : ℕ} → In 160 191 b → Tail c → Sequence (224 ∷ b ∷ c ∷ [])
  -- UTF8-3, second alternative: `%xE1-EC 2( UTF8-tail ) /`
  utf8_3_e1 : {a b c : ℕ} → In 225 236 a → Tail b → Tail c → Sequence (a ∷ b ∷ c ∷ [])
  -- UTF8-3, third alternative: `%xED %x80-9F UTF8-tail /`
  utf8_3_ed : {b c : ℕ} → In 128 159 b → Tail c → Sequence (237 ∷ b ∷ c ∷ [])
  -- UTF8-3, last alternative: `%xEE-EF 2( UTF8-tail )`
  utf8_3_ee : {a b c : ℕ} → In 238 239 a → Tail b → Tail c → Sequence (a ∷ b ∷ c ∷ [])
  -- `UTF8-4 = %xF0 %x90-BF 2( UTF8-tail ) /`
  utf8_4_f0 : {b c d : ℕ} → In 144 191 b → Tail c → Tail d → Sequence (240 ∷ b ∷ c ∷ d ∷ [])
  -- UTF8-4, second alternative: `%xF1-F3 3( UTF8-tail ) /`
  utf8_4_f1 : {a b c d : ℕ} → In 241 243 a → Tail b → Tail c → Tail d → Sequence (a ∷ b ∷ c ∷ d ∷ [])
  -- UTF8-4, last alternative: `%xF4 %x80-8F 2( UTF8-tail )`
  utf8_4_f4 : {b c d : ℕ} → In 128 143 b → Tail c → Tail d → Sequence (244 ∷ b ∷ c ∷ d ∷ [])

-- section 4: `UTF8-octets = *( UTF8-char )`
pub data Valid : List ℕ → Type 0 where
  none : Valid []
  more : {bs r : List ℕ} → Sequence bs → Valid r → Valid (bs ++ r)
