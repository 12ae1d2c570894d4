-- Document 01, 'Parameters' and 'Strings': names and string parameters as rules that name no loop. A rule speaks of a parameter's
-- bytes, of the part of the file s that it is, and of the lent output before and after; the byte `'` is 39 and `.` is 46. Valid bytes
-- are the rules of the crate utf8, a string's characters those of the crate strings. RulesRight.antt shows that Words.antt computes
-- just this, and that there is no other answer. Assumes nothing.
-- Definitions to be believed: no law, and nothing computed that no theorem ties (docs/BELIEVE.md).
use Rattle.std.specs.Prelude.{ℕ, ◌+◌, ◌-◌, ◌≤◌, ◌<◌, ◌≡◌, List, [], ◌∷◌, ◌++◌, length, drop}
use Rattle.error.specs.Refusal.{refusal, Told, good, bad}
use Rattle.common.specs.Bytes.{bytes}
use Rattle.utf8.specs.Encoding.{encode_all}
use Rattle.utf8.specs.Rfc3629.{Valid}
use Rattle.strings.specs.Rules.{Text}
use Rattle.params.specs.Answer.{Span, span}
use Rattle.words.specs.Answer.{span_bytes}
use Rattle.words.specs.declared.Text as TextCode
use Rattle.words.specs.declared.Text.TheVariants.{InFile, InRoom}

-- "a name between two dots, valid UTF-8": t is a dot, the name n and a dot
pub record Name (t n : List ℕ) : Type 0 where
  pub dots : t ≡ 46 ∷ (n ++ (46 ∷ []))
  pub valid : Valid n

-- where the name of the parameter a stands, without its dots; "parameter of another type" is 12, at the "parameter [..] start"
pub data NameForm (s : List ℕ) (a : Span) : Told Span → Type 0 where
  name : {n : List ℕ} → Name (span_bytes s a) n → NameForm s a (good (span (a.start + 1) (a.stop - 1)))
  other : ((n : List ℕ) → Name (span_bytes s a) n → ⊥) → NameForm s a (bad (refusal 12 0 a.start))

-- "A string parameter has two bytes or more and a quote first; its text lies between first and last byte": t is a quote, b and a byte
pub record Quoted (t b : List ℕ) : Type 0 where
  pub end : ℕ
  pub shape : t ≡ 39 ∷ (b ++ (end ∷ []))

-- "no quote, backslash or high byte occurs": in the bytes of a string
abbrev pub Plainly : List ℕ → Type 0
Plainly [] = Unit {0}
Plainly (c ∷ b) = ((c ≡ 39 → ⊥) × (c ≡ 92 → ⊥) × (c < 128)) × Plainly b

-- the text of the parameter a, with the lent output o before and after
pub data TextForm (s : List ℕ) (a : Span) (o : List ℕ) : Told TextCode.Text → List ℕ → Type 0 where
  -- "`$` gives an empty text"
  unset : span_bytes s a ≡ bytes "$" → TextForm s a o (good (InFile (span a.start a.start))) o
  -- "If no quote, backslash or high byte occurs, the text shown is that part of the file"
  plain : {b : List ℕ} → Quoted (span_bytes s a) b → Plainly b → TextForm s a o (good (InFile (span (a.start + 1) (a.stop - 1)))) o
  -- "otherwise a part of the lent output", which keeps its bytes beyond it
  written : {b cs : List ℕ} → Quoted (span_bytes s a) b → (Plainly b → ⊥) → Text b cs → length (encode_all cs) ≤ length o
      → TextForm s a o (good (InRoom (length (encode_all cs)))) (encode_all cs ++ drop (length (encode_all cs)) o)
  -- "16 exactly when a text of this second kind is longer than the output", at the "parameter start"
  short : {b cs : List ℕ} → Quoted (span_bytes s a) b → (Plainly b → ⊥) → Text b cs → length o < length (encode_all cs)
      → TextForm s a o (bad (refusal 16 0 a.start)) o
  -- "parameter of another type"
  other : (span_bytes s a ≡ bytes "$" → ⊥) → ((b : List ℕ) → Quoted (span_bytes s a) b → ⊥) → TextForm s a o (bad (refusal 12 0 a.start)) o
