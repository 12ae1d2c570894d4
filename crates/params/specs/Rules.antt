-- Document 01, 'Parameters' and 'Refusal numbers': what the argument reader answers for the next parameter, and where it then stands,
-- as rules that name no loop. Grammar.antt has the parameter itself. The file is s; the reader stands at the place p and reads up to
-- e. RulesRight.antt shows that Reader.antt computes just this, and that there is no other answer. Assumes nothing.
-- Definitions to be believed: no law, and nothing computed that no theorem ties (docs/BELIEVE.md).
use Rattle.std.specs.Prelude.{ℕ, suc, ◌≤◌, ◌<◌, List, [], length, take, drop}
use Rattle.error.specs.Refusal.{refusal, good, bad}
use Rattle.params.specs.Grammar.{Starts, Parameter, Unclosed}
use Rattle.params.specs.Answer.{Read, reading, Span, span}

-- the reader's place and end lie in the file, and not backwards
abbrev pub ReaderInFile : List ℕ → ℕ → ℕ → Type 0
ReaderInFile s p e = (p ≤ e) × (e ≤ length s)

-- the bytes from a place up to the reader's end: "no literal or comment is looked for past the reader's end, so that a literal not closed
-- there is 11 (this paper decides)"
abbrev pub reader_rest : List ℕ → ℕ → ℕ → List ℕ
reader_rest s e i = drop i (take e s)

-- the next parameter, from a up to z, or a refusal; and where the reader then stands
pub data NextParamForm (s : List ℕ) (p e : ℕ) : Read Span → Type 0 where
  -- 9, "span [..] outside the file or backwards", at 0; the reader stays as it came
  outside : (ReaderInFile s p e → ⊥) → NextParamForm s p e (reading (bad (refusal 9 0 0)) p e)
  -- "At the end there is none (10)": at the "reader's place", "the place reached by skipping trivia"
  none : ReaderInFile s p e → Starts (reader_rest s e p) [] → NextParamForm s p e (reading (bad (refusal 10 0 e)) e e)
  -- "A parameter starts after trivia and runs to a comma at depth 0", which stands at b, before the end; "one comma is eaten"
  comma : {a z b : ℕ} → ReaderInFile s p e → a ≤ z → z ≤ b → b < e → Starts (reader_rest s e p) (reader_rest s e a)
      → Parameter (reader_rest s e a) (reader_rest s e z) (reader_rest s e b) → NextParamForm s p e (reading (good (span a z)) (suc b) e)
  -- "or to the end": the last parameter, after which the reader stands at its end
  last : {a z : ℕ} → ReaderInFile s p e → a < e → a ≤ z → z ≤ e → Starts (reader_rest s e p) (reader_rest s e a)
      → Parameter (reader_rest s e a) (reader_rest s e z) [] → NextParamForm s p e (reading (good (span a z)) e e)
  -- 11, "literal open in a parameter", at "its quote"; the reader stands "after 11 at the parameter's start"
  unclosed : {a q : ℕ} → ReaderInFile s p e → a ≤ q → q < e → Starts (reader_rest s e p) (reader_rest s e a)
      → Unclosed (reader_rest s e a) (reader_rest s e q) → NextParamForm s p e (reading (bad (refusal 11 0 q)) a e)
