-- What the header says of the file: "empty wherever the Rust's are" (no such header record, too few parameters, a literal that is
-- open, or a parameter that is no string), and "16 where the text room is short". Assumes nothing.
-- Definitions to be believed: no law, and nothing computed that no theorem ties (docs/BELIEVE.md).
use Rattle.std.specs.Prelude.{ℕ, List, [], ◌∷◌, eqb, Option, Some, None}
use Rattle.common.specs.Pick.{pick}
use Rattle.error.specs.Refusal.{Told, good, bad}
use Rattle.params.specs.Reader.{param_of}
use Rattle.params.specs.Skips.{skips_of}
use Rattle.params.specs.Answer.{span, read_mapped}
use Rattle.words.specs.Words.{string_at}
use Rattle.words.specs.Room.{room_of}
use Rattle.words.specs.declared.Text.{Text}
use Rattle.words.specs.declared.Text.TheVariants.{InFile}
use Rattle.lookup.specs.Lookup as rows

-- the bytes of `FILE_NAME`
abbrev pub file_name : List ℕ
file_name = 70 ∷ 73 ∷ 76 ∷ 69 ∷ 95 ∷ 78 ∷ 65 ∷ 77 ∷ 69 ∷ []

-- the empty text
abbrev pub empty_text : Text
empty_text = InFile (span 0 0)

-- a parameter's text, the empty one for a parameter that is no text; 16 refuses
abbrev pub as_title : Told Text → Told Text
as_title (good x) = good x
as_title (bad q) = pick (eqb q.number 16) (bad q) (good empty_text)

-- the text after the parameters that were passed; the empty one where there are too few, or a literal is open
abbrev pub text_after_skip : List ℕ → ℕ → Told (Unit {0}) → ℕ → ℕ → Told Text
text_after_skip s n (good u) p e = as_title (read_mapped (string_at s n) (param_of s p e)).answer
text_after_skip s n (bad q) p e = good empty_text

-- the text that stands after k parameters of a span
unfoldable pub title_in : List ℕ → ℕ → ℕ → ℕ → ℕ → Told Text
title_in s n k p e = text_after_skip s n (skips_of k s p e).answer (skips_of k s p e).place (skips_of k s p e).end

-- the lent output after the text that follows the parameters that were passed
abbrev pub room_skipped : List ℕ → List ℕ → Told (Unit {0}) → ℕ → ℕ → List ℕ
room_skipped s o (good u) p e = room_of s o (param_of s p e).answer
room_skipped s o (bad q) p e = o

-- the lent output after the text that stands after k parameters of a span
unfoldable pub room_in : List ℕ → List ℕ → ℕ → ℕ → ℕ → List ℕ
room_in s o k p e = room_skipped s o (skips_of k s p e).answer (skips_of k s p e).place (skips_of k s p e).end

-- the text that the arguments of a header record give; the empty one where there is no such record
abbrev pub title_by : List ℕ → ℕ → ℕ → Told (Option rows.FileSpan) → Told Text
title_by s n k (good None) = good empty_text
title_by s n k (good (Some a)) = title_in s n k a.start a.end
title_by s n k (bad q) = bad q

-- the lent output after the text that the arguments of a header record give
abbrev pub room_by : List ℕ → List ℕ → ℕ → Told (Option rows.FileSpan) → List ℕ
room_by s o k (good None) = o
room_by s o k (good (Some a)) = room_in s o k a.start a.end
room_by s o k (bad q) = o
