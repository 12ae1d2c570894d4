-- Document 01, 'Parameters' and 'Strings': the bytes of a name and of a text. Assumes nothing.
-- Definitions to be believed: no law, and nothing computed that no theorem ties (docs/BELIEVE.md).
use Rattle.std.specs.Prelude.{ℕ, ◌-◌, ◌&&◌, List, [], Result, Ok, Err, leb, length, take, drop}
use Rattle.common.specs.Pick.{pick}
use Rattle.error.specs.declared.Fault.{Fault}
use Rattle.params.specs.Answer.{Span}
use Rattle.words.specs.declared.Text.{Text}
use Rattle.words.specs.declared.Text.TheVariants.{InFile, InRoom}

-- the bytes of a part of the file
abbrev pub span_bytes : List ℕ → Span → List ℕ
span_bytes s a = take (a.stop - a.start) (drop a.start s)

-- the bytes of a text where an answer says it stands; none where the places are not in the file or the room, nor for a refusal
abbrev pub shown_by : List ℕ → List ℕ → Result Text Fault → List ℕ
shown_by s o (Ok (InFile w)) = pick (leb w.start w.stop && leb w.stop (length s)) (take (w.stop - w.start) (drop w.start s)) []
shown_by s o (Ok (InRoom n)) = pick (leb n (length o)) (take n o) []
shown_by s o (Err f) = []
