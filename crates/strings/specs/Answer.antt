-- Document 01, 'Strings': what the decoder of a string's text answers, and what the lent room then holds. Assumes nothing.
-- Definitions to be believed: no law, and nothing computed that no theorem ties (docs/BELIEVE.md).
use Rattle.std.specs.Prelude.{ℕ, ◌||◌, List, [], ◌++◌, leb, length, take, drop, Option, Some, None}
use Rattle.common.specs.Pick.{pick}
use Rattle.strings.specs.Text.{plain, bytes_of}
use Rattle.strings.specs.declared.Decoded.{Decoded}
use Rattle.strings.specs.declared.Decoded.TheVariants.{Plain, Written}

-- the decoder's answer: "If no quote, backslash or high byte occurs, the text shown is that part of the file; otherwise a part of the lent output. 16
-- exactly when a text of this second kind is longer than the output."
abbrev pub decoded_of : List ℕ → ℕ → Option Decoded
decoded_of s n = pick (plain s) (Some Plain) (pick (leb (length (bytes_of s)) n) (Some (Written (length (bytes_of s)))) None)

-- the lent output afterwards: the text and, beyond it, what was there; untouched where nothing is written
abbrev pub room_after : List ℕ → List ℕ → List ℕ
room_after s o = pick (plain s) o (pick (leb (length (bytes_of s)) (length o)) (bytes_of s ++ drop (length (bytes_of s)) o) o)

-- the text of an answer: "that part of the file; otherwise a part of the lent output"; none for a refusal
abbrev pub shown_of : List ℕ → List ℕ → Option Decoded → List ℕ
shown_of s o (Some Plain) = s
shown_of s o (Some (Written n)) = take n o
shown_of s o None = []

-- the text of a string, or the number of document 01's refusal; the place is the parameter's, and its reader's to say
pub data TextAnswer : Type 0 where
  text_is : List ℕ → TextAnswer
  text_refused : ℕ → TextAnswer

-- document 01's number and value for each case: a text in the file, a text in the room, "output too short", 16
abbrev pub told_text : List ℕ → List ℕ → Option Decoded → TextAnswer
told_text s o (Some Plain) = text_is s
told_text s o (Some (Written n)) = text_is (take n o)
told_text s o None = text_refused 16

-- the answer of a string by document 01: its text, or "16 exactly when a text of this second kind is longer than the output"
abbrev pub answer_of : List ℕ → ℕ → TextAnswer
answer_of s n = pick (plain s || leb (length (bytes_of s)) n) (text_is (bytes_of s)) (text_refused 16)

-- the largest number of 64 bits
abbrev pub largest_u64 : ℕ
largest_u64 = 18446744073709551615
