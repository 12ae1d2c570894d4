-- Document 01, 'Parameters' and 'Strings': names and texts of a parameter. Parameters are those of the crate params, texts those of
-- the crate strings. Assumes nothing.
use Rattle.std.specs.Prelude.{ℕ, ◌+◌, ◌-◌, Bool, ◌&&◌, List, Option, Some, None, eqb, leb, length, take, drop, get_or}
use Rattle.common.specs.Pick.{pick}
use Rattle.error.specs.Refusal.{refusal, Told, good, bad}
use Rattle.utf8.specs.Utf8.{valid_of}
use Rattle.strings.specs.declared.Decoded.{Decoded}
use Rattle.strings.specs.declared.Decoded.TheVariants.{Plain, Written}
use Rattle.strings.specs.Answer.{decoded_of, room_after}
use Rattle.params.specs.Answer.{Span, span}
use Rattle.scalars.specs.Scalars.{is_unset}
use Rattle.words.specs.Answer.{span_bytes}
use Rattle.words.specs.declared.Text.{Text}
use Rattle.words.specs.declared.Text.TheVariants.{InFile, InRoom}

-- "a name between two dots, valid UTF-8": the test for it
unfoldable pub is_name : List ℕ → Bool
is_name t = leb 2 (length t) && (eqb (get_or t 0 0) 46 && (eqb (get_or t (length t - 1) 0) 46 && valid_of (take (length t - 1 - 1) (drop 1 t))))

-- where a parameter's name stands, without its dots; else 12 at the parameter's start
abbrev pub name_at : List ℕ → Span → Told Span
name_at s a = pick (is_name (span_bytes s a)) (good (span (a.start + 1) (a.stop - 1))) (bad (refusal 12 0 a.start))

-- "A string parameter has two bytes or more and a quote first": the test for it
unfoldable pub is_string : List ℕ → Bool
is_string t = leb 2 (length t) && eqb (get_or t 0 0) 39

-- "its text lies between first and last byte": what stands there of the parameter a
abbrev pub string_body : List ℕ → Span → List ℕ
string_body s a = take (a.stop - 1 - (a.start + 1)) (drop (a.start + 1) s)

-- "the text shown is that part of the file; otherwise a part of the lent output"; 16 stands at the parameter's start
abbrev pub decoded_at : Span → Option Decoded → Told Text
decoded_at a (Some Plain) = good (InFile (span (a.start + 1) (a.stop - 1)))
decoded_at a (Some (Written n)) = good (InRoom n)
decoded_at a None = bad (refusal 16 0 a.start)

-- a parameter's text: "`$` gives an empty text"; what is no string is 12 at the parameter's start
unfoldable pub string_at : List ℕ → ℕ → Span → Told Text
string_at s n a =
    pick
    (is_unset (span_bytes s a))
    (good (InFile (span a.start a.start)))
    (pick (is_string (span_bytes s a)) (decoded_at a (decoded_of (string_body s a) n)) (bad (refusal 12 0 a.start)))

-- the lent output after a parameter: a text that is written there, and else its own bytes
unfoldable pub room_at : List ℕ → List ℕ → Span → List ℕ
room_at s o a = pick (is_unset (span_bytes s a)) o (pick (is_string (span_bytes s a)) (room_after (string_body s a) o) o)
