-- Document 01, 'Parameters': what the argument reader answers, and where it then stands, computed. The file is a list of bytes; the reader's place
-- and end are numbers. Assumes nothing.
use Rattle.std.specs.Prelude.{ℕ, List, [], ◌∷◌, take, drop}
use Rattle.error.specs.Refusal.{refusal, good, bad}
use Rattle.lex.specs.Byte.{place}
use Rattle.params.specs.ParameterEnd.{cut_of, started, eaten}
use Rattle.params.specs.Answer.{ParamEnd, stops_before, literal_open, Read, reading, Span, span, if_in_file}

-- "The reader after 12, 13 and 16 stands past the parameter and its comma; [..] after 11 at the parameter's start"
abbrev pub bounded : List ℕ → ℕ → List ℕ → ParamEnd → Read Span
bounded xs e ys (stops_before stop bound) = reading (good (span (place xs ys) (place xs stop))) (place xs (eaten bound)) e
bounded xs e ys (literal_open o) = reading (bad (refusal 11 0 (place xs o))) (place xs ys) e

-- "At the end there is none (10)": the reader stands "after 10 at the place reached by skipping trivia"
abbrev pub param_begun : List ℕ → ℕ → List ℕ → Read Span
param_begun xs e [] = reading (bad (refusal 10 0 (place xs []))) (place xs []) e
param_begun xs e (c ∷ r) = bounded xs e (c ∷ r) (cut_of (c ∷ r))

-- the next parameter of a reader at p that reads up to e: nothing past e is looked at
unfoldable pub param_of : List ℕ → ℕ → ℕ → Read Span
param_of s p e = if_in_file s p e (param_begun (take e s) e (started (drop p (take e s))))
