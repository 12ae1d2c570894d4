-- The answer about a string's text as plain numbers, for a host in another language.
-- Assumes nothing.
-- Definitions to be believed: no law, and nothing computed that no theorem ties (docs/BELIEVE.md).
use Rattle.std.specs.Prelude.{ℕ, Option, Some, None}
use Rattle.strings.specs.declared.Decoded.{Decoded}
use Rattle.strings.specs.declared.Decoded.TheVariants.{Plain, Written}

-- a text's answer as a number: 0, or the number of the refusal
abbrev pub text_code : Option Decoded → ℕ
text_code (Some d) = 0
text_code None = 16

-- where the text is: 0 for the string itself, 1 for the room; or what stood there
abbrev pub text_place : Option Decoded → ℕ → ℕ
text_place (Some Plain) old = 0
text_place (Some (Written n)) old = 1
text_place None old = old

-- how many bytes the text has, of a string of so many bytes; or what stood there
abbrev pub text_count : Option Decoded → ℕ → ℕ → ℕ
text_count (Some Plain) bytes old = bytes
text_count (Some (Written n)) bytes old = n
text_count None bytes old = old
