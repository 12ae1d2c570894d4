-- What the answers about a record's arguments and about a factor say. Assumes nothing.
-- Definitions to be believed: no law, and nothing computed that no theorem ties (docs/BELIEVE.md).
use Rattle.std.specs.Prelude.{ℕ, Float, Option, Result, option_map}
use Rattle.std.specs.Float.{binary64}
use Rattle.std.specs.Float.Ieee.{to_bits}
use Rattle.error.specs.Refusal.{Told, told_result}
use Rattle.error.specs.declared.Fault.{Fault}
use Rattle.statement.specs.Rows.{mapped}
use Rattle.statement.specs.declared.Range.{Range}
use Rattle.params.specs.Answer.{Span, span}

-- a part of the file, as a parameter is one
abbrev pub span_of : Range → Span
span_of r = span r.start r.end

-- what the code's answer about a record's arguments says: arguments, none, or a refusal
abbrev pub told_arguments : Result (Option Range) Fault → Told (Option Span)
told_arguments r = mapped (option_map span_of) (told_result r)

-- what the code's answer about a factor says: a factor by its bits, none, or a refusal
abbrev pub told_factor : Result (Option Float) Fault → Told (Option ℕ)
told_factor r = mapped (option_map (to_bits binary64)) (told_result r)
