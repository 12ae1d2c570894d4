-- Document 01, 'Parameters', 'Scalars': the next parameter read as a scalar, and what the code's answers say. Assumes nothing.
-- Definitions to be believed: no law, and nothing computed that no theorem ties (docs/BELIEVE.md).
use Rattle.std.specs.Prelude.{ℕ, ◌-◌, List, take, drop, Float, Option, Result}
use Rattle.std.specs.Option.{option_map}
use Rattle.std.specs.Float.{binary64}
use Rattle.std.specs.Float.Ieee.{to_bits}
use Rattle.error.specs.Refusal.{refusal, Told, good, bad}
use Rattle.error.specs.declared.Fault.{Fault}
use Rattle.params.specs.Reader.{param_of}
use Rattle.params.specs.Answer.{Read, Span, read_mapped, told_read_by}
use Rattle.params.specs.declared.State.{State}
use Rattle.reals.specs.declared.NotRead.{NotRead}
use Rattle.reals.specs.declared.NotRead.TheVariants.{Outside, NotReal}
use Rattle.reals.specs.Answer.{Answer, read, refused}

-- an answer with the place of its refusal, the parameter's start
abbrev pub answered : {A : Type 0} → ℕ → Answer A → Told A
answered p (read a) = good a
answered p (refused n) = bad (refusal n 0 p)

-- the bytes of a parameter, read by f
abbrev pub scalar_at : {A : Type 0} → (List ℕ → Answer A) → List ℕ → Span → Told A
scalar_at f s a = answered a.start (f (take (a.stop - a.start) (drop a.start s)))

-- the next parameter of a reader, read by f
unfoldable pub next_of : {A : Type 0} → (List ℕ → Answer A) → List ℕ → ℕ → ℕ → Read A
next_of f s p e = read_mapped (scalar_at f s) (param_of s p e)

-- "real outside the class" is 13, "parameter of another type" 12: why a real is not read, by its number
abbrev pub number_of : NotRead → ℕ
number_of Outside = 13
number_of NotReal = 12

-- what the readers of reals and measures answer, and where the reader t then stands; a float is told by its bits
abbrev pub told_read_real : Result Float Fault → State → Read ℕ
told_read_real r t = told_read_by (to_bits binary64) r t

-- what the readers of reals that may be unset answer, and where the reader t then stands; a float is told by its bits
abbrev pub told_read_opt_real : Result (Option Float) Fault → State → Read (Option ℕ)
told_read_opt_real r t = told_read_by (option_map (to_bits binary64)) r t
