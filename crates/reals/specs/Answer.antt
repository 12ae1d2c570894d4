-- What the readers of scalars answer, as document 01 numbers it, and the two bounds of the class of reals (#101). Assumes nothing.
-- Definitions to be believed: no law, and nothing computed that no theorem ties (docs/BELIEVE.md).
use Rattle.std.specs.Prelude.{ℕ, ℤ, Float, Option, Some, None, Result, Ok, Err}
use Rattle.std.specs.Float.{binary64}
use Rattle.std.specs.Float.Ieee.{to_bits}
use Rattle.reals.specs.declared.NotRead.{NotRead}
use Rattle.reals.specs.declared.NotRead.TheVariants.{Outside, NotReal}

-- what a scalar reads as, or the number of document 01's refusal; the place is the parameter's, and its reader's to say
pub data Answer (A : Type 0) : Type 0 where
  read : A → Answer A
  refused : ℕ → Answer A

-- "real outside the class" is 13, "parameter of another type" 12. A float is told by its bit pattern
abbrev pub told_real : Result Float NotRead → Answer ℕ
told_real (Ok x) = read (to_bits binary64 x)
told_real (Err Outside) = refused 13
told_real (Err NotReal) = refused 12

-- #101: "m has at most 19 digits". This and `farthest` are the class's two bounds; no other definition repeats them
abbrev pub longest : ℕ
longest = 19

-- #101: "−27 ≤ e ≤ 27": how far e may lie from 0 in the class
abbrev pub farthest : ℕ
farthest = 27

-- what `parse_int` answers: an integer, or 12
abbrev pub told_whole : Option ℤ → Answer ℤ
told_whole (Some z) = read z
told_whole None = refused 12

-- what `parse_ref` answers: a reference, or 12
abbrev pub told_reference : Option ℕ → Answer ℕ
told_reference (Some n) = read n
told_reference None = refused 12
