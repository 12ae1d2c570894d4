-- "that two allowed answers coincide is proved": what a scalar is told as is one answer of the code. A float is told by its bits,
-- and an f64's bits give it back; every NaN is one. Assumes nothing.
use Rattle.std.specs.Prelude.{ℕ, ◌≡◌, refl, T, eqb, ℤ, Float, Option, Some, None, Result, Ok, Err}
use Rattle.std.proofs.Common.{sym, ◌∙◌, ap}
use Rattle.std.specs.Float.{binary64}
use Rattle.std.specs.Float.Ieee.{of_bits, fits}
use Rattle.std.specs.Float.Ieee.Bits.{of_bits-to_bits}
use Rattle.common.specs.Pick.{pick}
use Rattle.reals.specs.Answer.{Answer, read, refused, told_real, told_whole, told_reference}
use Rattle.reals.specs.declared.NotRead.{NotRead}
use Rattle.reals.specs.declared.NotRead.TheVariants.{Outside, NotReal}

-- the float of an answer to a real is an f64, as every value of the type is
abbrev pub RealFits : Result Float NotRead → Type 0
RealFits (Ok x) = T (fits binary64 x)
RealFits (Err n) = Unit {0}

-- the code's answer that is told as this real or refusal
real_told : Answer ℕ → Result Float NotRead
real_told (read b) = Ok (of_bits binary64 b)
real_told (refused n) = pick (eqb n 13) (Err Outside) (Err NotReal)

-- an answer to a real can be had back from what it is told as
real_back_lem : (a : Result Float NotRead) → RealFits a → real_told (told_real a) ≡ a
unfolding real_told
real_back_lem (Ok x) h = ap Ok (of_bits-to_bits binary64 x h)
real_back_lem (Err Outside) h = refl
real_back_lem (Err NotReal) h = refl

-- `parse_real` and `read_real`: two answers that are told alike are the same
pub real_told_only : (a b : Result Float NotRead) → RealFits a → RealFits b → told_real a ≡ told_real b → a ≡ b
real_told_only a b h k e = sym (real_back_lem a h) ∙ ap real_told e ∙ real_back_lem b k

-- the code's answer that is told as this integer or refusal
whole_told : Answer ℤ → Option ℤ
whole_told (read z) = Some z
whole_told (refused n) = None

-- an answer to an integer can be had back from what it is told as
whole_back_lem : (a : Option ℤ) → whole_told (told_whole a) ≡ a
unfolding whole_told
whole_back_lem (Some z) = refl
whole_back_lem None = refl

-- `parse_int`: two answers that are told alike are the same
pub whole_told_only : (a b : Option ℤ) → told_whole a ≡ told_whole b → a ≡ b
whole_told_only a b e = sym (whole_back_lem a) ∙ ap whole_told e ∙ whole_back_lem b

-- the code's answer that is told as this reference or refusal
reference_told : Answer ℕ → Option ℕ
reference_told (read n) = Some n
reference_told (refused n) = None

-- an answer to a reference can be had back from what it is told as
reference_back : (a : Option ℕ) → reference_told (told_reference a) ≡ a
unfolding reference_told
reference_back (Some n) = refl
reference_back None = refl

-- `parse_ref`: two answers that are told alike are the same
pub reference_told_only : (a b : Option ℕ) → told_reference a ≡ told_reference b → a ≡ b
reference_told_only a b e = sym (reference_back a) ∙ ap reference_told e ∙ reference_back b
