-- "that two allowed answers coincide is proved": what the arguments and the factor of a unit tell is one answer of the code. A factor is
-- told by its bits, which give the f64 back; every NaN is one. Assumes nothing.
use Rattle.std.specs.Prelude.{ℕ, ◌≡◌, refl, T, Float, Option, Some, None, Result, Ok, Err}
use Rattle.std.proofs.Common.{sym, ◌∙◌, ap}
use Rattle.std.specs.Float.{binary64}
use Rattle.std.specs.Float.Ieee.{of_bits, fits}
use Rattle.std.specs.Float.Ieee.Bits.{of_bits-to_bits}
use Rattle.error.specs.Refusal.{Told, good, bad}
use Rattle.error.specs.Only.{fault_of, fault_of_told}
use Rattle.error.specs.declared.Fault.{Fault}
use Rattle.statement.specs.declared.Range.{Range}
use Rattle.params.specs.Answer.{Span}
use Rattle.factors.specs.Answer.{told_arguments, told_factor}
use Rattle.factors.specs.Code.{range_of}

-- the code's answer that tells these arguments, none or a refusal
run_back : Told (Option Span) → Result (Option Range) Fault
run_back (good (Some r)) = Ok (Some (range_of r))
run_back (good None) = Ok None
run_back (bad q) = Err (fault_of q)

-- an answer about arguments can be had back from what it tells
run_told : (a : Result (Option Range) Fault) → run_back (told_arguments a) ≡ a
unfolding run_back
run_told (Ok (Some r)) = refl
run_told (Ok None) = refl
run_told (Err f) = ap Err (fault_of_told f)

-- `self_or`: two answers that tell the same are the same
pub run_only : (a b : Result (Option Range) Fault) → told_arguments a ≡ told_arguments b → a ≡ b
run_only a b e = sym (run_told a) ∙ ap run_back e ∙ run_told b

-- the float of an answer about a factor is an f64, as every value of that type is
abbrev pub FactorFits : Result (Option Float) Fault → Type 0
FactorFits (Ok (Some x)) = T (fits binary64 x)
FactorFits (Ok None) = Unit {0}
FactorFits (Err f) = Unit {0}

-- the code's answer that tells this factor, none or a refusal
factor_back : Told (Option ℕ) → Result (Option Float) Fault
factor_back (good (Some b)) = Ok (Some (of_bits binary64 b))
factor_back (good None) = Ok None
factor_back (bad q) = Err (fault_of q)

-- an answer about a factor can be had back from what it tells
factor_told : (a : Result (Option Float) Fault) → FactorFits a → factor_back (told_factor a) ≡ a
unfolding factor_back
factor_told (Ok (Some x)) h = ap (λ (y : Float). Ok (Some y)) (of_bits-to_bits binary64 x h)
factor_told (Ok None) h = refl
factor_told (Err f) h = ap Err (fault_of_told f)

-- `length_factor` and `angle_factor`: two answers that tell the same are the same
pub factor_only : (a b : Result (Option Float) Fault) → FactorFits a → FactorFits b → told_factor a ≡ told_factor b → a ≡ b
factor_only a b h k e = sym (factor_told a h) ∙ ap factor_back e ∙ factor_told b k
