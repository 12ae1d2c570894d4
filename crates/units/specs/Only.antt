-- "that two allowed answers coincide is proved": what a unit answer tells is one answer of the code. The three numbers are told by their
-- bits, which give the f64s back; every NaN is one. Assumes nothing.
use Rattle.std.specs.Prelude.{◌≡◌, refl, T, Result, Ok, Err}
use Rattle.std.proofs.Common.{sym, ◌∙◌, ap}
use Rattle.std.specs.Float.{binary64}
use Rattle.std.specs.Float.Ieee.{of_bits, fits}
use Rattle.std.specs.Float.Ieee.Bits.{of_bits-to_bits}
use Rattle.error.specs.Refusal.{Told, good, bad}
use Rattle.error.specs.Only.{fault_of, fault_of_told}
use Rattle.error.specs.declared.Fault.{Fault}
use Rattle.units.specs.Answer.{Units, told_units}
use Rattle.units.specs.declared.Values as ValuesCode

-- the three numbers of a unit answer are f64s, as all values of that type are
abbrev pub ValuesFit : ValuesCode.Values → Type 0
ValuesFit v = T (fits binary64 v.length) × (T (fits binary64 v.angle) × T (fits binary64 v.tolerance))

-- the three numbers of an answer that is no refusal are f64s
abbrev pub ResolvedFits : Result ValuesCode.Values Fault → Type 0
ResolvedFits (Ok v) = ValuesFit v
ResolvedFits (Err f) = Unit {0}

-- the code's four values of a unit answer, made from their patterns
values_back : Units → ValuesCode.Values
values_back u = record { length = of_bits binary64 u.length; angle = of_bits binary64 u.angle; tolerance = of_bits binary64 u.tolerance; resolved = u.resolved }

-- the code's answer that tells this unit answer or refusal
units_back : Told Units → Result ValuesCode.Values Fault
unfolding values_back
units_back (good u) = Ok (values_back u)
units_back (bad q) = Err (fault_of q)

-- a unit answer can be had back from what it tells
units_told : (a : Result ValuesCode.Values Fault) → ResolvedFits a → units_back (told_units a) ≡ a
unfolding units_back values_back
units_told (Ok v) (h, (k, l)) =
    rw (of_bits-to_bits binary64 v.length h, of_bits-to_bits binary64 v.angle k, of_bits-to_bits binary64 v.tolerance l) refl
units_told (Err f) h = ap Err (fault_of_told f)

-- `resolve` and `units_of_context`: two answers that tell the same are the same
pub units_only : (a b : Result ValuesCode.Values Fault) → ResolvedFits a → ResolvedFits b → told_units a ≡ told_units b → a ≡ b
units_only a b h k e = sym (units_told a h) ∙ ap units_back e ∙ units_told b k
