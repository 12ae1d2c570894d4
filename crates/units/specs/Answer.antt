-- The unit answer: its four values, what a listed unit is for, and which record is a unit context.
-- Assumes nothing.
-- Definitions to be believed: no law, and nothing computed that no theorem ties (docs/BELIEVE.md).
use Rattle.std.specs.Prelude.{ℕ, Bool, true, false, List, [], eqb, Option, Some, None, Result}
use Rattle.std.specs.Float.{binary64}
use Rattle.std.specs.Float.Ieee.{to_bits}
use Rattle.common.specs.Pick.{pick}
use Rattle.error.specs.Refusal.{Told, good, bad, told_result}
use Rattle.error.specs.declared.Fault.{Fault}
use Rattle.statement.specs.Rows.{mapped}
use Rattle.nearest.specs.Near.{near}
use Rattle.reals.specs.Scalar.{whole_of, reference_of}
use Rattle.kinds.specs.declared.Kind.{Kind}
use Rattle.kinds.specs.declared.Kind.TheVariants.{GeometricRepresentationContext, LengthUnit, PlaneAngleUnit, SolidAngleUnit, UncertaintyMeasureWithUnit}
use Rattle.params.specs.Answer.{Span, onward}
use Rattle.scalars.specs.Scalars.{measure_of}
use Rattle.scalars.specs.Answer.{next_of}
use Rattle.factors.specs.SeenRecords.{good_by, same_kind, SeenRecord, self_or}
use Rattle.factors.specs.Unit.{option_by}
pub use Rattle.units.specs.declared.role.Role.{Role}
pub use Rattle.units.specs.declared.role.Role.TheVariants.{Length as length_role, Angle as angle_role, Solid as solid_role}
use Rattle.units.specs.declared.Values as ValuesCode
use Rattle.lists.specs.Items.{list_of}
use Rattle.lists.specs.Answer.{next_by}

-- a unit answer's four values: length in mm, angle and tolerance as patterns of f64s, and whether a length unit was found
pub record Units : Type 0 where
  pub length : ℕ
  pub angle : ℕ
  pub tolerance : ℕ
  pub resolved : Bool

-- a unit answer of its four values
abbrev pub units : ℕ → ℕ → ℕ → Bool → Units
units l a t r = record { length = l; angle = a; tolerance = t; resolved = r }

-- "No such context: 1.0, 1.0, 1e-3, unresolved."; also what each context starts from: "(1.0 without one)", "else 1e-3"
abbrev pub defaults : Units
defaults = units (near 1 1) (near 1 1) (near 1 1000) false

-- the role that a part of this kind gives, or none
abbrev pub role_by : Kind → Option Role
role_by k = pick (same_kind k LengthUnit) (Some length_role) (pick (same_kind k PlaneAngleUnit) (Some angle_role) (pick (same_kind k SolidAngleUnit) (Some solid_role) None))

-- "its later length unit overwrites an earlier"; a unit without a factor overwrites nothing
abbrev pub with_length : Units → Option ℕ → Units
with_length u None = u
with_length u (Some f) = units f u.angle u.tolerance true

-- "as with angles": a later angle unit overwrites an earlier; one without a factor overwrites nothing
abbrev pub with_angle : Units → Option ℕ → Units
with_angle u None = u
with_angle u (Some f) = units u.length f u.tolerance u.resolved

-- "Tolerance: the first listed [..], else 1e-3": units with the tolerance v
abbrev pub with_tolerance : Units → ℕ → Units
with_tolerance u v = units u.length u.angle v u.resolved

-- whether an answer is a value, and no refusal
abbrev pub is_read : {A : Type 0} → Told A → Bool
is_read (good a) = true
is_read (bad q) = false

-- whether the arguments are there and their first parameter reads: "whose first parameter reads as an integer"
abbrev pub reads_integer : List ℕ → Option Span → Bool
reads_integer s None = false
reads_integer s (Some r) = is_read (next_of whole_of s r.start r.stop).answer

-- "A unit context is a GEOMETRIC_REPRESENTATION_CONTEXT record, or a complex one with that part, whose first parameter reads as an
-- integer."
unfoldable pub is_context : List ℕ → SeenRecord → Told Bool
is_context s t = good_by (reads_integer s) (self_or GeometricRepresentationContext t)

-- the code's four values of a unit answer, as patterns
abbrev pub values_in : ValuesCode.Values → Units
values_in v = units (to_bits binary64 v.length) (to_bits binary64 v.angle) (to_bits binary64 v.tolerance) v.resolved

-- what the code's unit answer says: four values, or a refusal
abbrev pub told_units : Result ValuesCode.Values Fault → Told Units
told_units r = mapped values_in (told_result r)

-- a list of references of any length, the first parameter; none where there is no such part. "An unreadable unit or uncertainty list
-- [..] refuses the whole answer."
unfoldable pub refs_in : List ℕ → Option Span → Told (List ℕ)
refs_in s None = good []
refs_in s (Some r) = (next_by (list_of reference_of) (λ vs. true) s r.start r.stop).answer

-- a listed uncertainty's measure that reads, or none; "13 inside units refuses the whole answer"
abbrev pub uncertain_by : Told ℕ → Told (Option ℕ)
uncertain_by (good v) = good (Some v)
uncertain_by (bad q) = pick (eqb q.number 13) (bad q) (good None)

-- one listed uncertainty: a "simple UNCERTAINTY_MEASURE_WITH_UNIT that reads", else none. A complex record is none whatever its parts
-- are: they are not looked at, so that a fault in them refuses nothing here (open points, 4)
abbrev pub uncertainty_of : List ℕ → SeenRecord → Told (Option ℕ)
uncertainty_of s t = pick (same_kind t.kind UncertaintyMeasureWithUnit) (uncertain_by (next_of measure_of s t.run.start t.run.stop).answer) (good None)

-- one listed uncertainty by its id; a missing record is none
unfoldable pub uncertainty_by : List ℕ → (ℕ → Told (Option SeenRecord)) → ℕ → Told (Option ℕ)
uncertainty_by s find i = onward (option_by (good None) (uncertainty_of s)) (find i)
