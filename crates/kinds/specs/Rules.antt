-- The kinds of records that the units need, by their keywords, as a rule that names no search; and what the answers about a kind's name say.
-- Assumes nothing.
-- Definitions to be believed: no law, and nothing computed that no theorem ties (docs/BELIEVE.md).
use Rattle.std.specs.Prelude.{ℕ, List, ◌++◌, leb, length, drop, Option, Some, None}
use Prim.Native.String.{String}
use Rattle.common.specs.Pick.{pick}
use Rattle.error.specs.Refusal.{refusal, Told, good, bad}
use Rattle.record.specs.Form.{Spelt}
use Rattle.kinds.specs.declared.Kind.{Kind}
use Rattle.kinds.specs.declared.Kind.TheVariants.{
  GeometricRepresentationContext,
  GlobalUnitAssignedContext,
  GlobalUncertaintyAssignedContext,
  LengthUnit,
  PlaneAngleUnit,
  SolidAngleUnit,
  SiUnit,
  ConversionBasedUnit,
  UncertaintyMeasureWithUnit,
  LengthMeasureWithUnit,
  Complex,
  Other,
}

-- the keyword of a kind, in capitals; `(complex)` for a complex record, and none for the others
abbrev pub name_of : Kind → String
name_of GeometricRepresentationContext = "GEOMETRIC_REPRESENTATION_CONTEXT"
name_of GlobalUnitAssignedContext = "GLOBAL_UNIT_ASSIGNED_CONTEXT"
name_of GlobalUncertaintyAssignedContext = "GLOBAL_UNCERTAINTY_ASSIGNED_CONTEXT"
name_of LengthUnit = "LENGTH_UNIT"
name_of PlaneAngleUnit = "PLANE_ANGLE_UNIT"
name_of SolidAngleUnit = "SOLID_ANGLE_UNIT"
name_of SiUnit = "SI_UNIT"
name_of ConversionBasedUnit = "CONVERSION_BASED_UNIT"
name_of UncertaintyMeasureWithUnit = "UNCERTAINTY_MEASURE_WITH_UNIT"
name_of LengthMeasureWithUnit = "LENGTH_MEASURE_WITH_UNIT"
name_of Complex = "(complex)"
name_of Other = ""

-- the kind is one of the ten that have a keyword
abbrev pub NamedKind : Kind → Type 0
NamedKind GeometricRepresentationContext = Unit {0}
NamedKind GlobalUnitAssignedContext = Unit {0}
NamedKind GlobalUncertaintyAssignedContext = Unit {0}
NamedKind LengthUnit = Unit {0}
NamedKind PlaneAngleUnit = Unit {0}
NamedKind SolidAngleUnit = Unit {0}
NamedKind SiUnit = Unit {0}
NamedKind ConversionBasedUnit = Unit {0}
NamedKind UncertaintyMeasureWithUnit = Unit {0}
NamedKind LengthMeasureWithUnit = Unit {0}
NamedKind Complex = ⊥
NamedKind Other = ⊥

-- the kind of a keyword without a search: the one of the ten whose name it is, letters in either case; all others are `Other`
pub data KindForm (t : List ℕ) : Kind → Type 0 where
  spelt : (k : Kind) → NamedKind k → Spelt t (name_of k) → KindForm t k
  other : ((k : Kind) → NamedKind k → Spelt t (name_of k) → ⊥) → KindForm t Other

-- a kind's place in the list of kinds
abbrev pub rank_of : Kind → ℕ
rank_of GeometricRepresentationContext = 0
rank_of GlobalUnitAssignedContext = 1
rank_of GlobalUncertaintyAssignedContext = 2
rank_of LengthUnit = 3
rank_of PlaneAngleUnit = 4
rank_of SolidAngleUnit = 5
rank_of SiUnit = 6
rank_of ConversionBasedUnit = 7
rank_of UncertaintyMeasureWithUnit = 8
rank_of LengthMeasureWithUnit = 9
rank_of Complex = 10
rank_of Other = 11

-- what the code's answer about a kind's name says: how many bytes; "16 output too short", at 0, since no parameter is read
abbrev pub told_kind_name : Option ℕ → Told ℕ
told_kind_name (Some n) = good n
told_kind_name None = bad (refusal 16 0 0)

-- how many bytes a name takes in this room; "16 output too short"
abbrev pub name_in : List ℕ → List ℕ → Told ℕ
name_in name out = pick (leb (length name) (length out)) (good (length name)) (bad (refusal 16 0 0))

-- the room with the name at its start and its other bytes as they were; all as it was where there is no room for it
abbrev pub name_after : List ℕ → List ℕ → List ℕ
name_after name out = pick (leb (length name) (length out)) (name ++ drop (length name) out) out
