-- Document 01, 'Units': the unit answer of a file, over its records in file order and the lookup of ids. `find` gives the record of an
-- id, or none. Factors are those of the crate factors. Assumes nothing.
use Rattle.std.specs.Prelude.{ℕ, List, [], ◌∷◌, Option, Some, None}
use Rattle.common.specs.Pick.{pick}
use Rattle.error.specs.Refusal.{Told, good}
use Rattle.nearest.specs.Near.{near}
use Rattle.kinds.specs.declared.Kind.TheVariants.{GlobalUnitAssignedContext, GlobalUncertaintyAssignedContext}
use Rattle.params.specs.Answer.{onward}
use Rattle.factors.specs.SeenRecords.{good_by, UnitPart, SeenRecord, self_or}
use Rattle.factors.specs.Factor.{length_of, angle_of}
use Rattle.factors.specs.Unit.{option_by}
use Rattle.units.specs.Answer.{Units, defaults, Role, length_role, angle_role, solid_role, role_by, with_length, with_angle, with_tolerance, is_context, refs_in, uncertainty_by}

-- "the role is a complex record's first part of LENGTH_UNIT, PLANE_ANGLE_UNIT and SOLID_ANGLE_UNIT"
abbrev pub first_role : List UnitPart → Option Role
first_role [] = None
first_role (p ∷ ps) = option_by (first_role ps) Some (role_by p.kind)

-- the role of a record, or the fault in its parts; "a simple record gives no factor there": it has no parts
abbrev pub role_of : SeenRecord → Told (Option Role)
role_of t = good_by first_role t.parts

module _ (s : List ℕ) (find : ℕ → Told (Option SeenRecord)) where
  -- "In a unit list the role is ..": what one unit sets by its role; a solid angle, or no role, changes nothing
  abbrev pub by_role : Units → SeenRecord → Option Role → Told Units
  by_role u t None = good u
  by_role u t (Some length_role) = good_by (with_length u) (length_of s find 16 t)
  by_role u t (Some angle_role) = good_by (with_angle u) (angle_of s find t)
  by_role u t (Some solid_role) = good u

  -- what a unit of the list sets, by its record
  abbrev pub unit_of : Units → SeenRecord → Told Units
  unit_of u t = onward (by_role u t) (role_of t)

  -- what a unit of the list sets, by its id; "a missing record [..] gives no factor"
  unfoldable pub unit_by : Units → ℕ → Told Units
  unit_by u i = onward (option_by (good u) (unit_of u)) (find i)

  -- what the units of a list set, one after the other
  unfoldable pub units_by : Units → List ℕ → Told Units
  units_by u [] = good u
  units_by u (i ∷ is) = onward (λ v. units_by v is) (unit_by u i)

  -- "Tolerance: the first listed simple UNCERTAINTY_MEASURE_WITH_UNIT that reads, else 1e-3."
  unfoldable pub tolerance_by : List ℕ → Told ℕ
  tolerance_by [] = good (near 1 1000)
  tolerance_by (i ∷ is) = onward (option_by (tolerance_by is) good) (uncertainty_by s find i)

  -- the units that a context lists. That they come "before uncertainties whatever their order" is no sentence of document 01: the list of open
  -- points says so of the Rust
  unfoldable pub listed_units : SeenRecord → Told Units
  listed_units t = onward (units_by defaults) (onward (refs_in s) (self_or GlobalUnitAssignedContext t))

  -- the tolerance that a context lists
  unfoldable pub listed_tolerance : SeenRecord → Told ℕ
  listed_tolerance t = onward tolerance_by (onward (refs_in s) (self_or GlobalUncertaintyAssignedContext t))

  -- the units that a record declares, as a context or as the list itself
  unfoldable pub context_of : SeenRecord → Told Units
  context_of t = onward (λ u. good_by (with_tolerance u) (listed_tolerance t)) (listed_units t)

  -- a context's units decide where they give a length factor; else k
  abbrev pub decided_or : (Unit {0} → Told Units) → Units → Told Units
  decided_or k u = pick u.resolved (good u) (k tt)

  -- what one record gives: its units, where it is a context that decides, else what comes after it
  abbrev pub context_or_later : (Unit {0} → Told Units) → SeenRecord → Told Units
  context_or_later k t = onward (λ c. pick c (onward (decided_or k) (context_of t)) (k tt)) (is_context s t)

  -- "The first, superseded ones included, whose units give a length factor decides": over the records in file order, a complex one with
  -- its parts or their fault, which refuses
  unfoldable pub resolve_of : List (Told SeenRecord) → Told Units
  resolve_of [] = good defaults
  resolve_of (t ∷ ts) = onward (context_or_later (λ u. resolve_of ts)) t
