-- Document 01, 'Units', as rules that name no loop: which record of the file decides, the units of a context, its tolerance, and the role
-- of a listed unit. A rule speaks of a list cut around one of its members (the crate factors, Each); what a single record or id gives is
-- taken from Answer.antt, `role_of` from Units.antt and the crates below. RulesRight.antt shows that Units.antt computes just this, and that there is no other
-- answer.
-- Assumes nothing.
-- Definitions to be believed: no law, and nothing computed that no theorem ties (docs/BELIEVE.md).
use Rattle.std.specs.Prelude.{ℕ, ◌≡◌, Bool, true, false, List, Option, Some, None}
use Rattle.error.specs.Refusal.{Refusal, Told, good, bad}
use Rattle.nearest.specs.Near.{near}
use Rattle.kinds.specs.declared.Kind.{Kind}
use Rattle.kinds.specs.declared.Kind.TheVariants.{GlobalUnitAssignedContext, GlobalUncertaintyAssignedContext}
use Rattle.params.specs.Answer.{onward}
use Rattle.factors.specs.Each.{Each, IsFirst, LastToldForm}
use Rattle.factors.specs.SeenRecords.{good_by, UnitPart, SeenRecord, self_or}
use Rattle.factors.specs.Factor.{length_of, angle_of}
use Rattle.factors.specs.Unit.{option_by}
use Rattle.units.specs.Answer.{Units, units, defaults, Role, length_role, angle_role, solid_role, role_by, with_tolerance, is_context, refs_in, uncertainty_by}
use Rattle.units.specs.Units.{role_of}

-- ---- the role of a listed unit
-- "the role is a complex record's first part of LENGTH_UNIT, PLANE_ANGLE_UNIT and SOLID_ANGLE_UNIT": over the record's parts
pub data RoleForm (ps : List UnitPart) : Option Role → Type 0 where
  -- the first part that is a length, plane angle or solid angle unit gives the role
  part : {r : Role} → IsFirst (λ p. role_by p.kind ≡ None) (λ p r. role_by p.kind ≡ Some r) ps r → RoleForm ps (Some r)
  -- no part is a length, plane angle or solid angle unit; "a simple record gives no factor there": it has no parts
  roleless : Each (λ p. role_by p.kind ≡ None) ps → RoleForm ps None

-- ---- the units of a list
-- what one listed unit gives: a length factor, an angle factor, or neither
pub data ListedFactor : Type 0 where
  a_length : ℕ → ListedFactor
  an_angle : ℕ → ListedFactor
  nothing : ListedFactor

-- the length factor that a listed unit gave, if it was one
abbrev pub length_given : Told ListedFactor → Option ℕ
length_given (good (a_length f)) = Some f
length_given (good (an_angle f)) = None
length_given (good nothing) = None
length_given (bad q) = None

-- the angle factor that a listed unit gave, if it was one
abbrev pub angle_given : Told ListedFactor → Option ℕ
angle_given (good (a_length f)) = None
angle_given (good (an_angle f)) = Some f
angle_given (good nothing) = None
angle_given (bad q) = None

-- a factor, or "(1.0 without one)"
abbrev pub or_one : Option ℕ → ℕ
or_one (Some f) = f
or_one None = near 1 1

-- whether there is a length factor: "unresolved" without one
abbrev pub is_given : Option ℕ → Bool
is_given (Some f) = true
is_given None = false

-- the units of a list, by its length factor and its angle factor; the tolerance is not yet looked for
abbrev pub units_with : Option ℕ → Option ℕ → Units
units_with l a = units (or_one l) (or_one a) (near 1 1000) (is_given l)

-- the list of references that a record has itself or in its first part of a kind; no references where it has no such part
abbrev pub list_in : List ℕ → Kind → SeenRecord → Told (List ℕ)
list_in s k t = onward (refs_in s) (self_or k t)

module _ (s : List ℕ) (find : ℕ → Told (Option SeenRecord)) where
  -- "In a unit list the role is ..": what a listed record gives in that role; a solid angle, or no role, gives neither factor
  abbrev pub given_as : SeenRecord → Option Role → Told ListedFactor
  given_as t (Some length_role) = good_by (option_by nothing a_length) (length_of s find 16 t)
  given_as t (Some angle_role) = good_by (option_by nothing an_angle) (angle_of s find t)
  given_as t (Some solid_role) = good nothing
  given_as t None = good nothing

  -- what the record of an id gives; "a missing record [..] gives no factor"
  unfoldable pub given_by : ℕ → Told ListedFactor
  given_by i = onward (option_by (good nothing) (λ t. onward (given_as t) (role_of t))) (find i)

  -- a listed unit does not refuse
  abbrev pub UnitReads : ℕ → Type 0
  UnitReads i = (g : ListedFactor) × (given_by i ≡ good g)

  -- the units of a list of ids
  pub data UnitsForm (is : List ℕ) : Told Units → Type 0 where
    -- "its later length unit overwrites an earlier, as with angles (1.0 without one)": the last listed unit that gives a length factor
    -- gives the length, and the last that gives an angle factor the angle
    read : (l a : Option ℕ) → Each UnitReads is → LastToldForm (λ i. length_given (given_by i)) is l → LastToldForm (λ i. angle_given (given_by i)) is a → UnitsForm is (good (units_with l a))
    -- "An unreadable [..] conversion name or measure reference in any context tried, or a fault in the parts of a complex record met,
    -- refuses the whole answer": the first listed unit that refuses
    refused : {q : Refusal} → IsFirst UnitReads (λ i q. given_by i ≡ bad q) is q → UnitsForm is (bad q)

  -- ---- the tolerance
  -- a listed uncertainty that ends the search: one that reads, or one that refuses
  pub data Settles (i : ℕ) : Told ℕ → Type 0 where
    -- a "simple UNCERTAINTY_MEASURE_WITH_UNIT that reads"
    reads : {v : ℕ} → uncertainty_by s find i ≡ good (Some v) → Settles i (good v)
    -- "13 inside units refuses the whole answer"
    refuses : {q : Refusal} → uncertainty_by s find i ≡ bad q → Settles i (bad q)

  -- "Tolerance": over the listed ids
  pub data ToleranceForm (is : List ℕ) : Told ℕ → Type 0 where
    -- "the first listed simple UNCERTAINTY_MEASURE_WITH_UNIT that reads"
    listed : {a : Told ℕ} → IsFirst (λ i. uncertainty_by s find i ≡ good None) Settles is a → ToleranceForm is a
    -- no listed uncertainty reads: "else 1e-3"
    assumed : Each (λ i. uncertainty_by s find i ≡ good None) is → ToleranceForm is (good (near 1 1000))

  -- ---- a context
  -- the units that a record declares: as the Rust has it, "units before uncertainties whatever their order" (open points)
  pub data ContextForm (t : SeenRecord) : Told Units → Type 0 where
    -- the record's unit list and then its uncertainty list read
    read : {is js : List ℕ} {u : Units} {v : ℕ} → list_in s GlobalUnitAssignedContext t ≡ good is → UnitsForm is (good u)
        → list_in s GlobalUncertaintyAssignedContext t ≡ good js → ToleranceForm js (good v) → ContextForm t (good (with_tolerance u v))
    -- "An unreadable unit [..] list [..] refuses the whole answer."
    unlisted : {q : Refusal} → list_in s GlobalUnitAssignedContext t ≡ bad q → ContextForm t (bad q)
    -- a listed unit that refuses refuses the whole answer
    unit : {is : List ℕ} {q : Refusal} → list_in s GlobalUnitAssignedContext t ≡ good is → UnitsForm is (bad q) → ContextForm t (bad q)
    -- "An unreadable [..] uncertainty list [..] refuses the whole answer."
    unbounded : {is : List ℕ} {u : Units} {q : Refusal} → list_in s GlobalUnitAssignedContext t ≡ good is → UnitsForm is (good u)
        → list_in s GlobalUncertaintyAssignedContext t ≡ bad q → ContextForm t (bad q)
    -- a listed uncertainty that refuses refuses the whole answer
    uncertain : {is js : List ℕ} {u : Units} {q : Refusal} → list_in s GlobalUnitAssignedContext t ≡ good is → UnitsForm is (good u)
        → list_in s GlobalUncertaintyAssignedContext t ≡ good js → ToleranceForm js (bad q) → ContextForm t (bad q)

  -- ---- the records of the file
  -- a record that is passed over
  pub data PassedOver : Told SeenRecord → Type 0 where
    -- a record that is no "unit context"
    other : {t : SeenRecord} → is_context s t ≡ good false → PassedOver (good t)
    -- a unit context of which all reads, and whose units give no length factor
    fruitless : {t : SeenRecord} {u : Units} → is_context s t ≡ good true → ContextForm t (good u) → u.resolved ≡ false → PassedOver (good t)

  -- a record that decides, and the answer
  pub data Decides : Told SeenRecord → Told Units → Type 0 where
    -- a unit context "whose units give a length factor decides"
    resolves : {t : SeenRecord} {u : Units} → is_context s t ≡ good true → ContextForm t (good u) → u.resolved ≡ true → Decides (good t) (good u)
    -- "An unreadable unit or uncertainty list, conversion name or measure reference in any context tried [..] refuses the whole answer."
    refuses : {t : SeenRecord} {q : Refusal} → is_context s t ≡ good true → ContextForm t (bad q) → Decides (good t) (bad q)
    -- "a fault in the parts of a complex record met, refuses the whole answer"
    faulty : {t : SeenRecord} {q : Refusal} → is_context s t ≡ bad q → Decides (good t) (bad q)
    -- "9 span [..] outside the file or backwards": a record whose arguments cannot be had
    outside : {q : Refusal} → Decides (bad q) (bad q)

  -- the unit answer of a file's records, in file order
  pub data ResolveForm (ts : List (Told SeenRecord)) : Told Units → Type 0 where
    -- "The first, superseded ones included, whose units give a length factor decides": no record before it does, nor refuses
    decided : {a : Told Units} → IsFirst PassedOver Decides ts a → ResolveForm ts a
    -- "No such context: 1.0, 1.0, 1e-3, unresolved."
    undecided : Each PassedOver ts → ResolveForm ts (good defaults)
