-- Document 01, 'Units': the factor of a length unit and of an angle unit as rules that name no loop. A rule speaks of one unit, of the
-- measure that it leads to, or of that measure's base unit. `find` gives the record of an id, or none. RulesRight.antt shows that
-- Factor.antt computes just this, and that there is no other answer; Depth.antt, where 15 is given. Assumes nothing.
-- Definitions to be believed: no law, and nothing computed that no theorem ties (docs/BELIEVE.md).
use Rattle.std.specs.Prelude.{ℕ, zero, suc, ◌<◌, ◌≡◌, true, false, List, Option, Some, None}
use Rattle.error.specs.Refusal.{Refusal, refusal, Told, good, bad}
use Rattle.reals.specs.Scalar.{reference_of}
use Rattle.kinds.specs.declared.Kind.{Kind}
use Rattle.kinds.specs.declared.Kind.TheVariants.{SiUnit, ConversionBasedUnit}
use Rattle.params.specs.Answer.{Span}
use Rattle.scalars.specs.Scalars.{measure_of}
use Rattle.scalars.specs.Answer.{next_of}
use Rattle.factors.specs.Each.{Each, IsFirst}
use Rattle.factors.specs.SeenRecords.{same_kind, UnitPart, SeenRecord, self_or}
use Rattle.factors.specs.Unit.{si_length, si_angle, measure_ref, scaled_by, measure_run}

-- ---- the first part of a kind
-- a part of a kind, and its arguments
abbrev pub OfKind : Kind → UnitPart → Span → Type 0
OfKind k p r = (same_kind p.kind k ≡ true) × (p.run ≡ r)

-- "a complex one with that part": the arguments of the first part of a kind, or none
pub data UnitPartForm (k : Kind) (ps : List UnitPart) : Option Span → Type 0 where
  -- the first part of the kind
  part : {r : Span} → IsFirst (λ p. same_kind p.kind k ≡ false) (OfKind k) ps r → UnitPartForm k ps (Some r)
  -- no part is of the kind
  without : Each (λ p. same_kind p.kind k ≡ false) ps → UnitPartForm k ps None

-- ---- a length unit
-- "An SI part goes before a conversion": a conversion unit with the arguments r has no SI part
abbrev pub Converts : SeenRecord → Span → Type 0
Converts t r = (self_or SiUnit t ≡ good None) × (self_or ConversionBasedUnit t ≡ good (Some r))

-- the number of a measure that has the arguments r
abbrev pub measure_number_at : List ℕ → Span → Told ℕ
measure_number_at s r = (next_of measure_of s r.start r.stop).answer

-- the reference of a measure's base unit, behind the number
abbrev pub base_at : List ℕ → Span → Told ℕ
base_at s r = (next_of reference_of s (next_of measure_of s r.start r.stop).place r.stop).answer

-- what a measure leads to: an answer, where the chain ends; or a number and its base unit
pub data Based : Type 0 where
  chain_ends : Told (Option ℕ) → Based
  base : ℕ → SeenRecord → Based

module _ (s : List ℕ) (find : ℕ → Told (Option SeenRecord)) where
  -- the record of an id has a measure's arguments
  abbrev pub HasMeasure : ℕ → Span → Type 0
  HasMeasure i r = (m : SeenRecord) × ((find i ≡ good (Some m)) × (measure_run m ≡ good (Some r)))

  -- "[..] leads to a measure and the measure to its base unit": the measure of an id
  pub data MeasureBaseForm (i : ℕ) : Based → Type 0 where
    -- the measure's number, and then its base unit
    leads : {r : Span} {v b : ℕ} {u : SeenRecord} → HasMeasure i r → measure_number_at s r ≡ good v → base_at s r ≡ good b → find b ≡ good (Some u) → MeasureBaseForm i (base v u)
    -- "a missing record [..] gives no factor"
    missing : find i ≡ good None → MeasureBaseForm i (chain_ends (good None))
    -- "nor does a complex length measure lacking a LENGTH_MEASURE_WITH_UNIT part"
    lacking : {m : SeenRecord} → find i ≡ good (Some m) → measure_run m ≡ good None → MeasureBaseForm i (chain_ends (good None))
    -- "an unreadable number [..] gives no factor"
    unreadable : {r : Span} {q : Refusal} → HasMeasure i r → measure_number_at s r ≡ bad q → (q.number ≡ 13 → ⊥) → MeasureBaseForm i (chain_ends (good None))
    -- "an unreadable [..] base, gives no factor"
    unbased : {r : Span} {v : ℕ} {q : Refusal} → HasMeasure i r → measure_number_at s r ≡ good v → base_at s r ≡ bad q → MeasureBaseForm i (chain_ends (good None))
    -- "a missing record [..] gives no factor": the base's record is missing
    baseless : {r : Span} {v b : ℕ} → HasMeasure i r → measure_number_at s r ≡ good v → base_at s r ≡ good b → find b ≡ good None → MeasureBaseForm i (chain_ends (good None))
    -- "13 inside units refuses the whole answer."
    classless : {r : Span} {q : Refusal} → HasMeasure i r → measure_number_at s r ≡ bad q → q.number ≡ 13 → MeasureBaseForm i (chain_ends (bad q))
    -- "a fault in the parts of a complex record met, refuses the whole answer"
    faulty : {m : SeenRecord} {q : Refusal} → find i ≡ good (Some m) → measure_run m ≡ bad q → MeasureBaseForm i (chain_ends (bad q))
    -- "9 span [..] outside the file or backwards": the measure's record cannot be had
    lost : {q : Refusal} → find i ≡ bad q → MeasureBaseForm i (chain_ends (bad q))
    -- "9 span [..] outside the file or backwards": the base's record cannot be had
    base_lost : {r : Span} {v b : ℕ} {q : Refusal} → HasMeasure i r → measure_number_at s r ≡ good v → base_at s r ≡ good b → find b ≡ bad q → MeasureBaseForm i (chain_ends (bad q))

  -- the factor of a length unit that has k conversion units before it on its chain
  pub data LengthForm : ℕ → SeenRecord → Told (Option ℕ) → Type 0 where
    -- "An SI part goes before a conversion"
    si : {k : ℕ} {t : SeenRecord} {r : Span} → self_or SiUnit t ≡ good (Some r) → LengthForm k t (good (si_length s r))
    -- a unit with neither an SI part nor a conversion has no factor
    neither : {k : ℕ} {t : SeenRecord} → self_or SiUnit t ≡ good None → self_or ConversionBasedUnit t ≡ good None → LengthForm k t (good None)
    -- "A conversion unit leads to a measure and the measure to its base unit, value times base factor"
    conversion : {k i v : ℕ} {t u : SeenRecord} {r : Span} {a : Told (Option ℕ)} → k < 16 → Converts t r → measure_ref s r ≡ good i → MeasureBaseForm i (base v u) → LengthForm (suc k) u a → LengthForm k t (scaled_by v a)
    -- a conversion unit whose measure leads to no base unit has the answer that ends the chain there
    stops : {k i : ℕ} {t : SeenRecord} {r : Span} {a : Told (Option ℕ)} → k < 16 → Converts t r → measure_ref s r ≡ good i → MeasureBaseForm i (chain_ends a) → LengthForm k t a
    -- "The seventeenth conversion unit on one chain is 15, before its name", at "the unit record's argument start"
    deep : {k : ℕ} {t : SeenRecord} {r : Span} → k ≡ 16 → Converts t r → LengthForm k t (bad (refusal 15 0 t.run.start))
    -- "An unreadable [..] conversion name or measure reference [..] refuses the whole answer"
    unnamed : {k : ℕ} {t : SeenRecord} {r : Span} {q : Refusal} → k < 16 → Converts t r → measure_ref s r ≡ bad q → LengthForm k t (bad q)
    -- "a fault in the parts of a complex record met, refuses the whole answer"
    faulty : {k : ℕ} {t : SeenRecord} {q : Refusal} → self_or SiUnit t ≡ bad q → LengthForm k t (bad q)

  -- one step on a chain: the conversion unit t leads to a measure, and that to its base unit u
  pub record ChainStep (t u : SeenRecord) : Type 0 where
    pub run : Span
    pub converts : Converts t run
    pub measure : ℕ
    pub names : measure_ref s run ≡ good measure
    pub number : ℕ
    pub leads : MeasureBaseForm measure (base number u)

  -- n steps lead from the unit t to the unit u
  abbrev pub Links : ℕ → SeenRecord → SeenRecord → Type 0
  Links zero t u = t ≡ u
  Links (suc n) t u = (v : SeenRecord) × (ChainStep t v × Links n v u)

  -- after n steps from the unit t comes one more conversion unit, whose record's arguments start at p: with sixteen, "The seventeenth
  -- conversion unit on one chain"
  pub record Follows (n : ℕ) (t : SeenRecord) (p : ℕ) : Type 0 where
    pub unit : SeenRecord
    pub run : Span
    pub links : Links n t unit
    pub converts : Converts unit run
    pub place : p ≡ unit.run.start

  -- ---- an angle unit
  -- the factor of an angle unit
  pub data AngleForm (t : SeenRecord) : Told (Option ℕ) → Type 0 where
    -- an SI unit of angle: "Angle: the prefix factor."
    si : {r : Span} → self_or SiUnit t ≡ good (Some r) → AngleForm t (good (si_angle s r))
    -- a unit with neither an SI part nor a conversion has no factor
    neither : self_or SiUnit t ≡ good None → self_or ConversionBasedUnit t ≡ good None → AngleForm t (good None)
    -- "An angle's conversion gives the measure's number alone."
    conversion : {r : Span} {i v : ℕ} {m : SeenRecord} → Converts t r → measure_ref s r ≡ good i → find i ≡ good (Some m) → measure_number_at s m.run ≡ good v → AngleForm t (good (Some v))
    -- "a missing record, or an unreadable number [..], gives no factor": the measure's record is missing
    missing : {r : Span} {i : ℕ} → Converts t r → measure_ref s r ≡ good i → find i ≡ good None → AngleForm t (good None)
    -- "a missing record, or an unreadable number [..], gives no factor": the measure's number is unreadable
    unreadable : {r : Span} {i : ℕ} {m : SeenRecord} {q : Refusal} → Converts t r → measure_ref s r ≡ good i → find i ≡ good (Some m) → measure_number_at s m.run ≡ bad q → (q.number ≡ 13 → ⊥) → AngleForm t (good None)
    -- "13 inside units refuses the whole answer."
    classless : {r : Span} {i : ℕ} {m : SeenRecord} {q : Refusal} → Converts t r → measure_ref s r ≡ good i → find i ≡ good (Some m) → measure_number_at s m.run ≡ bad q → q.number ≡ 13 → AngleForm t (bad q)
    -- "9 span [..] outside the file or backwards": the measure's record cannot be had
    lost : {r : Span} {i : ℕ} {q : Refusal} → Converts t r → measure_ref s r ≡ good i → find i ≡ bad q → AngleForm t (bad q)
    -- "An unreadable [..] conversion name or measure reference [..] refuses the whole answer"
    unnamed : {r : Span} {q : Refusal} → Converts t r → measure_ref s r ≡ bad q → AngleForm t (bad q)
    -- "a fault in the parts of a complex record met, refuses the whole answer"
    faulty : {q : Refusal} → self_or SiUnit t ≡ bad q → AngleForm t (bad q)
