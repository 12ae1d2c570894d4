-- Document 01, 'Units': the factor of a length unit and of an angle unit, as the pattern of an f64; none where it gives no factor; or
-- what refuses the whole answer. `find` gives the record of an id, or none. Assumes nothing.
use Rattle.std.specs.Prelude.{ℕ, zero, suc, List, eqb, Option, Some, None}
use Rattle.common.specs.Pick.{pick}
use Rattle.error.specs.Refusal.{refusal, Told, good, bad}
use Rattle.reals.specs.Scalar.{reference_of}
use Rattle.kinds.specs.declared.Kind.TheVariants.{SiUnit, ConversionBasedUnit}
use Rattle.params.specs.Answer.{Span, onward}
use Rattle.scalars.specs.Scalars.{measure_of}
use Rattle.scalars.specs.Answer.{next_of}
use Rattle.factors.specs.SeenRecords.{good_by, SeenRecord, self_or}
use Rattle.factors.specs.Unit.{si_length, si_angle, measure_ref, option_by, scaled_by, measure_run}

-- an unreadable number "gives no factor", but "13 inside units refuses the whole answer"
abbrev pub unread_of : Told ℕ → Told (Option ℕ)
unread_of (good v) = good None
unread_of (bad q) = pick (eqb q.number 13) (bad q) (good None)

-- a measure's number that reads goes on by k
abbrev pub read_or : Told ℕ → (ℕ → Told (Option ℕ)) → Told (Option ℕ)
read_or (good v) k = k v
read_or (bad q) k = unread_of (bad q)

-- a number that reads, or no factor; 13 refuses
abbrev pub number_or_none : Told ℕ → Told (Option ℕ)
number_or_none a = read_or a (λ v. good (Some v))

-- a base's reference that reads goes on by k: "an unreadable [..] base [..] gives no factor"
abbrev pub or_none : Told ℕ → (ℕ → Told (Option ℕ)) → Told (Option ℕ)
or_none (good v) k = k v
or_none (bad q) k = good None

-- one unit of a chain: its factor, or the measure that it leads to
pub data Chain : Type 0 where
  known : Option ℕ → Chain
  leads : ℕ → Chain

-- a conversion unit, with `left` of them left: "The seventeenth conversion unit on one chain is 15, before its name", at "the unit record's
-- argument start"; else its measure
abbrev pub conversion_of : List ℕ → ℕ → ℕ → Span → Told Chain
conversion_of s left start r = pick (eqb left 0) (bad (refusal 15 0 start)) (good_by leads (measure_ref s r))

-- "An SI part goes before a conversion": what is made of the arguments of either, and what where there is neither
abbrev pub si_or_conversion : {A : Type 0} → (Span → Told A) → (Span → Told A) → A → SeenRecord → Told A
si_or_conversion si conversion neither t = onward (option_by (onward (option_by (good neither) conversion) (self_or ConversionBasedUnit t)) si) (self_or SiUnit t)

-- one length unit of a chain, with `left` conversion units left on it
unfoldable pub link_of : List ℕ → ℕ → SeenRecord → Told Chain
link_of s left t = si_or_conversion (λ r. good (known (si_length s r))) (conversion_of s left t.run.start) (known None) t

-- a chain goes on by k where the unit leads to a measure
abbrev pub chained : (ℕ → Told (Option ℕ)) → Chain → Told (Option ℕ)
chained k (known f) = good f
chained k (leads i) = k i

module _ (s : List ℕ) (find : ℕ → Told (Option SeenRecord)) where
  -- the base unit of a measure of the value v: the next parameter, from the place p up to e; "a missing record, or an unreadable
  -- number or base, gives no factor"
  abbrev pub base_of : (SeenRecord → Told (Option ℕ)) → ℕ → ℕ → ℕ → Told (Option ℕ)
  base_of k v p e = or_none (next_of reference_of s p e).answer (λ b. onward (option_by (good None) (λ t. scaled_by v (k t))) (find b))

  -- a measure's number and then its base unit, where k gives a unit's factor
  abbrev pub measure_at : (SeenRecord → Told (Option ℕ)) → Span → Told (Option ℕ)
  measure_at k r = read_or (next_of measure_of s r.start r.stop).answer (λ v. base_of k v (next_of measure_of s r.start r.stop).place r.stop)

  -- "the measure to its base unit, value times base factor", where k gives a unit's factor
  unfoldable pub measure_in : (SeenRecord → Told (Option ℕ)) → ℕ → Told (Option ℕ)
  measure_in k i = onward (option_by (good None) (λ t. onward (option_by (good None) (measure_at k)) (measure_run t))) (find i)

  -- "A conversion unit leads to a measure and the measure to its base unit": a length unit's factor, with so many conversion units left.
  -- With none left no unit leads to a measure (`chain_left` in Laws), so that the `good none` there is never given
  unfoldable pub length_of : ℕ → SeenRecord → Told (Option ℕ)
  length_of zero t = onward (chained (λ i. good None)) (link_of s zero t)
  length_of (suc n) t = onward (chained (measure_in (λ b. length_of n b))) (link_of s (suc n) t)

  -- "An angle's conversion gives the measure's number alone." Of a complex measure the whole run of parts is read as arguments (open
  -- points, 3); they are not taken apart, so that a fault in them refuses nothing here (4)
  unfoldable pub angle_number : ℕ → Told (Option ℕ)
  angle_number i = onward (option_by (good None) (λ t. number_or_none (next_of measure_of s t.run.start t.run.stop).answer)) (find i)

  -- an angle unit's factor, none, or a refusal
  unfoldable pub angle_of : SeenRecord → Told (Option ℕ)
  angle_of t = si_or_conversion (λ r. good (si_angle s r)) (λ r. onward angle_number (measure_ref s r)) None t

-- the measure that an id names, in millimetres, by at most `left` conversions from its unit on
abbrev pub measure_left : ℕ → List ℕ → (ℕ → Told (Option SeenRecord)) → ℕ → Told (Option ℕ)
measure_left left s find = measure_in s find (length_of s find left)

-- the number of the measure that is named at the start of an angle unit's arguments
abbrev pub number_ahead : List ℕ → (ℕ → Told (Option SeenRecord)) → Span → Told (Option ℕ)
number_ahead s find run = onward (angle_number s find) (measure_ref s run)
