-- Document 01, 'Units': what the arguments of one unit and of one measure say. Factors are patterns of f64s. Assumes nothing.
-- Definitions to be believed: no law, and nothing computed that no theorem ties (docs/BELIEVE.md).
use Rattle.std.specs.Prelude.{ℕ, List, [], Option, Some, None, option_map}
use Prim.Native.String.{String}
use Rattle.common.specs.Pick.{pick}
use Rattle.error.specs.Refusal.{Told, good, bad}
use Rattle.nearest.specs.Product.{product}
use Rattle.record.specs.Word.{is_word}
use Rattle.common.specs.Bytes.{bytes}
use Rattle.params.specs.Reader.{param_of}
use Rattle.params.specs.Skips.{skip_of}
use Rattle.params.specs.Answer.{Read, Span, read_mapped, onward}
use Rattle.kinds.specs.declared.Kind.TheVariants.{LengthMeasureWithUnit, Complex}
use Rattle.reals.specs.Scalar.{reference_of}
use Rattle.prefixes.specs.Prefix.{factor_of}
use Rattle.prefixes.specs.Length.{length_factor_of}
use Rattle.scalars.specs.Answer.{next_of}
use Rattle.words.specs.Words.{name_at}
use Rattle.words.specs.Answer.{span_bytes}
use Rattle.factors.specs.SeenRecords.{good_by, same_kind, SeenRecord, first_unit_part}

-- a name that reads, by its bytes; `other` for one that is unreadable
abbrev pub name_or : List ℕ → List ℕ → Told Span → List ℕ
name_or other s (good a) = span_bytes s a
name_or other s (bad q) = other

-- the next parameter, read as a name
abbrev pub next_unit_name : List ℕ → ℕ → ℕ → Read Span
next_unit_name s p e = read_mapped (name_at s) (param_of s p e)

-- "an unreadable prefix is none": the first parameter of an SI unit
abbrev pub prefix_in : List ℕ → Span → List ℕ
prefix_in s r = name_or [] s (next_unit_name s r.start r.stop).answer

-- "an unreadable name METRE or RADIAN": the second parameter of an SI unit, from where the reader stands after the first
abbrev pub unit_in : String → List ℕ → Span → List ℕ
unit_in other s r = name_or (bytes other) s (next_unit_name s (next_unit_name s r.start r.stop).place r.stop).answer

-- the factor f where an SI unit has the name: "another name no factor; all in either case"
abbrev pub factor_if_named : String → List ℕ → Span → ℕ → Option ℕ
factor_if_named name s r f = pick (is_word (unit_in name s r) (bytes name)) (Some f) None

-- the factor of an SI length unit: "Length in mm: 1000.0 times the prefix factor, one rounding."
unfoldable pub si_length : List ℕ → Span → Option ℕ
si_length s r = factor_if_named "METRE" s r (length_factor_of (prefix_in s r))

-- the factor of an SI angle unit: "Angle: the prefix factor."
unfoldable pub si_angle : List ℕ → Span → Option ℕ
si_angle s r = factor_if_named "RADIAN" s r (factor_of (prefix_in s r))

-- "An unreadable [..] conversion name or measure reference [..] refuses the whole answer": the measure's reference in the arguments of a
-- conversion unit, behind its name, which is unreadable where it cannot be skipped
unfoldable pub measure_ref : List ℕ → Span → Told ℕ
measure_ref s r = onward (λ u. (next_of reference_of s (skip_of s r.start r.stop).place r.stop).answer) (skip_of s r.start r.stop).answer

-- an option taken apart: `other` for none, and k of what it holds
abbrev pub option_by : {A B : Type 0} → B → (A → B) → Option A → B
option_by other k None = other
option_by other k (Some a) = k a

-- a factor times a measure's number: "value times base factor", where the base has one
abbrev pub scaled_by : ℕ → Told (Option ℕ) → Told (Option ℕ)
scaled_by v a = good_by (option_map (product v)) a

-- the measure's arguments: "a complex length measure lacking a LENGTH_MEASURE_WITH_UNIT part" has none; any simple record has its own
abbrev pub measure_run : SeenRecord → Told (Option Span)
measure_run t = pick (same_kind t.kind Complex) (good_by (first_unit_part LengthMeasureWithUnit) t.parts) (good (Some t.run))
