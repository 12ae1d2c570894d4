-- What the code's own answers say, those of its private functions. Assumes nothing.
use Rattle.std.specs.Prelude.{ℕ, ◌≤◌, List, Option, Some, None, Result, Ok, Err, length}
use Rattle.std.proofs.Math.Option.{Option as Found, none, some}
use Rattle.common.specs.Pick.{pick}
use Rattle.error.specs.Refusal.{Told, good, bad}
use Rattle.error.specs.declared.Fault.{Fault}
use Rattle.record.specs.Word.{is_word}
use Rattle.statement.specs.Rows.{Row, HeaderRow}
use Rattle.statement.specs.declared.Range.{Range}
use Rattle.params.specs.Answer.{Span, span}
use Rattle.factors.specs.SeenRecords.{SeenRecord, table_find, on_record}
use Rattle.factors.specs.Factor.{si_or_conversion}
use Rattle.factors.specs.Unit.{name_or, next_unit_name, prefix_in}
use Rattle.factors.specs.declared.Records.{Records}
use Rattle.factors.specs.declared.UnitArgs.{UnitArgs}
use Rattle.factors.specs.declared.UnitArgs.TheVariants.{Si, Conversion}

-- the record that an id names, by the file's tables
abbrev pub find_in : Records → ℕ → Told (Option SeenRecord)
find_in r = table_find r.file.now r.rows.now r.slots.now r.tables.ids

-- what `f` says of the record in a row, where other records are looked up in the file's tables; or the refusal of the row
abbrev pub on_record_in : {A : Type 0} → (List ℕ → (ℕ → Told (Option SeenRecord)) → SeenRecord → Told A) → Records → Row → Told A
on_record_in f r w = on_record f r.file.now r.rows.now r.slots.now r.tables.ids w

-- the arguments of a part that was found
abbrev pub run_of : Told (Found HeaderRow) → Told (Option Span)
run_of (good none) = good None
run_of (good (some p)) = good (Some (span p.arg_start p.arg_end))
run_of (bad q) = bad q

-- a part of the file from a parameter's span
abbrev pub range_of : Span → Range
range_of r = record { start = r.start; end = r.stop }

-- what a record is as a unit, with the arguments that say it: an SI unit, a conversion unit, or neither
unfoldable pub seen_unit : SeenRecord → Told (Option UnitArgs)
seen_unit t = si_or_conversion (λ r. good (Some (Si (range_of r)))) (λ r. good (Some (Conversion (range_of r)))) None t

-- a name that was read lies in a file of n bytes
abbrev pub NameIn : ℕ → Result Span Fault → Type 0
NameIn n (Ok a) = (a.start ≤ a.stop) × (a.stop ≤ n)
NameIn n (Err f) = Unit {0}

-- the prefix of an SI unit that has this name, which is also that of a unit whose name is unreadable; none for a unit of another name
abbrev pub prefix_for : List ℕ → Span → List ℕ → Option (List ℕ)
prefix_for s r name = pick (is_word (name_or name s (next_unit_name s (next_unit_name s r.start r.stop).place r.stop).answer) name) (Some (prefix_in s r)) None
