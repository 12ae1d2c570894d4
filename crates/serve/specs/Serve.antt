-- What a file serves, by its table: a record of an id, and its unit answer.
-- Assumes nothing.
-- Definitions to be believed: no law, and nothing computed that no theorem ties (docs/BELIEVE.md).
use Rattle.std.specs.Prelude.{ℕ, List, map, Option, Result, option_map}
use Rattle.error.specs.Refusal.{Told, good, told_result}
use Rattle.error.specs.declared.Fault.{Fault}
use Rattle.statement.specs.Rows.{Row, mapped, told_row}
use Rattle.statement.specs.declared.RecordSpan.{RecordSpan}
use Rattle.scan.specs.Records.{Table}
use Rattle.lookup.specs.Records.{last_of}
use Rattle.store.specs.Store.{OpensFile}
use Rattle.lookup.specs.declared.Tables.{Tables}
use Rattle.factors.specs.SeenRecords.{seen_record_of, seen_record_found}
use Rattle.units.specs.Answer.{Units}
use Rattle.units.specs.Units.{resolve_of}

-- "the last record of that id, or none", of a file's table
abbrev pub record_in : ℕ → Table → Told (Option Row)
record_in k t = good (last_of k t.records)

-- the unit answer of the file s with the table t, over its records in file order and the lookup
abbrev pub units_of : List ℕ → Table → Told Units
units_of s t = resolve_of s (λ k. seen_record_found s (last_of k t.records)) (map (seen_record_of s) t.records)

-- what the code's answer about a served record says: a row, none, or a refusal
abbrev pub told_served : Result (Option RecordSpan) Fault → Told (Option Row)
told_served a = mapped (option_map told_row) (told_result a)

-- the lent memory after a call: what opening the file leaves there, and that is one thing (`opened_file_only` of store/specs/Only)
abbrev pub OpeningLeaves : List ℕ → List ℕ → List ℕ → List ℕ → List ℕ → List ℕ → List ℕ → Type 0
OpeningLeaves s heads rows slots heads' rows' slots' = (a : Result Tables Fault) × OpensFile s heads rows slots a heads' rows' slots'
