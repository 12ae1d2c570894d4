-- A file's units for a host in another language, and those of a context that it names by its row.
-- Assumes nothing.
-- Definitions to be believed: no law, and nothing computed that no theorem ties (docs/BELIEVE.md).
use Rattle.std.specs.Prelude.{List, ℕ, Option, None, Some}
use Rattle.error.specs.Refusal.{Told, good}
use Rattle.statement.specs.Rows.{Row, mapped}
use Rattle.params.specs.Answer.{onward}
use Rattle.lookup.specs.Lookup.{row_in}
use Rattle.factors.specs.SeenRecords.{SeenRecord, seen_record_of, table_find}
use Rattle.units.specs.Answer.{Units}
use Rattle.units.specs.Units.{context_of}
use Rattle.units.specs.InTable.{resolve_table}
use Rattle.host_numbers.specs.Numbers.{tables_by}

-- the units of the context in a row, or what refuses them; none where there is no row. `find` gives the record of an id
abbrev pub units_in : List ℕ → (ℕ → Told (Option SeenRecord)) → Option Row → Told (Option Units)
units_in s find None = good None
units_in s find (Some w) = mapped Some (onward (context_of s find) (seen_record_of s w))

-- a file's units, by a host's tables and numbers
abbrev pub file_units : List ℕ → List ℕ → List ℕ → List ℕ → Told Units
file_units s rows slots tables = resolve_table s rows slots (tables_by tables).ids (tables_by tables).records

-- the units of the context in row k, by a host's tables and numbers; none where there is no such row
abbrev pub row_units : List ℕ → List ℕ → List ℕ → List ℕ → ℕ → Told (Option Units)
row_units s rows slots tables k = units_in s (table_find s rows slots (tables_by tables).ids) (row_in rows (tables_by tables).records k)
