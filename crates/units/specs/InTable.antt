-- A file's units where its rows and its index lie in lent memory. Assumes nothing.
-- Definitions to be believed: no law, and nothing computed that no theorem ties (docs/BELIEVE.md).
use Rattle.std.specs.Prelude.{ℕ, List}
use Rattle.error.specs.Refusal.{Told}
use Rattle.index.specs.declared.Ids.{Ids}
use Rattle.factors.specs.SeenRecords.{table_find}
use Rattle.units.specs.Answer.{Units}
use Rattle.units.specs.Units.{resolve_of}
use Rattle.units.specs.Code.{seen_records_in}

-- the units of a file, by its records' table in lent memory of which n rows are told
abbrev pub resolve_table : List ℕ → List ℕ → List ℕ → Ids → ℕ → Told Units
resolve_table s rows slots ids n = resolve_of s (table_find s rows slots ids) (seen_records_in s rows n)
