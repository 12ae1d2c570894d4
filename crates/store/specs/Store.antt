-- What opening a file answers, and what it leaves in the lent slots.
-- Assumes nothing.
-- Definitions to be believed: no law, and nothing computed that no theorem ties (docs/BELIEVE.md).
use Rattle.std.specs.Prelude.{ℕ, ◌≡◌, List, length, Result, Ok, Err}
use Rattle.error.specs.Refusal.{Told, good, bad, told}
use Rattle.error.specs.declared.Fault.{Fault}
use Rattle.table.specs.Table.{id_of}
use Rattle.statement.specs.Rows.{mapped}
use Rattle.scan.specs.Records.{Table}
use Rattle.scan.specs.ScanMemory.{scan_lent, headers_after, rows_after, counts, counts_of}
use Rattle.scan.specs.declared.Counts.{Counts}
use Rattle.index.specs.Index.{Built}
use Rattle.lookup.specs.declared.Tables.{Tables}

-- what the code's answer says: the counts of both kinds of row and the largest id, or a refusal
abbrev pub told_opened_file : Result Tables Fault → Told Counts
told_opened_file (Ok t) = good (counts t.headers t.records t.max)
told_opened_file (Err f) = bad (told f)

-- the slots after `open`: the index of all records, with what stands beside it; a refusal leaves them as they were
abbrev pub Indexed : Result Tables Fault → List ℕ → List ℕ → List ℕ → Type 0
Indexed (Ok t) rows old new = Built (id_of rows) t.records old new t.ids
Indexed (Err f) rows old new = new ≡ old

-- the scan of a file into these lent header rows, data rows and slots
abbrev pub scan_into : List ℕ → List ℕ → List ℕ → List ℕ → Told Table
scan_into s heads rows slots = scan_lent s heads rows (length slots)

-- all that `open` promises of its answer and of the lent header rows, data rows and slots after it
pub record OpensFile (s heads rows slots : List ℕ) (a : Result Tables Fault) (heads' rows' slots' : List ℕ) : Type 0 where
  pub answer : told_opened_file a ≡ mapped counts_of (scan_into s heads rows slots)
  pub headers : heads' ≡ headers_after (scan_into s heads rows slots) heads
  pub records : rows' ≡ rows_after (scan_into s heads rows slots) rows
  pub index : Indexed a rows' slots slots'
