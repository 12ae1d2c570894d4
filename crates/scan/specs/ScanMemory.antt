-- The lent memory after a scan, and what the scan's answer says.
-- Assumes nothing.
-- Definitions to be believed: no law, and nothing computed that no theorem ties (docs/BELIEVE.md).
use Rattle.std.specs.Prelude.{ℕ, min, List, length}
use Rattle.error.specs.Refusal.{Told, good, bad}
use Rattle.table.specs.Table.{rows_fit, headers_fit, rows_laid, headers_laid}
use Rattle.scan.specs.Records.{Table, largest}
use Rattle.scan.specs.File.{scan_of}
pub use Rattle.scan.specs.declared.Counts.{Counts}

-- how many header rows are lent
abbrev pub header_room : List ℕ → ℕ
header_room h = headers_fit (length h)

-- "the lent rows of its kind (or id slots, one a record)": how many data rows are lent, with a slot for each
abbrev pub data_room : List ℕ → ℕ → ℕ
data_room r slots = min (rows_fit (length r)) slots

-- the lent memory with a table's header rows
abbrev pub headers_of : Table → List ℕ → List ℕ
headers_of t old = headers_laid t.headers old

-- the lent memory with a table's data rows
abbrev pub records_of : Table → List ℕ → List ℕ
records_of t old = rows_laid t.records old

-- the lent header rows after an answer; a refusal leaves them as they were
abbrev pub headers_after : Told Table → List ℕ → List ℕ
headers_after (good t) old = headers_of t old
headers_after (bad q) old = old

-- the lent data rows after an answer; a refusal leaves them as they were
abbrev pub rows_after : Told Table → List ℕ → List ℕ
rows_after (good t) old = records_of t old
rows_after (bad q) old = old

-- the scan of a file into lent memory: so many header rows and data rows as this has room for, with so many slots
abbrev pub scan_lent : List ℕ → List ℕ → List ℕ → ℕ → Told Table
scan_lent s headers rows slots = scan_of s (header_room headers) (data_room rows slots)

-- an answer's values from the counts of both kinds of row and the largest id
abbrev pub counts : ℕ → ℕ → ℕ → Counts
counts h r m = record { headers = h; records = r; max = m }

-- the counts of a table's rows, and their largest id
abbrev pub counts_of : Table → Counts
counts_of t = counts (length t.headers) (length t.records) (largest t.records)
