-- A file's tables for a host in another language.
-- Assumes nothing.
-- Definitions to be believed: no law, and nothing computed that no theorem ties (docs/BELIEVE.md).
use Rattle.std.specs.Prelude.{ℕ, ◌-◌, ◌≤◌, ◌<◌, ◌≡◌, List, length, Option, None, Some, Result, Ok, Err}
use Rattle.error.specs.Refusal.{Told, good, bad}
use Rattle.error.specs.declared.Fault.{Fault}
use Rattle.statement.specs.Rows.{Row, mapped}
use Rattle.table.specs.Table.{table_rows}
use Rattle.index.specs.Search.{searched}
use Rattle.lookup.specs.Lookup.{FileSpan, span_in, row_found, row_in, row_is_kind}
use Rattle.lookup.specs.First.{first_from}
use Rattle.lookup.specs.declared.Tables.{Tables}
use Rattle.store.specs.Store.{told_opened_file, OpensFile}
use Rattle.host_numbers.specs.Answers.{LentByHost, read_code, read_fault}
use Rattle.host_numbers.specs.Numbers.{tables_in, tables_by, kind_by}

-- what a lent reason then is: the reason of a refusal, or what stood there
abbrev pub read_reason : {A : Type 0} → Told A → ℕ → ℕ
read_reason (good a) old = old
read_reason (bad q) old = q.reason

-- a host's sixteen numbers after opening a file; a refusal leaves them as they were
abbrev pub open_tables : Result Tables Fault → List ℕ → List ℕ
open_tables (Ok t) old = tables_in t old
open_tables (Err f) old = old

-- what a host is told, and what it is left with: what opening the file answers and leaves; where there is no room for sixteen numbers,
-- 16 and all as it was
pub data Host (s heads rows slots tables : List ℕ) (reason fault code : ℕ) (heads' rows' slots' tables' : List ℕ) (reason' fault' : ℕ) : Type 0 where
  short : length tables < 16 → code ≡ 16 → heads' ≡ heads → rows' ≡ rows → slots' ≡ slots → tables' ≡ tables → reason' ≡ reason → fault' ≡ fault → Host s heads rows slots tables reason fault code heads' rows' slots' tables' reason' fault'
  opened : 16 ≤ length tables → (a : Result Tables Fault) → OpensFile s heads rows slots a heads' rows' slots' → code ≡ read_code (told_opened_file a) → tables' ≡ open_tables a tables → reason' ≡ read_reason (told_opened_file a) reason → fault' ≡ read_fault (told_opened_file a) fault → Host s heads rows slots tables reason fault code heads' rows' slots' tables' reason' fault'

-- what a host is told by opening a file, of what it lends when it asks and when it is answered
abbrev pub Hosts : List ℕ → LentByHost (List ℕ) → LentByHost (List ℕ) → LentByHost (List ℕ) → LentByHost (List ℕ) → LentByHost ℕ → LentByHost ℕ → ℕ → Type 0
Hosts s heads rows slots tables reason fault code =
    Host s heads.entry.now rows.entry.now slots.entry.now tables.entry.now reason.entry.now fault.entry.now code
    heads.exit.now rows.exit.now slots.exit.now tables.exit.now reason.exit.now fault.exit.now

-- the last record with an id, by a host's tables and numbers
abbrev pub host_record : List ℕ → List ℕ → List ℕ → ℕ → Option Row
host_record rows slots tables id = row_found rows (searched rows slots (tables_by tables).ids id)

-- the record in row k
abbrev pub host_row : List ℕ → List ℕ → ℕ → Option Row
host_row rows tables k = row_in rows (tables_by tables).records k

-- the next row of a kind from a row on, of a file s
abbrev pub next_of_kind : List ℕ → List ℕ → List ℕ → ℕ → ℕ → Option ℕ
next_of_kind s rows tables kind first = first_from (row_is_kind s rows (kind_by kind)) (table_rows rows (tables_by tables).records - first) first

-- where a part of a row stands, by f; none where there is no row
abbrev pub span_by : (Row → Told FileSpan) → Option Row → Told (Option FileSpan)
span_by f None = good None
span_by f (Some w) = mapped Some (f w)

-- where a row's keyword stands in a file of this length; none where there is no row; or 9
abbrev pub key_span : ℕ → Option Row → Told (Option FileSpan)
key_span len o = span_by (λ w. span_in len w.key_start w.key_end) o

-- where a row's arguments stand in a file of this length; none where there is no row; or 9
abbrev pub arg_span : ℕ → Option Row → Told (Option FileSpan)
arg_span len o = span_by (λ w. span_in len w.arg_start w.arg_end) o
