-- Document 01, 'Reading the file' and 'Refusal numbers' 1, 2 and 8: what the answer for a whole file is, as rules that name no loop
-- and no search, over what its statements say (`StatementForm` of statement). A rule speaks of rests of the file s: xs is what is
-- left to read, ys the file from a record's start; `place s ys` is where the rest ys begins. A fault's number and place are quoted
-- from the table of refusal numbers.
-- FormRight.antt shows that File.antt computes just this, and that there is no other answer.
-- Assumes nothing.
-- Definitions to be believed: no law, and nothing computed that no theorem ties (docs/BELIEVE.md).
use Rattle.std.specs.Prelude.{ℕ, ◌+◌, ◌≤◌, ◌<◌, ◌≡◌, List, [], ◌∷◌, ◌++◌, length}
use Rattle.error.specs.Refusal.{Refusal, refusal, Told, good, bad}
use Rattle.lex.specs.Byte.{white, place}
use Rattle.record.specs.Form.{All}
use Rattle.common.specs.Bytes.{bytes}
use Rattle.statement.specs.Rows.{reading_ends, statement_refused, section_now, RowKind, header_kind, data_kind, RowOf, rowed, section_of, mapped}
use Rattle.statement.specs.Form.{StatementForm}
use Rattle.statement.specs.declared.Section.{Section}
use Rattle.statement.specs.declared.Section.TheVariants.{Outside}
use Rattle.scan.specs.Records.{Table, table, with_row}

-- rows counted by kind
pub record RowsPerKind : Type 0 where
  pub headers : ℕ
  pub records : ℕ

-- rows counted by kind, from the number of header rows and of data rows
abbrev pub rows_per_kind : ℕ → ℕ → RowsPerKind
rows_per_kind h r = record { headers = h; records = r }

-- how many rows of a kind are counted
abbrev pub count_of_kind : RowKind → RowsPerKind → ℕ
count_of_kind header_kind n = n.headers
count_of_kind data_kind n = n.records

-- one row more of a kind
abbrev pub one_more_of : RowKind → RowsPerKind → RowsPerKind
one_more_of header_kind n = rows_per_kind (n.headers + 1) n.records
one_more_of data_kind n = rows_per_kind n.headers (n.records + 1)

-- of no kind more rows than are lent
abbrev pub WithinLent : RowsPerKind → RowsPerKind → Type 0
WithinLent n lent = (k : RowKind) → count_of_kind k n ≤ count_of_kind k lent

-- "then the file is read in order and the first fault is given": the answer from the rest xs of the file s on, in this section,
-- with so many rows of each kind lent ("or id slots, one a record": the lesser of both), and n of them used
pub data Reads (s : List ℕ) (lent : RowsPerKind) : Section → RowsPerKind → List ℕ → Told Table → Type 0 where
  -- the reading ends, and no row is left to come
  over : {sec : Section} {n : RowsPerKind} {xs : List ℕ} → StatementForm s sec xs reading_ends → Reads s lent sec n xs (good (table [] []))
  -- "the first fault is given"
  fault : {sec : Section} {n : RowsPerKind} {xs : List ℕ} {q : Refusal} → StatementForm s sec xs (statement_refused q) → Reads s lent sec n xs (bad q)
  -- a section word, or a record that is ignored: the answer is that of the rest of the file
  on : {sec to : Section} {n : RowsPerKind} {xs t : List ℕ} {a : Told Table} → StatementForm s sec xs (section_now to t) → Reads s lent to n t a
      → Reads s lent sec n xs a
  -- a record that gives a row: its row comes before those of the rest of the file
  row : {sec : Section} {n : RowsPerKind} {xs t : List ℕ} {a : Told Table} (k : RowKind) (w : RowOf k) (ys : List ℕ)
      → StatementForm s sec xs (rowed k w ys t) → count_of_kind k n < count_of_kind k lent → Reads s lent (section_of k) (one_more_of k n) t a → Reads s lent sec n xs (mapped (with_row k w) a)
  -- "8 is given exactly when a record has been read whole and the lent rows of its kind (or id slots, one a record) are already used
  -- up", "record start"
  full : {sec : Section} {n : RowsPerKind} {xs : List ℕ} (k : RowKind) (w : RowOf k) (ys t : List ℕ) → StatementForm s sec xs (rowed k w ys t)
      → count_of_kind k lent ≤ count_of_kind k n → Reads s lent sec n xs (bad (refusal 8 0 (place s ys)))

-- "The marker is `ISO-10303-21` after an optional EF BB BF and whitespace only."
pub data Marked : List ℕ → Type 0 where
  -- whitespace only stands before the marker
  plain : (w r : List ℕ) → All white w → Marked (w ++ (bytes "ISO-10303-21" ++ r))
  -- EF BB BF and whitespace only stand before the marker
  mark : (w r : List ℕ) → All white w → Marked (239 ∷ 187 ∷ 191 ∷ (w ++ (bytes "ISO-10303-21" ++ r)))

-- the answer for the file s, with so many rows of each kind lent
pub data Scans (s : List ℕ) (lent : RowsPerKind) : Told Table → Type 0 where
  -- "2 file too long, 0", "2 is tested before 1"
  long : 4294967295 < length s → Scans s lent (bad (refusal 2 0 0))
  -- "1 no Part 21 marker, 0"
  unmarked : length s ≤ 4294967295 → (Marked s → ⊥) → Scans s lent (bad (refusal 1 0 0))
  -- "then the file is read in order": from its first byte on, outside of every section, with no row used
  read : {a : Told Table} → length s ≤ 4294967295 → Marked s → Reads s lent Outside (rows_per_kind 0 0) s a → Scans s lent a

-- the file s, read in order, comes to the rest xs in this section, and so many rows of each kind have been read by then
pub data Reached (s : List ℕ) : Section → List ℕ → RowsPerKind → Type 0 where
  -- at first the reading stands at the file's start, outside of every section, and has read no row
  start : Reached s Outside s (rows_per_kind 0 0)
  -- after a section word, or a record that is ignored, the reading stands after it
  on : {sec to : Section} {xs t : List ℕ} {n : RowsPerKind} → Reached s sec xs n → StatementForm s sec xs (section_now to t) → Reached s to t n
  -- after a record that gives a row, read whole, the reading stands after it and has read one row of its kind more
  row : {sec : Section} {xs t : List ℕ} {n : RowsPerKind} (k : RowKind) (w : RowOf k) (ys : List ℕ) → Reached s sec xs n
      → StatementForm s sec xs (rowed k w ys t) → Reached s (section_of k) t (one_more_of k n)

-- "8 is given exactly when a record has been read whole and the lent rows of its kind [..] are already used up": as many rows of
-- the kind as are lent, and of no kind more, have been read when one more record, which starts with ys, is read whole
pub data Full (s : List ℕ) (lent : RowsPerKind) : Refusal → Type 0 where
  -- the reading has come to one record of the kind k too many
  full : {sec : Section} {xs : List ℕ} {n : RowsPerKind} (k : RowKind) (w : RowOf k) (ys t : List ℕ) → Reached s sec xs n → WithinLent n lent
      → count_of_kind k n ≡ count_of_kind k lent → StatementForm s sec xs (rowed k w ys t) → Full s lent (refusal 8 0 (place s ys))
