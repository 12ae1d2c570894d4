-- What the code's answers say, of a record and of a statement.
-- Assumes nothing.
-- Definitions to be believed: no law, and nothing computed that no theorem ties (docs/BELIEVE.md).
use Rattle.std.specs.Prelude.{ℕ, ◌≤◌, ◌<◌, List, drop, Bool, false, Option, Some, None, Result, Ok, Err}
use Rattle.error.specs.Refusal.{Told, good, bad, told}
use Rattle.statement.specs.Rows.{Row, HeaderRow, Stmt, reading_ends, statement_refused, section_now, header_statement, data_statement, told_row, header_row_of}
use Rattle.error.specs.declared.Fault.{Fault}
use Rattle.statement.specs.declared.HeaderSpan.{HeaderSpan}
use Rattle.statement.specs.declared.RecordSpan.{RecordSpan}
use Rattle.statement.specs.declared.Said.{Said}
use Rattle.statement.specs.declared.Said.TheVariants.{Ends, Moves, Heads, Records}
use Rattle.statement.specs.declared.Noted.{Noted}

-- what an answer of `scan_data_record` says: a row or a refusal
abbrev pub told_record : Result RecordSpan Fault → Told Row
told_record (Ok r) = good (told_row r)
told_record (Err f) = bad (told f)

-- what an answer of `scan_header_record` says: a row or a refusal
abbrev pub told_header_read : Result HeaderSpan Fault → Told HeaderRow
told_header_read (Ok r) = good (header_row_of r)
told_header_read (Err f) = bad (told f)

-- what `next_statement` answers, with rests of the file s for places
abbrev pub told_said : List ℕ → Result Said Fault → Stmt
told_said s (Err f) = statement_refused (told f)
told_said s (Ok Ends) = reading_ends
told_said s (Ok (Moves sec n)) = section_now sec (drop n s)
told_said s (Ok (Heads r p n)) = header_statement (header_row_of r) (drop p s) (drop n s)
told_said s (Ok (Records r p n)) = data_statement (told_row r) (drop p s) (drop n s)

-- the place after a statement lies after the place i and after the record's start, in a file of n bytes
abbrev pub Ahead : ℕ → ℕ → Result Said Fault → Type 0
Ahead i n (Err f) = Unit {0}
Ahead i n (Ok Ends) = Unit {0}
Ahead i n (Ok (Moves sec p)) = (i < p) × (p ≤ n)
Ahead i n (Ok (Heads r q p)) = (i < p) × (q < p) × (p ≤ n)
Ahead i n (Ok (Records r q p)) = (i < p) × (q < p) × (p ≤ n)

-- what `noted_statement` answers without its note
abbrev pub said_in : Result Noted Fault → Result Said Fault
said_in (Ok n) = Ok n.said
said_in (Err f) = Err f

-- the note in what `noted_statement` answers: a refusal is not tidy
abbrev pub noted_tidy : Result Noted Fault → Bool
noted_tidy (Ok n) = n.tidy
noted_tidy (Err f) = false

-- what an answer of `tidy_record` says, with rests of the file s for places; `reading_ends` where no record is had
abbrev pub told_tidied : List ℕ → Option (RecordSpan × ℕ × ℕ) → Stmt
told_tidied s None = reading_ends
told_tidied s (Some (r, p, n)) = data_statement (told_row r) (drop p s) (drop n s)
