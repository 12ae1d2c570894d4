-- Document 01, 'Reading the file' and 'Refusal numbers' 1, 2 and 8: the whole file, read in order up to its first fault.
-- Assumes nothing.
use Rattle.std.specs.Prelude.{ℕ, zero, suc, ◌+◌, Bool, List, [], ◌∷◌, ltb, length, take, drop}
use Rattle.common.specs.Pick.{pick}
use Rattle.error.specs.Refusal.{refusal, Told, good, bad}
use Rattle.lex.specs.Byte.{white, place}
use Rattle.record.specs.Text.{past}
use Rattle.record.specs.Word.{same_bytes, marker}
use Rattle.statement.specs.Rows.{Stmt, reading_ends, statement_refused, section_now, header_statement, data_statement, mapped}
use Rattle.statement.specs.Statement.{statement}
use Rattle.statement.specs.declared.Section.{Section}
use Rattle.statement.specs.declared.Section.TheVariants.{Outside, InHeader, InData}
use Rattle.scan.specs.Records.{Table, table, with_header, with_record}

-- "8 is given exactly when a record has been read whole and the lent rows of its kind [..] are already used up": so many are
-- used of so many; 8 stands at the record's start
abbrev pub row_roomed : List ℕ → List ℕ → ℕ → ℕ → Told Table → Told Table
row_roomed s ys used room t = pick (ltb used room) t (bad (refusal 8 0 (place s ys)))

-- what a statement does to the reading; `go` reads on in a section, with so many rows used, from a rest
abbrev pub taken : List ℕ → ℕ → ℕ → ℕ → ℕ → Stmt → (Section → ℕ → ℕ → List ℕ → Told Table) → Told Table
taken s H R h r reading_ends go = good (table [] [])
taken s H R h r (statement_refused q) go = bad q
taken s H R h r (section_now sec t) go = go sec h r t
taken s H R h r (header_statement w ys t) go = let rest = go InHeader (h + 1) r t in row_roomed s ys h H (mapped (with_header w) rest)
taken s H R h r (data_statement w ys t) go = let rest = go InData h (r + 1) t in row_roomed s ys r R (mapped (with_record w) rest)

-- "then the file is read in order and the first fault is given": from the rest xs of the file s, with H header rows and R data
-- rows lent, h and r of them used. The first number bounds the statements that are left; it is never used up (`fuel_free`, `scan_fueled` of FormRight.antt)
unfoldable pub read_from : ℕ → List ℕ → ℕ → ℕ → Section → ℕ → ℕ → List ℕ → Told Table
read_from zero s H R sec h r xs = bad (refusal 0 0 0)
read_from (suc k) s H R sec h r xs = taken s H R h r (statement s sec xs) (λ sec h r t. read_from k s H R sec h r t)

-- the whole file, from its first byte, outside of every section; a byte-order mark is the first byte of the first record
abbrev pub reading_of : List ℕ → ℕ → ℕ → Told Table
reading_of s H R = read_from (length s + 1) s H R Outside 0 0 s

-- the byte-order mark EF BB BF
abbrev pub byte_order_mark : List ℕ
byte_order_mark = 239 ∷ 187 ∷ 191 ∷ []

-- "after an optional EF BB BF and whitespace only": what is left of the file after its byte-order mark, if it has one
abbrev pub after_mark : List ℕ → List ℕ
after_mark s = pick (same_bytes (take 3 s) byte_order_mark) (drop 3 s) s

-- "The marker is `ISO-10303-21`": whether it stands at the file's start, after a byte-order mark and whitespace
abbrev pub marked : List ℕ → Bool
marked s = same_bytes (take 12 (past white (after_mark s))) marker

-- a file of so many lent header and data rows: "2 is tested before 1; then the file is read in order and the first fault is given"
unfoldable pub scan_of : List ℕ → ℕ → ℕ → Told Table
scan_of s H R =
    pick (ltb 4294967295 (length s)) (bad (refusal 2 0 0))
    (pick (marked s) (reading_of s H R) (bad (refusal 1 0 0)))
