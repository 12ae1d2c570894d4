-- Document 01: "Rows kept beside a file are these six as little-endian 32-bit numbers, in file order [..]; for them 9 comes before 16,
-- given exactly when the lent room is too short."
-- The kept form is this crate's own, row by row; how the rows lie in lent memory is the table's (`row_numbers`, `rows_fit`, `rows_laid`).
-- Assumes nothing.
-- Definitions to be believed: no law, and nothing computed that no theorem ties (docs/BELIEVE.md).
use Rattle.std.specs.Prelude.{ℕ, zero, suc, ◌+◌, ◌*◌, ◌/◌, ◌%◌, ◌≤◌, Bool, true, ◌&&◌, List, [], ◌∷◌, ◌++◌, ltb, leb, eqb, length, drop, get_or}
use Rattle.common.specs.Pick.{pick}
use Rattle.error.specs.Refusal.{refusal, Told, good, bad}
use Rattle.statement.specs.Rows.{Row, row}
use Rattle.table.specs.Table.{six, rows_laid, table_rows, row_numbers}

-- "little-endian": the number of four bytes, the first counting least
abbrev pub little : ℕ → ℕ → ℕ → ℕ → ℕ
little a b c d = a + b * 256 + c * 65536 + d * 16777216

-- the four bytes of a number of 32 bits
abbrev pub little_four : ℕ → List ℕ
little_four x = x % 256 ∷ (x / 256 % 256) ∷ (x / 65536 % 256) ∷ (x / 16777216 % 256) ∷ []

-- numbers of 32 bits as bytes, four for each, one after the other
unfoldable pub littles : List ℕ → List ℕ
littles [] = []
littles (x ∷ xs) = little_four x ++ littles xs

-- "these six as little-endian 32-bit numbers": the 24 bytes of a row
abbrev pub row_bytes : Row → List ℕ
row_bytes w = littles (six w)

-- "in file order": the bytes of rows, one row after the other
unfoldable pub kept_bytes : List Row → List ℕ
kept_bytes [] = []
kept_bytes (w ∷ ws) = row_bytes w ++ kept_bytes ws

-- the number in the four bytes from place p on
abbrev pub little_at : List ℕ → ℕ → ℕ
little_at s p = little (get_or s p 0) (get_or s (p + 1) 0) (get_or s (p + 2) 0) (get_or s (p + 3) 0)

-- row k of bytes, 24 a row
abbrev pub kept_row_at : List ℕ → ℕ → Row
kept_row_at s k =
    row (little_at s (k * 24)) (little_at s (k * 24 + 4)) (little_at s (k * 24 + 8)) (little_at s (k * 24 + 12)) (little_at s (k * 24 + 16)) (little_at s (k * 24 + 20))

-- the rows numbered from 0 up to, not including, n
unfoldable pub first_rows : (ℕ → Row) → ℕ → List Row
first_rows r zero = []
first_rows r (suc n) = first_rows r n ++ (r n ∷ [])

-- the rows that bytes hold; bytes that are left over hold none
abbrev pub kept_rows_of : List ℕ → List Row
kept_rows_of s = first_rows (kept_row_at s) (length s / 24)

-- "span or kept row outside the file or backwards [..] or a mark other than 0 or 1": a row that is neither, by its keyword's start and
-- end, its arguments' start and end, and its mark
abbrev pub fine_row : ℕ → Row → Bool
fine_row len w = leb w.key_start w.key_end && leb w.key_end len && leb w.arg_start w.arg_end && leb w.arg_end len && leb w.complex 1

-- the first n rows are all fine by the test
unfoldable pub fine_all : ℕ → (ℕ → Row) → ℕ → Bool
fine_all len r zero = true
fine_all len r (suc n) = fine_all len r n && fine_row len (r n)

-- a row is fine, without a loop (`fine_each`, `fine_every`): its spans run forwards and lie in the file, and its mark is 0 or 1
pub record FineRow (len : ℕ) (w : Row) : Type 0 where
  pub key : w.key_start ≤ w.key_end
  pub key_in : w.key_end ≤ len
  pub args : w.arg_start ≤ w.arg_end
  pub args_in : w.arg_end ≤ len
  pub mark : w.complex ≤ 1

-- "9 comes before 16, given exactly when the lent room is too short": n rows that are fine or not, for which there is room or not
abbrev pub judged : Bool → Bool → ℕ → Told ℕ
judged okay short n = pick okay (pick short (bad (refusal 16 0 0)) (good n)) (bad (refusal 9 0 0))

-- the answer to writing n rows, for a file of length len, into `out` bytes
abbrev pub keep_of : ℕ → (ℕ → Row) → ℕ → ℕ → Told ℕ
keep_of len r n out = judged (fine_all len r n) (ltb out (n * 24)) n

-- writing the rows of a table in lent memory of which n are told, for a file of this length, into so many bytes
abbrev pub keep_table : ℕ → List ℕ → ℕ → ℕ → Told ℕ
keep_table len rows n out = keep_of len (row_numbers rows) (table_rows rows n) out

-- the answer to reading bytes, for a file of length len, into room for so many rows; "left-over bytes" are 9 too
abbrev pub read_of : ℕ → List ℕ → ℕ → Told ℕ
read_of len bytes room =
    judged (eqb (length bytes % 24) 0 && fine_all len (kept_row_at bytes) (length bytes / 24)) (ltb room (length bytes / 24)) (length bytes / 24)

-- the lent bytes once rows are written: "all room beyond an answer" keeps its bytes, behind those of the rows
abbrev pub bytes_after : List Row → List ℕ → List ℕ
bytes_after ws old = kept_bytes ws ++ drop (length (kept_bytes ws)) old

-- the lent bytes after writing; a refusal leaves them as they were
abbrev pub kept_after : (ℕ → Row) → Told ℕ → List ℕ → List ℕ
kept_after r (good n) old = bytes_after (first_rows r n) old
kept_after r (bad q) old = old

-- the lent rows after reading; a refusal leaves them as they were
abbrev pub read_after : List ℕ → Told ℕ → List ℕ → List ℕ
read_after bytes (good n) old = rows_laid (kept_rows_of bytes) old
read_after bytes (bad q) old = old
