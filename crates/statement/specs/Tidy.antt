-- A data record that its first `;` gives: no other `;` stands before that, in strings and comments neither, and its closing `)` stands just
-- before it. Nearly every record is such a one; where all of a file's are, they can be read with no search but that for a `;`.
-- Assumes nothing.
use Rattle.std.specs.Prelude.{ℕ, ◌+◌, ◌-◌, ◌≤◌, ◌<◌, Bool, true, false, not, ◌&&◌, List, [], ◌∷◌, eqb, drop, Option, Some, None, Result, Ok, Err}
use Rattle.lex.specs.Byte.{white, place}
use Rattle.record.specs.Text.{past, before}
use Rattle.record.specs.Head.{data_head}
use Rattle.record.specs.declared.Head.{Head}
use Rattle.record.specs.declared.Head.TheVariants.{Complex, Simple}
use Rattle.error.specs.declared.Reason.{Reason}
use Rattle.statement.specs.Rows.{row, Stmt, reading_ends, statement_refused, section_now, header_statement, data_statement}
use Rattle.statement.specs.declared.RecordSpan.{RecordSpan}

-- any byte but `;`
abbrev pub unended : ℕ → Bool
unended c = not (eqb c 59)

-- whether what a statement says is to be had by its first `;`: a data record where that is its `;` and its `)` stands just before. What is no
-- data record is not read so, and a refusal is not to be had
abbrev pub tidy : List ℕ → Stmt → Bool
tidy s reading_ends = true
tidy s (statement_refused q) = false
tidy s (section_now sec t) = true
tidy s (header_statement w ys t) = true
tidy s (data_statement w ys t) = eqb (place s (past unended ys) + 1) (place s t) && eqb (w.arg_end + 1) (place s (past unended ys))

-- the record that starts with the rest ys, by its head, were its `;` the first byte of e and its `)` the byte before that; `reading_ends` for none
abbrev pub tidy_by : List ℕ → List ℕ → List ℕ → Result Head Reason → Stmt
tidy_by s ys e (Err why) = reading_ends
tidy_by s ys e (Ok (Complex i o)) = data_statement (row i 0 0 (place s (drop (o + 1) ys)) (place s e - 1) 1) ys (drop 1 e)
tidy_by s ys e (Ok (Simple i a z o)) =
    data_statement (row i (place s (drop a ys)) (place s (drop z ys)) (place s (drop (o + 1) ys)) (place s e - 1) 0) ys (drop 1 e)

-- the record that starts with the rest ys, were its `;` the first byte of e and its `)` the byte before that; `reading_ends` for none
abbrev pub tidy_ended : List ℕ → List ℕ → List ℕ → Stmt
tidy_ended s ys [] = reading_ends
tidy_ended s ys (c ∷ r) = tidy_by s ys (c ∷ r) (data_head (before ys (c ∷ r)))

-- the record that follows whitespace, by its first `;`
unfoldable pub tidy_record : List ℕ → List ℕ → Stmt
tidy_record s xs = tidy_ended s (past white xs) (past unended (past white xs))

-- the place after a record that `tidy_record` answers lies after the place i and after the record's start, in a file of n bytes
abbrev pub TidyAhead : ℕ → ℕ → Option (RecordSpan × ℕ × ℕ) → Type 0
TidyAhead i n None = Unit {0}
TidyAhead i n (Some (r, q, p)) = (i < p) × (q < p) × (p ≤ n)
