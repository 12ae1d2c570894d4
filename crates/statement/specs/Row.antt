-- Document 01, 'Reading the file': what a header or data record gives.
-- Assumes nothing.
use Rattle.std.specs.Prelude.{ℕ, ◌+◌, List, ◌++◌, drop, Result, Ok, Err}
use Rattle.std.proofs.Math.Option.{Option, none, some}
use Rattle.error.specs.Refusal.{refusal, Told, bad, told_reason}
use Rattle.error.specs.declared.Reason.{Reason}
use Rattle.lex.specs.Byte.{place}
use Rattle.lex.specs.Answer.{Sought, at, fault, placed}
use Rattle.lex.specs.Search.{closing}
use Rattle.record.specs.Text.{before}
use Rattle.record.specs.Head.{data_head, header_head}
use Rattle.record.specs.declared.Head.{Head}
use Rattle.record.specs.declared.Head.TheVariants.{Complex, Simple}
use Rattle.record.specs.declared.Named.{Named}
use Rattle.statement.specs.Rows.{Row, row, HeaderRow, header_row, bound, mapped}

-- what of the rest o stands before the bound
abbrev pub before_bound : Option (List ℕ) → List ℕ → List ℕ
before_bound none o = o
before_bound (some e) o = before o e

-- the answer of a search up to the bound, with rests of the file
abbrev pub lifted : Option (List ℕ) → Sought → Sought
lifted none x = x
lifted (some e) (at r) = at (r ++ e)
lifted (some e) (fault n r) = fault n (r ++ e)

-- "The closing `)`" from the `(` on, sought up to the bound
abbrev pub closing_sought : Option (List ℕ) → List ℕ → Sought
closing_sought b o = lifted b (closing (before_bound b o))

-- "The closing `)` is sought [..]. Faults met on the way are given at once.": o is the rest from the `(`; the place of the `)` makes
-- the row
abbrev pub argued_to : {A : Type 0} → Option (List ℕ) → List ℕ → List ℕ → (ℕ → A) → Told A
argued_to b s o f = mapped f (placed s (closing_sought b o))

-- "through the whole file, even past the record's `;`": what the place of the `)` makes, where there is no bound
abbrev pub argued : {A : Type 0} → List ℕ → List ℕ → (ℕ → A) → Told A
argued s o f = argued_to none s o f

-- "7 bad record, with reason: its start"
abbrev pub bad_record : {A : Type 0} → List ℕ → List ℕ → ℕ → Told A
bad_record s ys why = bad (refusal 7 why (place s ys))

-- the place of the `(` in a data record's head
abbrev pub opening_of : Head → ℕ
opening_of (Complex i o) = o
opening_of (Simple i a z o) = o

-- the row of a data record that starts at the place p, by its head, where its arguments run from b up to c
abbrev pub row_at : ℕ → Head → ℕ → ℕ → Row
row_at p (Complex i o) b c = row i 0 0 b c 1
row_at p (Simple i a z o) b c = row i (p + a) (p + z) b c 0

-- a data record of the file s that starts with the rest ys, by its head; its `)` is sought up to the bound b
abbrev pub record_by : Option (List ℕ) → List ℕ → List ℕ → Result Head Reason → Told Row
record_by b s ys (Err why) = bad_record s ys (told_reason why)
record_by b s ys (Ok (Complex i o)) = argued_to b s (drop o ys) (λ q. row i 0 0 (place s (drop (o + 1) ys)) q 1)
record_by b s ys (Ok (Simple i a z o)) =
    argued_to b s (drop o ys) (λ q. row i (place s (drop a ys)) (place s (drop z ys)) (place s (drop (o + 1) ys)) q 0)

-- a header record of the file s that starts with the rest ys, by its head; its `)` is sought up to the bound b
abbrev pub header_by : Option (List ℕ) → List ℕ → List ℕ → Result Named Reason → Told HeaderRow
header_by b s ys (Err why) = bad_record s ys (told_reason why)
header_by b s ys (Ok n) =
    argued_to b s (drop n.opening ys) (λ q. header_row (place s (drop n.start ys)) (place s (drop n.end ys)) (place s (drop (n.opening + 1) ys)) q)

-- a data record of the file s: its text is body, and the file's rest from its start is ys
unfoldable pub record_of : List ℕ → List ℕ → List ℕ → Told Row
record_of s ys body = record_by (bound ys body) s ys (data_head body)

-- a header record of the file s: its text is body, and the file's rest from its start is ys
unfoldable pub header_of : List ℕ → List ℕ → List ℕ → Told HeaderRow
header_of s ys body = header_by (bound ys body) s ys (header_head body)
