-- A data record takes at least five bytes, so that no file which the scan takes has more records than the index can hold.
-- Assumes nothing.
use Rattle.std.specs.Prelude.{ℕ, ◌+◌, ◌*◌, ◌≤◌, ◌<◌, ◌≡◌, refl, List, [], ◌∷◌, length, Ok}
use Rattle.std.proofs.Common.{◌∙◌, ap, arith, length-append}
use Rattle.error.specs.Refusal.{Told, good, bad}
use Rattle.lex.specs.Local.{trivia_shorter}
use Rattle.lex.specs.Right.{trivia_only}
use Rattle.record.specs.Form.{Lead, HeadForm, Keyword}
use Rattle.record.specs.declared.Head.TheVariants.{Complex, Simple}
use Rattle.statement.specs.Rows.{Row, HeaderRow, data_statement, header_kind, data_kind, mapped}
use Rattle.statement.specs.declared.Section.{Section}
use Rattle.scan.specs.Records.{Table, with_header, with_record}
use Rattle.scan.specs.File.{scan_of}
use Rattle.statement.specs.Form.{DataForm, Record, StatementForm}
use Rattle.scan.specs.Form.{RowsPerKind, Reads, Scans}
use Rattle.scan.specs.FormRight.{scans_is}
use Rattle.statement.specs.FormRight.{moved_shorter, header_shorter}

-- digits that are not none are at least one
some_digits : (ds : List ℕ) → (ds ≡ [] → ⊥) → 1 ≤ length ds
some_digits [] h = absurd (h refl)
some_digits (d ∷ ds) h = omega arith

-- before a data record's value stand at least three bytes: `#`, a digit and `=`
lead_long : {a v : List ℕ} {n : ℕ} → Lead a n v → 3 ≤ length a
lead_long (Lead.lead ds w u v i p q) = let d = some_digits ds i.some in simp length-append (omega arith)

-- a complex record's text has at least four bytes: its `(` follows `#`, a digit and `=`
complex_long : {b : List ℕ} {i o : ℕ} → HeadForm b (Ok (Complex i o)) → 4 ≤ length b
complex_long (HeadForm.complex l) = let d = lead_long l in simp length-append (omega arith)

-- what begins with a keyword has at least one byte, its `(`
key_long : {v k w r : List ℕ} → Keyword v k w r → 1 ≤ length v
key_long {v} {k} {w} {r} f = let e : length v ≡ length k + (length w + length (40 ∷ r)) = ap (λ (x : List ℕ). length x) f.shape ∙ simp length-append in omega arith

-- a simple record's text has at least four bytes
simple_long : {b : List ℕ} {i a z o : ℕ} → HeadForm b (Ok (Simple i a z o)) → 4 ≤ length b
simple_long (HeadForm.simple l h f) = let d = lead_long l in let e = key_long f in simp length-append (omega arith)

-- a data record's text has at least four bytes
body_long : {s ys body : List ℕ} {w : Row} → DataForm s ys body (good w) → 4 ≤ length body
body_long (DataForm.complex h p g) = complex_long h
body_long (DataForm.simple h a z o g) = simple_long h

-- a record whose text has at least four bytes takes at least five with its `;`
record_long : {xs ys body t : List ℕ} → Record xs ys body t → 4 ≤ length body → length t + 5 ≤ length xs
record_long {xs} d h = omega (arith, trivia_shorter xs (trivia_only d.starts), simp length-append at (ap length d.text))

-- what follows a data record is at least five bytes shorter than what begins with it
data_long : {s : List ℕ} {sec : Section} {xs ys t : List ℕ} {w : Row} → StatementForm s sec xs (data_statement w ys t) → length t + 5 ≤ length xs
data_long (StatementForm.data_row d f g) = record_long d (body_long g)

-- an answer's records, five bytes each, find room in n bytes
abbrev Few : ℕ → Told Table → Type 0
Few n (good t) = length t.records * 5 ≤ n
Few n (bad q) = Unit {0}

-- records that find room in m bytes find room in more
few_more : (m n : ℕ) (a : Told Table) → m ≤ n → Few m a → Few n a
few_more m n (good t) h f = omega arith
few_more m n (bad q) h f = tt

-- a header row more takes no room from the records
few_header : (n : ℕ) (w : HeaderRow) (a : Told Table) → Few n a → Few n (mapped (with_header w) a)
few_header n w (good t) f = f
few_header n w (bad q) f = tt

-- a data row more takes five bytes of the room
few_record : (m n : ℕ) (w : Row) (a : Told Table) → m + 5 ≤ n → Few m a → Few n (mapped (with_record w) a)
few_record m n w (good t) h f = omega arith
few_record m n w (bad q) h f = tt

-- the records of what is left to read, five bytes each, find room in it
reads_few : {s : List ℕ} {lent : RowsPerKind} {sec : Section} {n : RowsPerKind} {xs : List ℕ} {a : Told Table} → Reads s lent sec n xs a → Few (length xs) a
reads_few (Reads.over f) = omega arith
reads_few (Reads.fault f) = tt
reads_few {xs} (Reads.on {t} {a} f d) = let m = moved_shorter f in few_more (length t) (length xs) a (omega arith) (reads_few d)
reads_few {xs} (Reads.row {t} {a} header_kind w ys f p d) = let m = header_shorter f in few_header (length xs) w a (few_more (length t) (length xs) a (omega arith) (reads_few d))
reads_few {xs} (Reads.row {t} {a} data_kind w ys f p d) = few_record (length t) (length xs) w a (data_long f) (reads_few d)
reads_few (Reads.full k w ys t f p) = tt

-- the records of a whole file, five bytes each, find room in 2^32 - 1 bytes
scans_few : {s : List ℕ} {lent : RowsPerKind} {a : Told Table} → Scans s lent a → Few 4294967295 a
scans_few (Scans.long h) = tt
scans_few (Scans.unmarked h n) = tt
scans_few {s} {a} (Scans.read h m d) = few_more (length s) 4294967295 a h (reads_few d)

-- no file that the scan takes has 2^30 records
pub scan_few : (s : List ℕ) (H R : ℕ) (t : Table) → scan_of s H R ≡ good t → length t.records < 1073741824
scan_few s H R t e = go (rw e at (scans_few (scans_is s H R)))
  where
    go : length t.records * 5 ≤ 4294967295 → length t.records < 1073741824
    go h = omega arith
