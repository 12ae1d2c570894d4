-- "rooms that suffice" (document 01, 'Domain of equality'): an answer takes as many rows as it has and no more, and rooms larger
-- than that change nothing. Assumes nothing.
use Rattle.std.specs.Prelude.{ℕ, ◌+◌, ◌≤◌, ◌<◌, ◌≡◌, refl, List, [], ◌∷◌, length}
use Rattle.std.proofs.Common.{sym, arith}
use Rattle.error.specs.Refusal.{refusal, Told, good, bad}
use Rattle.lex.specs.Search.{trivia, record_end, closing}
use Rattle.common.specs.Walk.{walk}
use Rattle.record.specs.Text.{past, number_from, keyword, trail}
use Rattle.record.specs.Word.{word_of}
use Rattle.record.specs.Head.{data_head}
use Rattle.common.specs.Bytes.{bytes}
use Rattle.statement.specs.Rows.{Row, row, HeaderRow, header_kind, data_kind, mapped}
use Rattle.statement.specs.Row.{record_of}
use Rattle.statement.specs.Statement.{statement}
use Rattle.statement.specs.declared.Section.{Section}
use Rattle.scan.specs.Records.{Table, table, with_header, with_record}
use Rattle.scan.specs.File.{read_from, scan_of}
use Rattle.scan.specs.Form.{rows_per_kind, Reads, Scans}
use Rattle.scan.specs.FormRight.{scans_is, scans_only}

-- the answer gives rows, and these, with h and r rows used before, find room in H and R
abbrev Holds : ℕ → ℕ → ℕ → ℕ → Told Table → Type 0
Holds H R h r (good t) = (h + length t.headers ≤ H) × (r + length t.records ≤ R)
Holds H R h r (bad q) = ⊥

-- One row less to come, and one more used: the room is the same.
module _ (H R h r : ℕ) where
  holds_header : (w : HeaderRow) (a : Told Table) → Holds H R h r (mapped (with_header w) a) → (h < H) × Holds H R (h + 1) r a
  holds_header w (good t) (k, l) = (omega arith, (omega arith, l))
  holds_header w (bad q) k = absurd k

  holds_record : (w : Row) (a : Told Table) → Holds H R h r (mapped (with_record w) a) → (r < R) × Holds H R h (r + 1) a
  holds_record w (good t) (k, l) = (omega arith, (k, omega arith))
  holds_record w (bad q) k = absurd k

-- a reading that gives rows gives the same in every room that holds them
reads_roomy : {s : List ℕ} {H R : ℕ} {sec : Section} {h r : ℕ} {xs : List ℕ} {a : Told Table} (H' R' : ℕ)
    → Reads s (rows_per_kind H R) sec (rows_per_kind h r) xs a → Holds H' R' h r a → Reads s (rows_per_kind H' R') sec (rows_per_kind h r) xs a
reads_roomy H' R' (Reads.over f) k = Reads.over f
reads_roomy H' R' (Reads.fault f) k = Reads.fault f
reads_roomy H' R' (Reads.on f d) k = Reads.on f (reads_roomy H' R' d k)
reads_roomy {h} {r} H' R' (Reads.row {a} header_kind w ys f p d) k =
    let (l, m) = holds_header H' R' h r w a k in Reads.row header_kind w ys f l (reads_roomy H' R' d m)
reads_roomy {h} {r} H' R' (Reads.row {a} data_kind w ys f p d) k =
    let (l, m) = holds_record H' R' h r w a k in Reads.row data_kind w ys f l (reads_roomy H' R' d m)
reads_roomy H' R' (Reads.full kind w ys t f p) k = absurd k

scans_roomy : {s : List ℕ} {H R : ℕ} {a : Told Table} (H' R' : ℕ) → Scans s (rows_per_kind H R) a → Holds H' R' 0 0 a → Scans s (rows_per_kind H' R') a
scans_roomy H' R' (Scans.long h) k = absurd k
scans_roomy H' R' (Scans.unmarked h n) k = absurd k
scans_roomy H' R' (Scans.read h m d) k = Scans.read h m (reads_roomy H' R' d k)

-- rooms larger than a scan's answer needs do not change the answer
pub scan_roomy : (s : List ℕ) (H R : ℕ) (t : Table) → scan_of s H R ≡ good t
    → (H' R' : ℕ) → length t.headers ≤ H' → length t.records ≤ R' → scan_of s H' R' ≡ good t
scan_roomy s H R t e H' R' h r = sym (scans_only (scans_roomy H' R' (rw e at (scans_is s H R)) (omega arith)))

-- the rows of an answer, if it gives any, find room in H and R, with h and r rows used before
abbrev Fits : ℕ → ℕ → ℕ → ℕ → Told Table → Type 0
Fits H R h r (good t) = Holds H R h r (good t)
Fits H R h r (bad q) = Unit {0}

-- One row more to come, and one less used: the room is the same.
module _ (H R h r : ℕ) where
  fits_header : (w : HeaderRow) (a : Told Table) → Fits H R (h + 1) r a → Fits H R h r (mapped (with_header w) a)
  fits_header w (good t) k = omega arith
  fits_header w (bad q) k = tt

  fits_record : (w : Row) (a : Told Table) → Fits H R h (r + 1) a → Fits H R h r (mapped (with_record w) a)
  fits_record w (good t) k = omega arith
  fits_record w (bad q) k = tt

-- no reading gives more rows than are lent
reads_fit : {s : List ℕ} {H R : ℕ} {sec : Section} {h r : ℕ} {xs : List ℕ} {a : Told Table}
    → h ≤ H → r ≤ R → Reads s (rows_per_kind H R) sec (rows_per_kind h r) xs a → Fits H R h r a
reads_fit l m (Reads.over f) = omega arith
reads_fit l m (Reads.fault f) = tt
reads_fit l m (Reads.on f d) = reads_fit l m d
reads_fit {H} {R} {h} {r} l m (Reads.row {a} header_kind w ys f p d) = fits_header H R h r w a (reads_fit (omega arith) m d)
reads_fit {H} {R} {h} {r} l m (Reads.row {a} data_kind w ys f p d) = fits_record H R h r w a (reads_fit l (omega arith) d)
reads_fit l m (Reads.full kind w ys t f p) = tt

scans_fit : {s : List ℕ} {H R : ℕ} {a : Told Table} → Scans s (rows_per_kind H R) a → Fits H R 0 0 a
scans_fit (Scans.long h) = tt
scans_fit (Scans.unmarked h n) = tt
scans_fit (Scans.read h m d) = reads_fit (omega arith) (omega arith) d

-- rooms smaller than needed give no answer: an answer's rows are at most those that are lent
pub scan_fit : (s : List ℕ) (H R : ℕ) (t : Table) → scan_of s H R ≡ good t → (length t.headers ≤ H) × (length t.records ≤ R)
scan_fit s H R t e = let k = scans_fit (rw e at (scans_is s H R)) in omega arith

-- a file with the one record `#4294967295=A();`, which has the largest id there is
abbrev large_id : List ℕ
large_id = bytes "ISO-10303-21;DATA;#4294967295=A();"

-- a file with one record needs one row and one id slot, however large its id
pub large_id_lem : scan_of large_id 0 1 ≡ good (table [] (row 4294967295 30 31 32 32 0 ∷ []))
unfolding scan_of read_from statement trivia record_end closing walk past number_from keyword trail word_of data_head record_of
large_id_lem = refl

-- a file with one record and no row lent is 8 at the record's start
pub large_id_full : scan_of large_id 0 0 ≡ bad (refusal 8 0 18)
unfolding scan_of read_from statement trivia record_end closing walk past number_from keyword trail word_of data_head record_of
large_id_full = refl
