-- Larger rooms change no refusal but 8, and the lent memory keeps its length whatever is answered. Assumes nothing.
use Rattle.std.specs.Prelude.{ℕ, ◌≤◌, ◌≡◌, refl, List, length}
use Rattle.std.proofs.Common.{sym, arith}
use Rattle.error.specs.Refusal.{Refusal, Told, good, bad}
use Rattle.statement.specs.Rows.{header_kind, data_kind, mapped}
use Rattle.statement.specs.declared.Section.{Section}
use Rattle.scan.specs.Records.{Table, with_header, with_record}
use Rattle.scan.specs.File.{scan_of}
use Rattle.table.specs.Table.{rows_fit, headers_fit}
use Rattle.table.specs.Laid.{rows_laid_length, headers_laid_length}
use Rattle.scan.specs.ScanMemory.{header_room, data_room, headers_after, rows_after}
use Rattle.scan.specs.Form.{rows_per_kind, Reads, Scans}
use Rattle.scan.specs.FormRight.{scans_is, scans_only}
use Rattle.scan.specs.FormRight.Numbers.{IfBad}
use Rattle.scan.specs.Rooms.{scan_fit}

-- an answer that is not the refusal 8
abbrev Roomy : Told Table → Type 0
Roomy a = IfBad (λ q. q.number ≡ 8 → ⊥) a

-- an answer that is not the refusal 8 with a row in front is not that without it
roomy_tail : (f : Table → Table) (a : Told Table) → Roomy (mapped f a) → Roomy a
roomy_tail f (good t) h = tt
roomy_tail f (bad q) h = h

module _ (s : List ℕ) {H R : ℕ} (H' R' : ℕ) (k : H ≤ H') (l : R ≤ R') where
  -- what the rules answer from some rest on, other than 8, they answer in all rooms at least as large
  reads_larger : {sec : Section} {h r : ℕ} {xs : List ℕ} {a : Told Table} → Reads s (rows_per_kind H R) sec (rows_per_kind h r) xs a → Roomy a → Reads s (rows_per_kind H' R') sec (rows_per_kind h r) xs a
  reads_larger (Reads.over f) n = Reads.over f
  reads_larger (Reads.fault f) n = Reads.fault f
  reads_larger (Reads.on f d) n = Reads.on f (reads_larger d n)
  reads_larger {h} {r} (Reads.row {a} header_kind w ys f p d) n = Reads.row {n = rows_per_kind h r} header_kind w ys f (omega arith) (reads_larger d (roomy_tail (with_header w) a n))
  reads_larger {h} {r} (Reads.row {a} data_kind w ys f p d) n = Reads.row {n = rows_per_kind h r} data_kind w ys f (omega arith) (reads_larger d (roomy_tail (with_record w) a n))
  reads_larger (Reads.full kind w ys t f p) n = absurd (n refl)

  -- what the rules answer for a whole file, other than 8, they answer in all rooms at least as large
  scans_larger : {a : Told Table} → Scans s (rows_per_kind H R) a → Roomy a → Scans s (rows_per_kind H' R') a
  scans_larger (Scans.long h) n = Scans.long h
  scans_larger (Scans.unmarked h m) n = Scans.unmarked h m
  scans_larger (Scans.read h m d) n = Scans.read h m (reads_larger d n)

-- a refusal other than 8 is the same in all rooms at least as large
pub refusal_roomy : (s : List ℕ) (H R : ℕ) (q : Refusal) → scan_of s H R ≡ bad q → (q.number ≡ 8 → ⊥)
    → (H' R' : ℕ) → H ≤ H' → R ≤ R' → scan_of s H' R' ≡ bad q
refusal_roomy s H R q e n H' R' h r = sym (scans_only (scans_larger s H' R' h r (rw e at (scans_is s H R)) n))

-- the lent header rows keep their length in a scan
pub headers_length : (s : List ℕ) (H R : ℕ) (old : List ℕ) → H ≤ headers_fit (length old) → length (headers_after (scan_of s H R) old) ≡ length old
headers_length s H R old h = go (scan_of s H R) refl
  where
    go : (x : Told Table) → scan_of s H R ≡ x → length (headers_after x old) ≡ length old
    go (good t) e = headers_laid_length t.headers old (omega (arith, scan_fit s H R t e))
    go (bad q) e = refl

-- the lent data rows keep their length in a scan
pub rows_length : (s : List ℕ) (H R : ℕ) (old : List ℕ) → R ≤ rows_fit (length old) → length (rows_after (scan_of s H R) old) ≡ length old
rows_length s H R old h = go (scan_of s H R) refl
  where
    go : (x : Told Table) → scan_of s H R ≡ x → length (rows_after x old) ≡ length old
    go (good t) e = rows_laid_length t.records old (omega (arith, scan_fit s H R t e))
    go (bad q) e = refl

-- with as many rows lent as the memory and the slots for ids hold, header rows and data rows keep their length in a scan
pub lent_length : (s headers rows : List ℕ) (slots : ℕ)
    → let x = scan_of s (header_room headers) (data_room rows slots) in
    (length (headers_after x headers) ≡ length headers) × (length (rows_after x rows) ≡ length rows)
lent_length s headers rows slots = (headers_length s _ _ headers (omega arith), rows_length s _ _ rows (omega arith))
