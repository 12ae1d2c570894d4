-- The numbers of a row are in order: the keyword's start and end, the arguments' start and end, the file's end; an id is at most
-- 4294967295, and `complex` is 0 or 1. Assumes nothing.
use Rattle.std.specs.Prelude.{ℕ, ◌+◌, ◌≤◌, ◌<◌, ◌≡◌, List, ◌∷◌, length}
use Rattle.std.proofs.Common.{ap, arith, length-append}
use Rattle.error.specs.Refusal.{good}
use Rattle.lex.specs.Byte.{place}
use Rattle.lex.specs.Grammar.{Closes}
use Rattle.record.specs.Ordered.{complex_id, simple_ordered, header_ordered}
use Rattle.statement.specs.Rows.{Row, HeaderRow}
use Rattle.scan.specs.Records.{Table}
use Rattle.scan.specs.File.{scan_of}
use Rattle.statement.specs.Form.{After, ArguedTo, Argued, DataForm, HeaderRecordForm}
use Rattle.lex.specs.Rests.{Rest, rest_of, rest_within}
use Rattle.scan.specs.Rests.{EachInTurn, balanced_rest, after_rest, scan_tells}

-- the places of a header row of a file of n bytes are in order
pub record HeaderOrdered (n : ℕ) (w : HeaderRow) : Type 0 where
  -- the keyword does not end before it starts
  pub keyword : w.key_start ≤ w.key_end
  -- the keyword ends before the arguments start, since a `(` stands between
  pub between : w.key_end < w.arg_start
  -- the arguments do not end before they start
  pub arguments : w.arg_start ≤ w.arg_end
  -- the arguments end in the file, at a `)`
  pub within : w.arg_end < n

-- the numbers of a data row of a file of n bytes are in order
pub record RowOrdered (n : ℕ) (w : Row) : Type 0 where
  -- an id is not "above 4294967295"
  pub id : w.id ≤ 4294967295
  -- the keyword does not end before it starts
  pub keyword : w.key_start ≤ w.key_end
  -- the keyword ends before the arguments start, since a `(` stands between
  pub between : w.key_end < w.arg_start
  -- the arguments do not end before they start
  pub arguments : w.arg_start ≤ w.arg_end
  -- the arguments end in the file, at a `)`
  pub within : w.arg_end < n
  -- "complex 0 or 1"
  pub complex : w.complex ≤ 1
  -- "keyword start and end (0, 0 if complex)"
  pub unnamed : w.complex ≡ 1 → (w.key_start ≡ 0) × (w.key_end ≡ 0)

-- what is left after n bytes is n bytes shorter
after_length : {n : ℕ} {ys zs : List ℕ} → After n ys zs → length ys ≡ n + length zs
after_length (b, e, l) = omega (arith, simp length-append at (ap length e))

-- the `)` of a record's arguments is not before their start, and it is in the file
argued_ordered : {s t : List ℕ} {e : ℕ} → Rest s (40 ∷ t) → Argued s t (good e) → (place s t ≤ e) × (e < length s)
argued_ordered {t} u (ArguedTo.closed {r} e h) = let c : Closes t r = rw e h in omega (arith, rest_within u, rest_within (balanced_rest c))

-- a header record's row is in order
pub header_row_ordered : {s ys body : List ℕ} {w : HeaderRow} → Rest s ys → HeaderRecordForm s ys body (good w) → HeaderOrdered (length s) w
header_row_ordered u (HeaderRecordForm.named h a z o g) =
    let k = argued_ordered (rest_of u (after_rest o)) g in
    omega (arith, header_ordered h, rest_within u, after_length a, after_length z, after_length o)

-- a data record's row is in order
pub data_row_ordered : {s ys body : List ℕ} {w : Row} → Rest s ys → DataForm s ys body (good w) → RowOrdered (length s) w
data_row_ordered u (DataForm.complex h o g) =
    let k = argued_ordered (rest_of u (after_rest o)) g in omega (arith, complex_id h, rest_within u, after_length o)
data_row_ordered u (DataForm.simple h a z o g) =
    let k = argued_ordered (rest_of u (after_rest o)) g in
    omega (arith, simple_ordered h, rest_within u, after_length a, after_length z, after_length o)

-- all rows of a scan's answer are in order
pub scan_ordered : (s : List ℕ) (H R : ℕ) (t : Table) → scan_of s H R ≡ good t
    → EachInTurn (HeaderOrdered (length s)) t.headers × EachInTurn (RowOrdered (length s)) t.records
scan_ordered s H R t e = scan_tells s (HeaderOrdered (length s)) (RowOrdered (length s)) (λ q. Unit {0})
    (λ ys body w u g. header_row_ordered u g) (λ ys body w u g. data_row_ordered u g) (λ sec xs q u f. tt) (λ xs ys body t u d. tt)
    tt tt H R (good t) e
