-- The numbers of the refusals: which can be answered, and when 8 is. Assumes nothing.
use Rattle.std.specs.Prelude.{ℕ, ◌+◌, ◌≤◌, ◌<◌, ◌≡◌, List}
use Rattle.std.proofs.Common.{arith}
use Rattle.error.specs.Refusal.{Refusal, Told, good, bad}
use Rattle.statement.specs.Rows.{RowKind, header_kind, data_kind, mapped}
use Rattle.statement.specs.FormRight.{Between, statement_number}
use Rattle.statement.specs.declared.Section.{Section}
use Rattle.statement.specs.declared.Section.TheVariants.{Outside}
use Rattle.scan.specs.Records.{Table, with_row}
use Rattle.scan.specs.Form.{RowsPerKind, rows_per_kind, count_of_kind, one_more_of, WithinLent, Reads, Scans, Reached, Full}

-- where the answer is a refusal, P holds of it
abbrev pub IfBad : {A : Type 0} → (Refusal → Type 0) → Told A → Type 0
IfBad P (good a) = Unit {0}
IfBad P (bad q) = P q

bad_mapped : {A B : Type 0} (P : Refusal → Type 0) (f : A → B) (a : Told A) → IfBad P a → IfBad P (mapped f a)
bad_mapped P f (good a) h = tt
bad_mapped P f (bad q) h = h

-- a refusal's number is one of 1 to 8, and 8 only where the lent rows are used up
abbrev pub Refusing : List ℕ → RowsPerKind → Refusal → Type 0
Refusing s lent q = Between 1 8 q × (q.number ≡ 8 → Full s lent q)

-- one row more of a kind is at most one more of any kind
pub of_more : (j k : RowKind) (n : RowsPerKind) → count_of_kind j (one_more_of k n) ≤ count_of_kind j n + 1
of_more header_kind header_kind n = omega arith
of_more header_kind data_kind n = omega arith
of_more data_kind header_kind n = omega arith
of_more data_kind data_kind n = omega arith

-- one row more of a kind that is not used up leaves the rows within those lent
within_more : (n lent : RowsPerKind) (k : RowKind) → WithinLent n lent → count_of_kind k n < count_of_kind k lent → WithinLent (one_more_of k n) lent
within_more n lent header_kind h l header_kind = omega arith
within_more n lent header_kind h l data_kind = h data_kind
within_more n lent data_kind h l header_kind = h header_kind
within_more n lent data_kind h l data_kind = omega arith

-- where one row more of a kind is within those lent, the kind is not used up before it
within_less : (n lent : RowsPerKind) (k : RowKind) → WithinLent (one_more_of k n) lent → WithinLent n lent × (count_of_kind k n < count_of_kind k lent)
within_less n lent header_kind h = let i = h header_kind in let j = h data_kind in (both i j, omega arith)
  where
    both : n.headers + 1 ≤ lent.headers → n.records ≤ lent.records → WithinLent n lent
    both i j header_kind = omega arith
    both i j data_kind = j
within_less n lent data_kind h = let i = h header_kind in let j = h data_kind in (both i j, omega arith)
  where
    both : n.headers ≤ lent.headers → n.records + 1 ≤ lent.records → WithinLent n lent
    both i j header_kind = i
    both i j data_kind = omega arith

-- with no row used, the rows are within those lent
within_none : (lent : RowsPerKind) → WithinLent (rows_per_kind 0 0) lent
within_none lent header_kind = omega arith
within_none lent data_kind = omega arith

-- the refusal of a reading that has come to some rest is from 1 to 8, and 8 only where the lent rows are used up
reads_bad : {s : List ℕ} {lent : RowsPerKind} {sec : Section} {n : RowsPerKind} {xs : List ℕ} {a : Told Table}
    → Reached s sec xs n → WithinLent n lent → Reads s lent sec n xs a → IfBad (Refusing s lent) a
reads_bad u h (Reads.over f) = tt
reads_bad u h (Reads.fault f) = let k = statement_number f in (omega arith, λ e. absurd (omega arith))
reads_bad u h (Reads.on f d) = reads_bad (Reached.on u f) h d
reads_bad {lent} {n} u h (Reads.row {a} k w ys f p d) = bad_mapped _ (with_row k w) a (reads_bad (Reached.row k w ys u f) (within_more n lent k h p) d)
reads_bad {lent} {n} u h (Reads.full k w ys t f p) = let l = h k in (omega arith, λ z. Full.full k w ys t u h (omega arith) f)

-- the refusal of a whole scan is from 1 to 8, and 8 only where the lent rows are used up
pub scans_bad : {s : List ℕ} {lent : RowsPerKind} {a : Told Table} → Scans s lent a → IfBad (Refusing s lent) a
scans_bad (Scans.long h) = (omega arith, λ e. absurd (omega arith))
scans_bad (Scans.unmarked h n) = (omega arith, λ e. absurd (omega arith))
scans_bad {lent} (Scans.read h m d) = reads_bad Reached.start (within_none lent) d

-- a refusal that the reading comes to, with rows left for what was read before, is that of the whole file
reached_bad : {s : List ℕ} {lent : RowsPerKind} {sec : Section} {n : RowsPerKind} {xs : List ℕ} {q : Refusal}
    → Reached s sec xs n → WithinLent n lent → Reads s lent sec n xs (bad q) → Reads s lent Outside (rows_per_kind 0 0) s (bad q)
reached_bad Reached.start h d = d
reached_bad (Reached.on u f) h d = reached_bad u h (Reads.on f d)
reached_bad {lent} (Reached.row {n} k w ys u f) h d = let (i, p) = within_less n lent k h in reached_bad u i (Reads.row k w ys f p d)

-- where the lent rows are used up, the whole file's reading gives 8
pub full_reads : {s : List ℕ} {lent : RowsPerKind} {q : Refusal} → Full s lent q → Reads s lent Outside (rows_per_kind 0 0) s (bad q)
full_reads (Full.full k w ys t u h e f) = reached_bad u h (Reads.full k w ys t f (omega arith))
