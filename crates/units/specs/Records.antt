-- That the records which the units go through are the file's: of rows in lent memory as the scan laid them. Assumes nothing.
use Rattle.std.specs.Prelude.{ℕ, suc, ◌+◌, ◌<◌, ◌≡◌, refl, List, [], ◌∷◌, map, length}
use Rattle.std.proofs.Common.{◌∙◌, ap, ap₂, arith}
use Rattle.std.proofs.Math.Option.{some}
use Rattle.std.proofs.Math.ListN.{get_elem?}
use Rattle.error.specs.Refusal.{Told, good}
use Rattle.statement.specs.Rows.{Row}
use Rattle.table.specs.Table.{table_rows, row_numbers}
use Rattle.table.specs.Laid.{rows_laid_in, row_is}
use Rattle.scan.specs.Records.{Table}
use Rattle.scan.specs.ScanMemory.{rows_after}
use Rattle.factors.specs.SeenRecords.{SeenRecord, seen_record_of}
use Rattle.units.specs.Code.{seen_records_from, seen_records_in}

-- where the row function tells these rows, from row k on, the records that are gone through are theirs
things_by : (s : List ℕ) (row : ℕ → Row) (rs : List Row) (k : ℕ) → ((r : ℕ) → r < length rs → get_elem? rs r ≡ some (row (k + r))) → seen_records_from s row (length rs) k ≡ map (seen_record_of s) rs
unfolding seen_records_from
things_by s row [] k h = refl
things_by s row (w ∷ rs) k h =
    let z : k + 0 ≡ k = omega arith in
    let q : some w ≡ some (row k) = h 0 (omega arith) ∙ ap (λ (j : ℕ). some (row j)) z in
    let e : row k ≡ w = cc in
    let g : (r : ℕ) → r < length rs → get_elem? rs r ≡ some (row (suc k + r)) = λ r l. h (suc r) (omega arith) ∙ ap (λ (j : ℕ). some (row j)) (omega arith) in
    ap₂ (λ (x : Row) (ts : List (Told SeenRecord)). seen_record_of s x ∷ ts) e (things_by s row rs (suc k) g)

-- the records that the units go through are those of the file, in file order
pub seen_records_are : (s : List ℕ) (t : Table) (old : List ℕ)
    → seen_records_in s (rows_after (good t) old) (length t.records) ≡ map (seen_record_of s) t.records
seen_records_are s t old =
    let e : table_rows (rows_after (good t) old) (length t.records) ≡ length t.records = omega (arith, rows_laid_in t.records old) in
    ap (λ (n : ℕ). seen_records_from s (row_numbers (rows_after (good t) old)) n 0) e
    ∙ things_by s (row_numbers (rows_after (good t) old)) t.records 0 (λ r l. row_is t.records old r l ∙ ap (λ (j : ℕ). some (row_numbers (rows_after (good t) old) j)) (omega arith))
