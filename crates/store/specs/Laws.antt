-- Opening a file: all its records are indexed, and a lookup answers like the map.
-- Assumes nothing.
use Rattle.std.specs.Prelude.{ℕ, ◌≡◌, refl, List, length}
use Rattle.std.proofs.Common.{sym, ◌∙◌, ap, subst, arith}
use Rattle.error.specs.Refusal.{Told, good, bad}
use Rattle.table.specs.Table.{rows_fit, id_of}
use Rattle.statement.specs.Rows.{mapped}
use Rattle.scan.specs.Records.{Table}
use Rattle.scan.specs.File.{scan_of}
use Rattle.scan.specs.ScanMemory.{counts, counts_of, data_room}
use Rattle.scan.specs.declared.Counts.{Counts}
use Rattle.scan.specs.Rooms.{scan_fit}
use Rattle.index.specs.KeyOrder.{table_room}
use Rattle.index.specs.Lookup.{lookup_of}
use Rattle.index.specs.Index.{Built}
use Rattle.index.specs.Search.{searched}
use Rattle.index.specs.SearchRight.{found_right}
use Rattle.index.specs.declared.Ids.{Ids}
use Rattle.store.specs.Few.{scan_few}

-- how many records an answer counts
records_in : Told Counts → ℕ
records_in (good c) = c.records
records_in (bad q) = 0

-- a scan whose answer has counts gives a table with so many records
pub counted_table : (a : Told Table) (h r m : ℕ) → good (counts h r m) ≡ mapped counts_of a → (t : Table) × (a ≡ good t) × (r ≡ length t.records)
unfolding records_in
counted_table (good t) h r m e = (t, refl, ap records_in e)
counted_table (bad q) h r m e = let z : ◌≡◌ {A = ℕ} 0 1 = cc in absurd (omega arith)

-- the index speaks of all the records of a scan
pub all_indexed : (s rows : List ℕ) (H slots h r m : ℕ) → good (counts h r m) ≡ mapped counts_of (scan_of s H (data_room rows slots)) → table_room (rows_fit (length rows)) slots r ≡ r
all_indexed s rows H slots h r m e =
    let (t, q, c) = counted_table (scan_of s H (data_room rows slots)) h r m e in
    let f = (scan_fit s H (data_room rows slots) t q).1 in
    let g = scan_few s H (data_room rows slots) t q in
    omega arith

-- "Lookup of an id answers like a map written to in file order": over what opening a file left
pub open_right : (rows old slots : List ℕ) (n k : ℕ) (b : Ids) → table_room (rows_fit (length rows)) (length old) n ≡ n → Built (id_of rows) n old slots b → searched rows slots b k ≡ lookup_of (id_of rows) n k
open_right rows old slots n k b e h =
    found_right rows old slots n k b (subst (λ (z : ℕ). Built (id_of rows) z old slots b) (sym e) h)
    ∙ ap (λ (z : ℕ). lookup_of (id_of rows) z k) e
