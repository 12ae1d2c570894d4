-- The record that is served: over the rows that the scan laid and the index built of them, lookup answers with the records of the
-- file. "Lookup of an id answers like a map written to in file order: the last record of that id, or none."
-- Assumes nothing.
use Rattle.std.specs.Prelude.{ℕ, ◌≤◌, ◌<◌, ◌≡◌, List, length, Ok}
use Rattle.std.proofs.Common.{sym, ◌∙◌, ap, subst, arith}
use Rattle.std.proofs.Math.Option.{some}
use Rattle.std.proofs.Math.ListN.{get_elem?}
use Rattle.error.specs.Refusal.{Told, good}
use Rattle.table.specs.Table.{rows_fit, row_numbers, id_of}
use Rattle.table.specs.Laid.{rows_laid_in, row_is}
use Rattle.scan.specs.Records.{Table}
use Rattle.scan.specs.File.{scan_of}
use Rattle.scan.specs.ScanMemory.{rows_after, header_room, data_room}
use Rattle.scan.specs.Rooms.{scan_fit}
use Rattle.index.specs.KeyOrder.{table_room}
use Rattle.index.specs.Lookup.{lookup_of, lookup_is}
use Rattle.index.specs.Index.{Built}
use Rattle.index.specs.Search.{searched}
use Rattle.index.specs.declared.Ids.{Ids}
use Rattle.lookup.specs.Lookup.{row_found}
use Rattle.lookup.specs.Records.{last_of, last_is, found_last}
use Rattle.lookup.specs.Rules.{LastForm}
use Rattle.store.specs.Few.{scan_few}
use Rattle.lookup.specs.declared.Tables.{Tables}
use Rattle.store.specs.Laws.{counted_table, open_right}
use Rattle.store.specs.Store.{OpensFile, scan_into}

module _ (t : Table) (old : List ℕ) where
  -- the lent data rows after an answer
  abbrev pub rows_after_opening : List ℕ
  rows_after_opening = rows_after (good t) old

  -- "A row holds id, keyword start and end [..]": row r is record r of the file
  pub served_row : (r : ℕ) → r < length t.records → get_elem? t.records r ≡ some (row_numbers rows_after_opening r)
  served_row r h = row_is t.records old r h

  module _ (s : List ℕ) (H R : ℕ) (scanned : scan_of s H R ≡ good t) (before slots : List ℕ) (b : Ids)
      (room : R ≤ data_room old (length before)) (built : Built (id_of rows_after_opening) (length t.records) before slots b) where
    -- the index speaks of all the records
    served_room : table_room (rows_fit (length rows_after_opening)) (length before) (length t.records) ≡ length t.records
    served_room =
        let f = (scan_fit s H R t scanned).1 in
        let g = scan_few s H R t scanned in
        omega (arith, rows_laid_in t.records old)

    -- "the last record of that id, or none", of the file's records
    pub served_is : (k : ℕ) → row_found rows_after_opening (searched rows_after_opening slots b k) ≡ last_of k t.records
    served_is k =
        ap (row_found rows_after_opening) (open_right rows_after_opening before slots (length t.records) k b served_room built)
        ∙ found_last t.records old k (lookup_of (id_of rows_after_opening) (length t.records) k) (lookup_is (id_of rows_after_opening) (length t.records) k)

    -- what lookup serves is, by the rules, the last record of that id in the file, or the file has none
    pub served_form : (k : ℕ) → LastForm k t.records (row_found rows_after_opening (searched rows_after_opening slots b k))
    served_form k = subst (LastForm k t.records) (sym (served_is k)) (last_is k t.records)

-- over all that opening a file leaves, the file has records, and what lookup serves is the last of that id, or none
pub opened_served : (s heads rows slots : List ℕ) (a : Tables) (heads' rows' slots' : List ℕ) → OpensFile s heads rows slots (Ok a) heads' rows' slots'
    → (t : Table) × (scan_into s heads rows slots ≡ good t) × ((k : ℕ) → row_found rows' (searched rows' slots' a.ids k) ≡ last_of k t.records)
opened_served s heads rows slots a heads' rows' slots' o =
    let (t, e, n) = counted_table (scan_into s heads rows slots) a.headers a.records a.max o.answer in
    let q : rows' ≡ rows_after_opening t rows = o.records ∙ ap (λ (x : Told Table). rows_after x rows) e in
    let b : Built (id_of (rows_after_opening t rows)) (length t.records) slots slots' a.ids = subst (λ (z : ℕ). Built (id_of (rows_after_opening t rows)) z slots slots' a.ids) n (subst (λ (x : List ℕ). Built (id_of x) a.records slots slots' a.ids) q o.index) in
    (t, e, λ k. rw q (served_is t rows s (header_room heads) (data_room rows (length slots)) e slots slots' a.ids (omega arith) b k))
