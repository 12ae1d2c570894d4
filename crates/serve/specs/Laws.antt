-- Laws for the code: each way out of a function. Assumes nothing.
use Rattle.std.specs.Prelude.{ℕ, ◌≡◌, refl, List, map, length, Option, Result, Ok, Err}
use Rattle.std.proofs.Common.{◌∙◌}
use Rattle.std.proofs.Math.Path.{ap, fun_ext}
use Rattle.common.specs.Compare.{clash}
use Rattle.error.specs.Refusal.{Told, good, bad, told}
use Rattle.error.specs.declared.Fault.{Fault}
use Rattle.table.specs.Table.{table_rows, row_numbers}
use Rattle.statement.specs.Rows.{mapped, Row}
use Rattle.params.specs.Answer.{onward}
use Rattle.scan.specs.Records.{Table}
use Rattle.scan.specs.ScanMemory.{headers_after, rows_after, counts_of}
use Rattle.index.specs.Search.{searched}
use Rattle.lookup.specs.Lookup.{row_found, row_for}
use Rattle.lookup.specs.Records.{last_of}
use Rattle.lookup.specs.declared.Tables.{Tables}
use Rattle.store.specs.Store.{told_opened_file, Indexed, scan_into, OpensFile}
use Rattle.store.specs.Served.{opened_served}
use Rattle.store.specs.Laws.{counted_table}
use Rattle.factors.specs.SeenRecords.{SeenRecord, seen_record_of, seen_record_found, find_of}
use Rattle.units.specs.Answer.{Units}
use Rattle.units.specs.Units.{resolve_of}
use Rattle.units.specs.Code.{seen_records_from}
use Rattle.units.specs.Records.{seen_records_are}
use Rattle.serve.specs.Serve.{record_in, units_of, OpeningLeaves}

module _ (s heads rows slots : List ℕ) where
  module _ (f : Fault) {heads' rows' slots' : List ℕ} (opens : OpensFile s heads rows slots (Err f) heads' rows' slots') where
    -- a file that is not opened is refused by the scan
    pub refused_scan : scan_into s heads rows slots ≡ bad (told f)
    refused_scan = go (scan_into s heads rows slots) opens.answer
      where
        go : (x : Told Table) → bad (told f) ≡ mapped counts_of x → x ≡ bad (told f)
        go (good t) e = clash (cc)
        go (bad q) e = cc

    -- whatever is asked of a file that is not opened is refused as the scan refuses it
    pub refused_all : {A : Type 0} (g : Table → Told A) → bad (told f) ≡ onward g (scan_into s heads rows slots)
    refused_all g = rw refused_scan refl

  -- the tables that opening a file left
  module _ (a : Tables) {heads' rows' slots' : List ℕ} (opens : OpensFile s heads rows slots (Ok a) heads' rows' slots') where
    -- the lookup over the tables that opening a file left is that of the file's records
    pub lookups_are : (t : Table) → scan_into s heads rows slots ≡ good t → (k : ℕ) → row_found rows' (searched rows' slots' a.ids k) ≡ last_of k t.records
    lookups_are t g k =
        let (u, e, h) = opened_served s heads rows slots a heads' rows' slots' opens in
        let q : u ≡ t = cc in
        h k ∙ ap (λ (v : Table). last_of k v.records) q

    -- `get` over the tables that opening a file left serves the file's record
    pub record_is : (k : ℕ) → good (row_found rows' (searched rows' slots' a.ids k)) ≡ onward (record_in k) (scan_into s heads rows slots)
    record_is k = let (t, e, h) = opened_served s heads rows slots a heads' rows' slots' opens in rw e (ap good (h k))

    -- the records that `resolve` goes through in these tables are the file's
    things_of : (t : Table) → scan_into s heads rows slots ≡ good t → seen_records_from s (row_numbers rows') (table_rows rows' a.records) 0 ≡ map (seen_record_of s) t.records
    things_of t g =
        let (u, f, n) = counted_table (scan_into s heads rows slots) a.headers a.records a.max opens.answer in
        let q : u ≡ t = cc in
        let i : a.records ≡ length t.records = n ∙ ap (λ (v : Table). length v.records) q in
        let r : rows' ≡ rows_after (good t) rows = opens.records ∙ ap (λ (x : Told Table). rows_after x rows) g in
        rw (i, r) (seen_records_are s t rows)

    -- the lookup that `resolve` asks over these tables is that of the file's records
    finds_of : (t : Table) → scan_into s heads rows slots ≡ good t → find_of s (row_for rows' slots' a.ids) ≡ (λ k. seen_record_found s (last_of k t.records))
    unfolding find_of
    finds_of t g = fun_ext (λ k. ap (seen_record_found s) (lookups_are t g k))

    -- `resolve` over the tables that opening a file left answers the file's unit answer
    pub units_are : resolve_of s (find_of s (row_for rows' slots' a.ids)) (seen_records_from s (row_numbers rows') (table_rows rows' a.records) 0) ≡ onward (units_of s) (scan_into s heads rows slots)
    units_are =
        let (t, g, h) = opened_served s heads rows slots a heads' rows' slots' opens in
        rw g
        (ap (resolve_of s (find_of s (row_for rows' slots' a.ids))) (things_of t g)
        ∙ ap (λ (y : ℕ → Told (Option SeenRecord)). resolve_of s y (map (seen_record_of s) t.records)) (finds_of t g))

-- what `open` promises, put together from what it promises of its answer and of the lent memory
pub promised : (s heads rows slots : List ℕ) {a : Result Tables Fault} {heads' rows' slots' : List ℕ} → told_opened_file a ≡ mapped counts_of (scan_into s heads rows slots)
    → heads' ≡ headers_after (scan_into s heads rows slots) heads → rows' ≡ rows_after (scan_into s heads rows slots) rows → Indexed a rows' slots slots'
    → OpensFile s heads rows slots a heads' rows' slots'
promised s heads rows slots h k l i = record { answer = h; headers = k; records = l; index = i }

module _ {s heads rows slots heads' rows' slots' : List ℕ} where
  -- for a file that is refused, whatever is asked is the scan's refusal, and the memory is as opening leaves it
  pub refused_out : {A : Type 0} (g : Table → Told A) (f : Fault) → OpensFile s heads rows slots (Err f) heads' rows' slots'
      → (bad (told f) ≡ onward g (scan_into s heads rows slots)) × OpeningLeaves s heads rows slots heads' rows' slots'
  refused_out g f o = (refused_all s heads rows slots f o g, (Err f, o))

  module _ (a : Tables) (o : OpensFile s heads rows slots (Ok a) heads' rows' slots') where
    -- for a file that is opened, what `resolve` answers is its unit answer, and the memory is as opening leaves it
    pub units_out : (x : Told Units) → x ≡ resolve_of s (find_of s (row_for rows' slots' a.ids)) (seen_records_from s (row_numbers rows') (table_rows rows' a.records) 0)
        → (x ≡ onward (units_of s) (scan_into s heads rows slots)) × OpeningLeaves s heads rows slots heads' rows' slots'
    units_out x e = (e ∙ units_are s heads rows slots a o, (Ok a, o))

    -- for a file that is opened, what `get` answers is its record of the id, and the memory is as opening leaves it
    pub record_out : (k : ℕ) (x : Option Row) → x ≡ row_found rows' (searched rows' slots' a.ids k)
        → (good x ≡ onward (record_in k) (scan_into s heads rows slots)) × OpeningLeaves s heads rows slots heads' rows' slots'
    record_out k x e = (ap good e ∙ record_is s heads rows slots a o k, (Ok a, o))
