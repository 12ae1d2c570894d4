-- Demand 3 of the functions themselves: what `scan::scan`, `store::open`, `lookup::get` and `units::resolve` promise, of a closed file and
-- of the rearranged one. Hypotheses are the equations of their contracts (`ensures` in src/lib.rt of each crate). Assumes nothing.
use Rattle.std.specs.Prelude.{ℕ, ◌≡◌, refl, List, [], ◌∷◌, ◌++◌, length, Option, option_map, Result, Ok, Err}
use Rattle.std.proofs.Common.{sym, ◌∙◌, ap, subst}
use Rattle.common.specs.Compare.{clash}
use Rattle.error.specs.Refusal.{good, told_result}
use Rattle.error.specs.declared.Fault.{Fault}
use Rattle.table.specs.Table.{table_rows, row_numbers}
use Rattle.statement.specs.Rows.{mapped, Row, told_row}
use Rattle.statement.specs.Closed.{Closed, content}
use Rattle.statement.specs.ClosedRight.{alone}
use Rattle.statement.specs.declared.RecordSpan.{RecordSpan}
use Rattle.statement.specs.declared.Section.TheVariants.{Outside}
use Rattle.scan.specs.Records.{Table}
use Rattle.scan.specs.File.{scan_of}
use Rattle.scan.specs.ScanMemory.{header_room, data_room, counts_of}
use Rattle.scan.specs.declared.Counts.{Counts}
use Rattle.index.specs.Search.{searched}
use Rattle.lookup.specs.Lookup.{row_found, row_for}
use Rattle.lookup.specs.Records.{last_of, last_is}
use Rattle.lookup.specs.Rules.{LastForm}
use Rattle.lookup.specs.declared.Tables.{Tables}
use Rattle.store.specs.Store.{told_opened_file, scan_into, OpensFile}
use Rattle.params.specs.Answer.{onward}
use Rattle.serve.specs.Serve.{record_in, told_served, units_of}
use Rattle.serve.specs.Laws as Serve
use Rattle.factors.specs.SeenRecords.{find_of}
use Rattle.units.specs.Units.{resolve_of}
use Rattle.units.specs.Answer.{told_units}
use Rattle.units.specs.Code.{seen_records_from}
use Rattle.units.specs.declared.Values.{Values}
use Rattle.order.specs.Order.{CutFile, texts, file_with, Cuts, Rearranged, content_found, SameUnits, SameAnswers}
use Rattle.order.specs.Shape.{AllSay}
use Rattle.order.specs.Accepted.{both_accepted}
use Rattle.order.specs.SameRecords.{says_content}
use Rattle.order.specs.Exchange.{Lone, rearranged_lone}
use Rattle.order.specs.Right.{order}

-- an accepted closed file s, cut by the reader, and its records' texts rearranged
pub record RearrangedFile (s : List ℕ) (H R : ℕ) : Type 0 where
  pub before : Table
  pub scanned : scan_of s H R ≡ good before
  pub closed : Closed s
  pub cut : CutFile
  pub cuts : Cuts s Outside s cut
  pub texts' : List (List ℕ)
  pub rearranged : Rearranged (texts cut) texts'

-- the new file: the old one with its records' texts rearranged
abbrev pub new_file : {s : List ℕ} {H R : ℕ} → RearrangedFile s H R → List ℕ
new_file m = file_with m.cut m.texts'

-- what stays the same of the new file, by demand 3
abbrev kept : {s : List ℕ} {H R : ℕ} (m : RearrangedFile s H R) → SameAnswers s m.before (new_file m) H R
kept {s} {H} {R} m = order s H R m.before m.scanned m.closed m.cut m.cuts m.texts' m.rearranged

-- `scan`: the answers for both files are the same, with the same rooms
pub scan_order : (s : List ℕ) (H R : ℕ) (m : RearrangedFile s H R) (a b : Result Counts Fault) → told_result a ≡ mapped counts_of (scan_of s H R)
    → told_result b ≡ mapped counts_of (scan_of (new_file m) H R) → told_result a ≡ told_result b
scan_order s H R m a b e f =
    let k = kept m in
    e ∙ ap (mapped counts_of) m.scanned ∙ ap good k.counted ∙ sym (ap (mapped counts_of) k.accepted) ∙ sym f

-- what the rows that the scan lays say: each data row of the new file says what its text says by itself (the rows' places are others)
abbrev pub RowsSay : List ℕ → List Row → List (List ℕ) → Type 0
RowsSay f [] [] = Unit {0}
RowsSay f [] (b ∷ bs) = ⊥
RowsSay f (w ∷ ws) [] = ⊥
RowsSay f (w ∷ ws) (b ∷ bs) = (alone b ≡ good (content f w)) × RowsSay f ws bs

-- rows of closed texts each say what their text says by itself
rows_say : (f : List ℕ) (ws : List Row) (bs : List (List ℕ)) → AllSay f ws bs → RowsSay f ws bs
rows_say f [] [] a = tt
rows_say f [] (b ∷ bs) a = a
rows_say f (w ∷ ws) [] a = a
rows_say f (w ∷ ws) (b ∷ bs) (k, a) = (says_content k, rows_say f ws bs a)

-- `scan`: the rows of both files say what their texts say, each in its order
pub scan_rows : (s : List ℕ) (H R : ℕ) (m : RearrangedFile s H R) (u : Table) → scan_of (new_file m) H R ≡ good u
    → RowsSay s m.before.records (texts m.cut) × RowsSay (new_file m) u.records m.texts'
scan_rows s H R m u e =
    let b = both_accepted s H R m.before m.scanned m.closed m.cut m.cuts m.texts' m.rearranged.whole in
    let q : b.after.result ≡ u = cc (b.after.scanned, e) in (
      rows_say s m.before.records (texts m.cut) b.rows,
      subst (λ (v : Table). RowsSay (new_file m) v.records m.texts') q (rows_say (new_file m) b.after.result.records m.texts' b.after.rows),
    )

-- a file that `open` opened in lent memory with room for H header rows and R data rows: the memory before and after, the answer's tables,
-- and that these are what the contract of `open` promises
pub record Lent (s : List ℕ) (H R : ℕ) : Type 0 where
  pub heads : List ℕ
  pub rows : List ℕ
  pub slots : List ℕ
  pub answer : Result Tables Fault
  pub heads' : List ℕ
  pub rows' : List ℕ
  pub slots' : List ℕ
  pub opens : OpensFile s heads rows slots answer heads' rows' slots'
  pub room : header_room heads ≡ H
  pub rooms : data_room rows (length slots) ≡ R

-- the scan that opening the file did gives the file's table
lent_scan : {s : List ℕ} {H R : ℕ} (l : Lent s H R) (t : Table) → scan_of s H R ≡ good t → scan_into s l.heads l.rows l.slots ≡ good t
lent_scan l t e = rw (l.room, l.rooms) e

-- `open`: the answers for both files are the same
pub open_order : (s : List ℕ) (H R : ℕ) (m : RearrangedFile s H R) (a : Lent s H R) (b : Lent (new_file m) H R) → told_opened_file a.answer ≡ told_opened_file b.answer
open_order s H R m a b =
    let k = kept m in
    a.opens.answer ∙ ap (mapped counts_of) (lent_scan a m.before m.scanned) ∙ ap good k.counted
    ∙ sym (ap (mapped counts_of) (lent_scan b k.after k.accepted)) ∙ sym b.opens.answer

-- an accepted file is opened
pub open_good : {s : List ℕ} {H R : ℕ} (a : Lent s H R) (t : Table) → scan_of s H R ≡ good t → (x : Tables) × (a.answer ≡ Ok x)
open_good {s} {H} {R} a t e = go a.answer (a.opens.answer ∙ ap (mapped counts_of) (lent_scan a t e))
  where
    go : (x : Result Tables Fault) → told_opened_file x ≡ good (counts_of t) → (y : Tables) × (x ≡ Ok y)
    go (Ok y) h = (y, refl)
    go (Err f) h = clash (cc)

-- the tables that opening an accepted file left: a are the answer's
module _ {s : List ℕ} {H R : ℕ} (l : Lent s H R) (a : Tables) (is : l.answer ≡ Ok a) (t : Table) (scanned : scan_of s H R ≡ good t) where
  -- what `open` promises of the tables that it left
  promised : OpensFile s l.heads l.rows l.slots (Ok a) l.heads' l.rows' l.slots'
  promised = rw is at l.opens

  -- the lookup over the tables that opening the file left is that of the file's records
  pub contract_lookups_are : (k : ℕ) → row_found l.rows' (searched l.rows' l.slots' a.ids k) ≡ last_of k t.records
  contract_lookups_are k = Serve.lookups_are s l.heads l.rows l.slots a promised t (lent_scan l t scanned) k

  -- `get`: "of two records with one id the later in the file is served, whatever stands around them": the last record of the id, or none
  pub get_last : (k : ℕ) (x : Option RecordSpan) → option_map told_row x ≡ row_found l.rows' (searched l.rows' l.slots' a.ids k) → LastForm k t.records (option_map told_row x)
  get_last k x e = subst (LastForm k t.records) (sym (e ∙ contract_lookups_are k)) (last_is k t.records)

  -- `resolve` answers the file's unit answer, over its records in file order and the lookup
  pub resolve_is : (x : Result Values Fault)
      → told_units x ≡ resolve_of s (find_of s (row_for l.rows' l.slots' a.ids)) (seen_records_from s (row_numbers l.rows') (table_rows l.rows' a.records) 0)
      → told_units x ≡ units_of s t
  resolve_is x e = e ∙ Serve.units_are s l.heads l.rows l.slots a promised ∙ ap (onward (units_of s)) (lent_scan l t scanned)

-- Both files, opened.
module _ (s : List ℕ) (H R : ℕ) (m : RearrangedFile s H R) (l : Lent s H R) (a : Tables) (is : l.answer ≡ Ok a) (n : Lent (new_file m) H R) (b : Tables) (is' : n.answer ≡ Ok b) where
  -- `get`: the records served for an id have the same keyword and argument bytes, or there is none in either
  pub get_order : (k : ℕ) (x y : Option RecordSpan) → option_map told_row x ≡ row_found l.rows' (searched l.rows' l.slots' a.ids k)
      → option_map told_row y ≡ row_found n.rows' (searched n.rows' n.slots' b.ids k) → content_found s (option_map told_row x) ≡ content_found (new_file m) (option_map told_row y)
  get_order k x y e f =
      let c = kept m in
      ap (content_found s) (e ∙ contract_lookups_are l a is m.before m.scanned k) ∙ c.found k
      ∙ sym (ap (content_found (new_file m)) (f ∙ contract_lookups_are n b is' c.after c.accepted k))

  -- `resolve`: the unit answers are the same, bit for bit, or refused with the same number
  pub resolve_order : (x y : Result Values Fault)
      → told_units x ≡ resolve_of s (find_of s (row_for l.rows' l.slots' a.ids)) (seen_records_from s (row_numbers l.rows') (table_rows l.rows' a.records) 0)
      → told_units y ≡ resolve_of (new_file m) (find_of (new_file m) (row_for n.rows' n.slots' b.ids)) (seen_records_from (new_file m) (row_numbers n.rows') (table_rows n.rows' b.records) 0)
      → SameUnits (told_units x) (told_units y)
  resolve_order x y e f =
      let c = kept m in
      rw (resolve_is l a is m.before m.scanned x e, resolve_is n b is' c.after c.accepted y f) c.units

-- two records whose ids no other record has, and that are no unit contexts, exchanged: all stays the same
pub lone_same : (s : List ℕ) (H R : ℕ) (t : Table) → scan_of s H R ≡ good t → Closed s → (c : CutFile) → Cuts s Outside s c
    → (xs : List (List ℕ)) (a : List ℕ) (ys : List (List ℕ)) (b : List ℕ) (zs : List (List ℕ)) → texts c ≡ xs ++ (a ∷ (ys ++ (b ∷ zs)))
    → Lone a (xs ++ (ys ++ (b ∷ zs))) → Lone b (xs ++ (a ∷ (ys ++ zs))) → SameAnswers s t (file_with c (xs ++ (b ∷ (ys ++ (a ∷ zs))))) H R
lone_same s H R t e k c d xs a ys b zs q h l = order s H R t e k c d (xs ++ (b ∷ (ys ++ (a ∷ zs)))) (rw q (rearranged_lone xs a ys b zs h l))

-- Both files, served in one call with lent memory of the same room: hypotheses are the contracts of `serve::record_of` and
-- `serve::units_of`, which speak of the file alone.
module _ (s : List ℕ) (H R : ℕ) (m : RearrangedFile s H R) where
  -- `record_of`: the records of an id have the same keyword and argument bytes, or there is none in either
  pub record_order : (k : ℕ) (x y : Result (Option RecordSpan) Fault) → told_served x ≡ onward (record_in k) (scan_of s H R) → told_served y ≡ onward (record_in k) (scan_of (new_file m) H R)
      → (v w : Option Row) × (told_served x ≡ good v) × (told_served y ≡ good w) × (content_found s v ≡ content_found (new_file m) w)
  record_order k x y e f =
      let c = kept m in (
        last_of k m.before.records,
        last_of k c.after.records,
        e ∙ ap (onward (record_in k)) m.scanned,
        f ∙ ap (onward (record_in k)) c.accepted,
        c.found k,
      )

  -- `units_of`: the unit answers are the same, bit for bit, or refused with the same number
  pub units_order : (x y : Result Values Fault) → told_units x ≡ onward (units_of s) (scan_of s H R) → told_units y ≡ onward (units_of (new_file m)) (scan_of (new_file m) H R)
      → SameUnits (told_units x) (told_units y)
  units_order x y e f =
      let c = kept m in
      rw (e ∙ ap (onward (units_of s)) m.scanned, f ∙ ap (onward (units_of (new_file m))) c.accepted) c.units
