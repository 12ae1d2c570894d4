-- "that two allowed answers coincide is proved": what `open` promises is one answer, one list of header rows, one of data rows and
-- one of slots. Assumes nothing.
use Rattle.std.specs.Prelude.{ℕ, ◌≡◌, List, Result, Ok, Err}
use Rattle.std.proofs.Common.{sym, ◌∙◌, ap, subst, arith}
use Rattle.error.specs.Refusal.{Told, good, bad}
use Rattle.error.specs.Only.{fault_of, fault_of_told}
use Rattle.error.specs.declared.Fault.{Fault}
use Rattle.table.specs.Table.{id_of}
use Rattle.scan.specs.ScanMemory.{counts}
use Rattle.scan.specs.declared.Counts.{Counts}
use Rattle.index.specs.Index.{Built}
use Rattle.index.specs.IndexLaws.{built_slots_only, built_only}
use Rattle.store.specs.Store.{told_opened_file, Indexed, OpensFile}
use Rattle.lookup.specs.declared.Tables.{Tables}

-- the counts that an answer tells; none for a refusal
counts_in : Told Counts → Counts
counts_in (good c) = c
counts_in (bad q) = counts 0 0 0

-- the fault that an answer tells, or else another
fault_in : Fault → Told Counts → Fault
fault_in f (good c) = f
fault_in f (bad q) = fault_of q

-- answers that tell the same and leave the same index are the same, and so are the slots
same_index : (rows old xs ys : List ℕ) (a b : Result Tables Fault) → told_opened_file a ≡ told_opened_file b → Indexed a rows old xs → Indexed b rows old ys → (a ≡ b) × (xs ≡ ys)
unfolding counts_in fault_in
same_index rows old xs ys (Ok t) (Ok u) e h g = (ap Ok tables, slots)
  where
    records : t.records ≡ u.records
    records = ap (λ (x : Told Counts). (counts_in x).records) e

    built : Built (id_of rows) u.records old xs t.ids
    built = subst (λ (n : ℕ). Built (id_of rows) n old xs t.ids) records h

    slots : xs ≡ ys
    slots = built_slots_only (id_of rows) u.records old xs ys t.ids u.ids built g

    ids : t.ids ≡ u.ids
    ids = built_only (id_of rows) u.records old ys t.ids u.ids (subst (λ (x : List ℕ). Built (id_of rows) u.records old x t.ids) slots built) g

    headers : t.headers ≡ u.headers
    headers = ap (λ (x : Told Counts). (counts_in x).headers) e

    most : t.max ≡ u.max
    most = ap (λ (x : Told Counts). (counts_in x).max) e

    tables : t ≡ u
    tables = λ i. record { headers = headers i; records = records i; max = most i; ids = ids i }
same_index rows old xs ys (Err f) (Err k) e h g =
    (ap Err (sym (fault_of_told f) ∙ ap (fault_in f) e ∙ fault_of_told k), h ∙ sym g)
same_index rows old xs ys (Ok t) (Err k) e h g = let z : ◌≡◌ {A = ℕ} 0 1 = cc in absurd (omega arith)
same_index rows old xs ys (Err f) (Ok u) e h g = let z : ◌≡◌ {A = ℕ} 0 1 = cc in absurd (omega arith)

-- `open` has one answer, and leaves one list of header rows, one of data rows and one of slots
pub opened_file_only : (s heads rows slots : List ℕ) (a b : Result Tables Fault) (ha hb ra rb xa xb : List ℕ) → OpensFile s heads rows slots a ha ra xa → OpensFile s heads rows slots b hb rb xb
    → (a ≡ b) × (ha ≡ hb) × (ra ≡ rb) × (xa ≡ xb)
opened_file_only s heads rows slots a b ha hb ra rb xa xb p q =
    let e : ra ≡ rb = p.records ∙ sym q.records in
    let r = same_index rb slots xa xb a b (p.answer ∙ sym q.answer) (subst (λ (x : List ℕ). Indexed a x slots xa) e p.index) q.index in
    (r.0, p.headers ∙ sym q.headers, e, r.1)
