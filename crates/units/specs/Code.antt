-- What the code's answers say. Assumes nothing.
use Rattle.std.specs.Prelude.{ℕ, zero, suc, ◌≤◌, ◌≡◌, Bool, true, List, [], ◌∷◌, length, Option, Some, None, Result, Ok, Err}
use Rattle.common.specs.Pick.{pick}
use Rattle.error.specs.Refusal.{Told, good, bad, told}
use Rattle.error.specs.declared.Fault.{Fault}
use Rattle.statement.specs.declared.Range.{Range}
use Rattle.statement.specs.Rows.{Row, HeaderRow}
use Rattle.table.specs.Table.{table_rows, row_numbers}
use Rattle.reals.specs.Scalar.{reference_of}
use Rattle.kinds.specs.Kind.{kind_of_keyword}
use Rattle.kinds.specs.declared.Kind.{Kind}
use Rattle.kinds.specs.declared.Kind as KindCode
use Rattle.params.specs.Answer.{span, onward}
use Rattle.lists.specs.Answer.{fine, as_fate, values_of}
use Rattle.lists.specs.Items.{items_from}
use Rattle.lookup.specs.Lookup.{bytes_between, span_fine}
use Rattle.factors.specs.SeenRecords.{SeenRecord, seen_record_of}
use Rattle.units.specs.Answer.{Units, defaults, is_context, refs_in}
use Rattle.units.specs.Units.{context_of}

-- a context's units; the default values for any other record
unfoldable pub context_or : List ℕ → (ℕ → Told (Option SeenRecord)) → SeenRecord → Told Units
context_or s find t = onward (λ c. pick c (context_of s find t) (good defaults)) (is_context s t)

-- a unit answer decides: it is a refusal, or has a length unit
abbrev pub deciding : Told Units → Bool
deciding (good u) = u.resolved
deciding (bad q) = true

-- the records of n rows from row k on
unfoldable pub seen_records_from : List ℕ → (ℕ → Row) → ℕ → ℕ → List (Told SeenRecord)
seen_records_from s row zero k = []
seen_records_from s row (suc n) k = seen_record_of s (row k) ∷ seen_records_from s row n (suc k)

-- the records of a table in lent memory of which n rows are told
abbrev pub seen_records_in : List ℕ → List ℕ → ℕ → List (Told SeenRecord)
seen_records_in s rows n = seen_records_from s (row_numbers rows) (table_rows rows n) 0

-- the kind of a part by its keyword; `Other` where that is not in the file
abbrev pub kind_at : List ℕ → HeaderRow → Kind
kind_at s p = pick (span_fine (length s) p.key_start p.key_end) (kind_of_keyword (bytes_between s p.key_start p.key_end)) KindCode.TheVariants.Other

-- the references of a list's inside that all read
abbrev pub ids_of : List ℕ → List ℕ
ids_of b = values_of (items_from (suc (length b)) (λ u. as_fate (reference_of u)) 0 b)

-- the references of a list's inside all read
abbrev pub ReadsAll : List ℕ → Type 0
ReadsAll b = items_from (suc (length b)) (λ u. as_fate (reference_of u)) 0 b ≡ fine (ids_of b)

-- the references x of the file s: refused, none, or those of a list's inside
abbrev pub RefsTo : List ℕ → Told (List ℕ) → Result (Option Range) Fault → Type 0
RefsTo s x (Err f) = x ≡ bad (told f)
RefsTo s x (Ok None) = x ≡ good []
RefsTo s x (Ok (Some r)) = (r.start ≤ r.end) × ((r.end ≤ length s) × (ReadsAll (bytes_between s r.start r.end) × (x ≡ good (ids_of (bytes_between s r.start r.end)))))

-- the references in the list that the arguments from a up to z begin with
abbrev pub RefsBy : List ℕ → ℕ → ℕ → Result (Option Range) Fault → Type 0
RefsBy s a z r = RefsTo s (refs_in s (Some (span a z))) r
