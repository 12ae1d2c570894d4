-- The rows of a file, each kind in file order, and the largest id.
-- Assumes nothing.
-- Definitions to be believed: no law, and nothing computed that no theorem ties (docs/BELIEVE.md).
use Rattle.std.specs.Prelude.{ℕ, max, ◌≤◌, ◌≡◌, ◌⊎◌, List, [], ◌∷◌}
use Rattle.std.proofs.Math.Option.{some}
use Rattle.std.proofs.Math.ListN.{get_elem?}
use Rattle.statement.specs.Rows.{Row, HeaderRow, RowKind, header_kind, data_kind, RowOf}

-- the rows of a file, each kind in file order
pub record Table : Type 0 where
  pub headers : List HeaderRow
  pub records : List Row

-- a table from its header rows and its data rows
abbrev pub table : List HeaderRow → List Row → Table
table hs rs = record { headers = hs; records = rs }

-- a table with a header row before those of the rest of the file
abbrev pub with_header : HeaderRow → Table → Table
with_header w t = table (w ∷ t.headers) t.records

-- a table with a data row before those of the rest of the file
abbrev pub with_record : Row → Table → Table
with_record w t = table t.headers (w ∷ t.records)

-- a table with a row of the kind before those of the rest of the file
abbrev pub with_row : (k : RowKind) → RowOf k → Table → Table
with_row header_kind w t = with_header w t
with_row data_kind w t = with_record w t

-- the largest id, 0 where there is no record
unfoldable pub largest : List Row → ℕ
largest [] = 0
largest (w ∷ ws) = max w.id (largest ws)

-- m is the largest id of these records: none has a greater one, and one has it, or there is no record and m is 0 (`largest_is`, `largest_only`)
pub record IsLargest (ws : List Row) (m : ℕ) : Type 0 where
  pub above : (i : ℕ) (w : Row) → get_elem? ws i ≡ some w → w.id ≤ m
  pub reached : ((ws ≡ []) × (m ≡ 0)) ⊎ ((i : ℕ) × ((w : Row) × ((get_elem? ws i ≡ some w) × (w.id ≡ m))))
