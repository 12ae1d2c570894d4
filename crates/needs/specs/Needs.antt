-- What a file needs of lent memory.
-- Assumes nothing.
-- Definitions to be believed: no law, and nothing computed that no theorem ties (docs/BELIEVE.md).
use Rattle.std.specs.Prelude.{ℕ, List, [], ◌∷◌, ◌++◌, length, ◌≡◌}
use Rattle.error.specs.Refusal.{Told}
use Rattle.statement.specs.Rows.{Row, HeaderRow, mapped}
use Rattle.scan.specs.Records.{Table, largest}
use Rattle.scan.specs.File.{scan_of}
use Rattle.argument_sizes.specs.declared.Sizes.{Sizes}
use Rattle.argument_sizes.specs.Lengths.{record_sizes_of}
use Rattle.argument_sizes.specs.Rules.{greater_sizes, no_sizes, Arg}
use Rattle.needs.specs.declared.Needs.{Needs}

-- the most that any of a list of rows needs, each as g says
unfoldable pub most_of : {R : Type 0} → (R → Sizes) → List R → Sizes
most_of g [] = no_sizes
most_of g (w ∷ ws) = greater_sizes (g w) (most_of g ws)

-- the most that any of the header records needs
abbrev pub head_sizes : List ℕ → List HeaderRow → Sizes
head_sizes s ws = most_of (λ (w : HeaderRow). record_sizes_of s w.arg_start w.arg_end 0) ws

-- the most that any of the data records needs
abbrev pub row_sizes : List ℕ → List Row → Sizes
row_sizes s ws = most_of (λ (w : Row). record_sizes_of s w.arg_start w.arg_end w.complex) ws

-- what a file needs, from its numbers
abbrev pub needs : ℕ → ℕ → ℕ → Sizes → Needs
needs h r m z = record { headers = h; records = r; max = m; items = z.items; text = z.text; rows = z.rows }

-- what a table needs: its rows of both kinds, the largest id, and the most that any parameter of any of its records needs
abbrev pub needs_in : List ℕ → Table → Needs
needs_in s t = needs (length t.headers) (length t.records) (largest t.records) (greater_sizes (head_sizes s t.headers) (row_sizes s t.records))

-- what the scan's answer needs where it has rooms that suffice: as many rows of each kind as the file has bytes
unfoldable pub needs_of : List ℕ → Told Needs
needs_of s = mapped (needs_in s) (scan_of s (length s) (length s))

-- w is one of a list of rows
pub record RowAmong {R : Type 0} (w : R) (all : List R) : Type 0 where
  pub before : List R
  pub behind : List R
  pub shape : all ≡ before ++ (w ∷ behind)

-- t is a parameter of one of a table's header records or data records
pub data Among (s : List ℕ) (k : Table) (t : List ℕ) : Type 0 where
  header : (w : HeaderRow) → RowAmong w k.headers → Arg s w.arg_start w.arg_end 0 t → Among s k t
  datum : (w : Row) → RowAmong w k.records → Arg s w.arg_start w.arg_end w.complex t → Among s k t
