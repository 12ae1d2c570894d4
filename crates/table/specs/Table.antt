-- How rows lie in lent memory: row by row, a data row in six numbers and a header row in four, in document 01's order.
-- The files of this crate are the only ones that know it. What stands above speaks of row k, of how many rows there are, and of the
-- memory after rows were laid or one was put.
-- Assumes nothing.
-- Definitions to be believed: no law, and nothing computed that no theorem ties (docs/BELIEVE.md).
use Rattle.std.specs.Prelude.{ℕ, ◌+◌, ◌*◌, ◌/◌, ◌%◌, ◌≤◌, ◌<◌, min, ◌≡◌, List, [], ◌∷◌, ◌++◌, ltb, length, drop, get_or}
use Rattle.std.proofs.lemmas.List.Edits.{sets}
use Rattle.common.specs.Pick.{pick}
use Rattle.statement.specs.Rows.{Row, row, HeaderRow, header_row}

-- how many numbers a data row has
abbrev pub row_width : ℕ
row_width = 6

-- how many numbers a header row has
abbrev pub header_width : ℕ
header_width = 4

-- how many data rows lie in so many numbers, six a row
abbrev pub rows_fit : ℕ → ℕ
rows_fit n = n / 6

-- how many header rows lie in so many numbers, four a row
abbrev pub headers_fit : ℕ → ℕ
headers_fit n = n / 4

-- how many data rows a table has: as many as are told, where the numbers suffice
abbrev pub table_rows : List ℕ → ℕ → ℕ
table_rows rows n = min n (rows_fit (length rows))

-- how many header rows a table has: as many as are told, where the numbers suffice
abbrev pub header_rows : List ℕ → ℕ → ℕ
header_rows heads n = min n (headers_fit (length heads))

-- the number i of row k, of rows of w numbers; 0 where the table ends before the row's end
abbrev pub field : ℕ → List ℕ → ℕ → ℕ → ℕ
field w xs k i = pick (ltb k (length xs / w)) (get_or xs (k * w + i) 0) 0

-- the id of data row k of a table
abbrev pub id_of : List ℕ → ℕ → ℕ
id_of rows k = field 6 rows k 0

-- row k of a table: "id, keyword start and end (0, 0 if complex), argument start and end, complex 0 or 1"
abbrev pub row_numbers : List ℕ → ℕ → Row
row_numbers rows k = row (id_of rows k) (field 6 rows k 1) (field 6 rows k 2) (field 6 rows k 3) (field 6 rows k 4) (field 6 rows k 5)

-- header row k of a table: keyword start and end, argument start and end
abbrev pub header_numbers : List ℕ → ℕ → HeaderRow
header_numbers heads k = header_row (field 4 heads k 0) (field 4 heads k 1) (field 4 heads k 2) (field 4 heads k 3)

-- the six numbers of a data row, in document 01's order
abbrev pub six : Row → List ℕ
six w = w.id ∷ w.key_start ∷ w.key_end ∷ w.arg_start ∷ w.arg_end ∷ w.complex ∷ []

-- the four numbers of a header row, in document 01's order
abbrev pub header_row_numbers : HeaderRow → List ℕ
header_row_numbers w = w.key_start ∷ w.key_end ∷ w.arg_start ∷ w.arg_end ∷ []

-- the numbers of rows, one row after the other
unfoldable pub rows_flat : {A : Type 0} → (A → List ℕ) → List A → List ℕ
rows_flat f [] = []
rows_flat f (w ∷ ws) = f w ++ rows_flat f ws

-- "lent rows and output keep their bytes, as does all room beyond an answer": the new numbers, and then the old
abbrev pub laid : List ℕ → List ℕ → List ℕ
laid new old = new ++ drop (length new) old

-- the memory after these data rows were laid at its start
abbrev pub rows_laid : List Row → List ℕ → List ℕ
rows_laid ws old = laid (rows_flat six ws) old

-- the memory after these header rows were laid at its start
abbrev pub headers_laid : List HeaderRow → List ℕ → List ℕ
headers_laid ws old = laid (rows_flat header_row_numbers ws) old

-- the memory after the numbers of a row were put as row k, of rows of w numbers; as it was where it has no row k
abbrev pub row_put_at : ℕ → List ℕ → ℕ → List ℕ → List ℕ
row_put_at w xs k new = pick (ltb k (length xs / w)) (sets xs (k * w) new) xs

-- the memory after a data row was put as row k
abbrev pub row_put : List ℕ → ℕ → Row → List ℕ
row_put rows k w = row_put_at 6 rows k (six w)

-- the memory after a header row was put as row k
abbrev pub header_put : List ℕ → ℕ → HeaderRow → List ℕ
header_put heads k w = row_put_at 4 heads k (header_row_numbers w)

-- a place as a number of 32 bits; no place of a file that is read is larger
abbrev pub narrow : ℕ → ℕ
narrow p = p % 4294967296

-- a data row with its places as numbers of 32 bits
abbrev pub narrow_row : Row → Row
narrow_row w = row w.id (narrow w.key_start) (narrow w.key_end) (narrow w.arg_start) (narrow w.arg_end) w.complex

-- a header row with its places as numbers of 32 bits
abbrev pub narrow_header : HeaderRow → HeaderRow
narrow_header w = header_row (narrow w.key_start) (narrow w.key_end) (narrow w.arg_start) (narrow w.arg_end)

-- the rows that are told for the ids of a part all have these ids
abbrev pub AllIds : List ℕ → List ℕ → List ℕ → ℕ → ℕ → Type 0
AllIds rows ids found from to = (i : ℕ) → from ≤ i → i < to → id_of rows (get_or found i 0) ≡ get_or ids i 0

-- each of the numbers of a part is below n
abbrev pub AllBelow : ℕ → List ℕ → ℕ → ℕ → Type 0
AllBelow n found from to = (i : ℕ) → from ≤ i → i < to → get_or found i 0 < n

-- the rows that are told for the ids of a part, which runs forwards and lies in both lists, are all of the first n, of which there is at
-- least one and which the table has, and have their ids
pub record AllHave (rows : List ℕ) (n : ℕ) (ids found : List ℕ) (from to : ℕ) : Type 0 where
  pub forwards : from ≤ to
  pub asked : to ≤ length ids
  pub told : to ≤ length found
  pub there : n ≤ rows_fit (length rows)
  pub some : 0 < n
  pub below : AllBelow n found from to
  pub have : AllIds rows ids found from to
