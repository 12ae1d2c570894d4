-- Document 01, 'Parameters': "Grids go to a lent list of numbers and one of row ends (numbers so far); the first bad item gives 12 or
-- 13, and 16 comes only if all read and either list is too short." A grid is a list whose items are lists (lists/specs/Items.antt), so
-- a row that is no list is 12 at the row's start, and a bad item 12 or 13 at its own.
-- Assumes nothing.
-- Definitions to be believed: no law, and nothing computed that no theorem ties (docs/BELIEVE.md).
use Rattle.std.specs.Prelude.{ℕ, ◌+◌, Bool, ◌&&◌, List, [], ◌∷◌, ◌++◌, leb, length}
use Rattle.error.specs.Refusal.{Told, good}
use Rattle.params.specs.Answer.{Read, onward, read_mapped}
use Rattle.reals.specs.Answer.{Answer}
use Rattle.lists.specs.Items.{list_by, list_of}
use Rattle.lists.specs.Answer.{Fate, fated, next_by, kind_of}
use Rattle.lists.specs.declared.Kind.{Kind}
use Rattle.grids.specs.declared.Size as Code

-- a grid of scalars that f reads: a list of lists
abbrev pub grid_of : {A : Type 0} → (List ℕ → Answer A) → List ℕ → Fate (List (List A))
grid_of f t = list_by (list_of f) t

-- "a lent list of numbers": all numbers, row after row
abbrev pub flat : {A : Type 0} → List (List A) → List A
flat [] = []
flat (r ∷ rs) = r ++ flat rs

-- "one of row ends (numbers so far)": those of rows before which there are n numbers
unfoldable pub ends_from : {A : Type 0} → ℕ → List (List A) → List ℕ
ends_from n [] = []
ends_from n (r ∷ rs) = (n + length r) ∷ ends_from (n + length r) rs

-- a grid's size: how many rows and numbers it has
abbrev pub Size : Type 0
Size = Code.Size

-- a grid's size by its two numbers
abbrev pub size : ℕ → ℕ → Size
size r n = record { rows = r; numbers = n }

-- the size of a grid
abbrev pub size_of : {A : Type 0} → List (List A) → Size
size_of g = size (length g) (length (flat g))

-- whether a size fits: neither a lent list of so many numbers nor one of so many row ends is too short
abbrev pub size_fits : ℕ → ℕ → Size → Bool
size_fits room ends s = leb s.numbers room && leb s.rows ends

-- whether a grid fits: its size does
abbrev pub grid_fits : {A : Type 0} → ℕ → ℕ → List (List A) → Bool
grid_fits room ends g = size_fits room ends (size_of g)

-- the next parameter of a reader, read as a grid of scalars that f reads into so many numbers and row ends
abbrev pub grid_read : {A : Type 0} → (List ℕ → Answer A) → ℕ → ℕ → List ℕ → ℕ → ℕ → Read (List (List A))
grid_read f room ends s place end = next_by (grid_of f) (grid_fits room ends) s place end

-- the answer of a reader of grids with the size for the grid
abbrev pub how_large : {A : Type 0} → Read (List (List A)) → Read Size
how_large a = read_mapped (λ g. good (size_of g)) a

-- the numbers of a grid that is read, or its refusal
abbrev pub numbers_of : {A : Type 0} → Told (List (List A)) → Told (List A)
numbers_of a = onward (λ g. good (flat g)) a

-- the row ends of a grid that is read, or its refusal
abbrev pub ends_of : {A : Type 0} → Told (List (List A)) → Told (List ℕ)
ends_of a = onward (λ g. good (ends_from 0 g)) a

-- ---- what the code's parts promise

-- how many numbers of a kind a row has, or its refusal
abbrev pub row_of : Kind → List ℕ → Fate ℕ
row_of kind u = fated length (list_by (kind_of kind) u)

-- a size with a row of k numbers more
abbrev pub add_row : Size → ℕ → Size
add_row s k = size (s.rows + 1) (s.numbers + k)
