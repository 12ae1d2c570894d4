-- The rows of many ids: what each number of the lent list then is.
-- Assumes nothing.
-- Definitions to be believed: no law, and nothing computed that no theorem ties (docs/BELIEVE.md).
use Rattle.std.specs.Prelude.{ℕ, ◌≤◌, ◌<◌, ◌≡◌, List, length, get_or, Option, Some, None}

-- a row's number, or a number that no row has
abbrev pub row_number : Option ℕ → ℕ
row_number None = 4294967295
row_number (Some r) = r

-- the first m numbers of the list tell what f says of the first m ids; all others are as they were
pub record FirstRowsTold (f : ℕ → ℕ) (ids before : List ℕ) (m : ℕ) (after : List ℕ) : Type 0 where
  pub size : length after ≡ length before
  pub tells : (i : ℕ) → i < m → get_or after i 0 ≡ f (get_or ids i 0)
  pub rest : (i : ℕ) → m ≤ i → get_or after i 0 ≡ get_or before i 0

-- where the list has room for all ids it tells what f says of each, and room beyond them keeps its numbers; where it has not, it is as it was
pub data RowsTold (f : ℕ → ℕ) (ids before after : List ℕ) : Type 0 where
  short : length before < length ids → after ≡ before → RowsTold f ids before after
  full : length ids ≤ length before → FirstRowsTold f ids before (length ids) after → RowsTold f ids before after
