-- Document 01: "Lookup of an id answers like a map written to in file order: the last record of that id, or none", without a loop.
-- `f` gives the id of each row, and there are n rows, in file order.
-- Assumes nothing.
-- Definitions to be believed: no law, and nothing computed that no theorem ties (docs/BELIEVE.md).
use Rattle.std.specs.Prelude.{ℕ, ◌<◌, ◌≡◌, Option, Some, None}

-- "the last record of that id": a row of the table, with that id, and no later row has it
pub record IsLast (f : ℕ → ℕ) (n k r : ℕ) : Type 0 where
  pub row : r < n
  pub named : f r ≡ k
  pub last : (j : ℕ) → r < j → j < n → f j ≡ k → ⊥

-- "or none": no row of the table has that id
abbrev pub Missing : (ℕ → ℕ) → ℕ → ℕ → Type 0
Missing f n k = (j : ℕ) → j < n → f j ≡ k → ⊥

-- what a lookup answers, without a loop: the last record of that id, or that there is none
abbrev pub LookupForm : (ℕ → ℕ) → ℕ → ℕ → Option ℕ → Type 0
LookupForm f n k None = Missing f n k
LookupForm f n k (Some r) = IsLast f n k r
