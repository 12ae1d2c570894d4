-- Document 01, of the records themselves: "the last record of that id, or none", without a loop.
-- Assumes nothing.
-- Definitions to be believed: no law, and nothing computed that no theorem ties (docs/BELIEVE.md).
use Rattle.std.specs.Prelude.{ℕ, ◌≡◌, List, ◌∷◌, ◌++◌, Option, Some, None}
use Rattle.statement.specs.Rows.{Row}

-- ---- the last record of an id, among records in file order
-- no record has this id, wherever the records are cut around one
abbrev pub NoneOf : ℕ → List Row → Type 0
NoneOf k rs = (front back : List Row) (w : Row) → rs ≡ front ++ (w ∷ back) → w.id ≡ k → ⊥

-- "the last record of that id": w stands among the records, has that id, and no record after it has it
pub record IsLastOf (k : ℕ) (rs : List Row) (w : Row) : Type 0 where
  pub front : List Row
  pub back : List Row
  pub cut : rs ≡ front ++ (w ∷ back)
  pub named : w.id ≡ k
  pub after : NoneOf k back

-- "the last record of that id, or none": the answer of a lookup among records in file order
abbrev pub LastForm : ℕ → List Row → Option Row → Type 0
LastForm k rs None = NoneOf k rs
LastForm k rs (Some w) = IsLastOf k rs w
