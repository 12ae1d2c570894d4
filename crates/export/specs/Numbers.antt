-- A scan's answer as plain numbers, for a host in another language.
-- Assumes nothing.
-- Definitions to be believed: no law, and nothing computed that no theorem ties (docs/BELIEVE.md).
use Rattle.std.specs.Prelude.{ℕ, List, [], ◌∷◌}
use Rattle.error.specs.Refusal.{Told, good, bad}
use Rattle.scan.specs.declared.Counts.{Counts}

-- what goes with a scan's answer: header rows, data rows and the largest id; or the refusal's reason and place
abbrev pub numbers : Told Counts → List ℕ
numbers (good c) = c.headers ∷ c.records ∷ c.max ∷ []
numbers (bad q) = q.reason ∷ q.place ∷ []
