-- The factor of a length unit by how many conversions are left, as contracts cite it. Assumes nothing.
-- Definitions to be believed: no law, and nothing computed that no theorem ties (docs/BELIEVE.md).
use Rattle.std.specs.Prelude.{ℕ, List, Option}
use Rattle.error.specs.Refusal.{Told}
use Rattle.factors.specs.SeenRecords.{SeenRecord}
use Rattle.factors.specs.Factor.{length_of}

-- the factor of a length unit, by at most `left` conversions from here on
abbrev pub length_left : ℕ → List ℕ → (ℕ → Told (Option SeenRecord)) → SeenRecord → Told (Option ℕ)
length_left left s find = length_of s find left
