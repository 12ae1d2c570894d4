-- The f64 nearest to a whole number times or by a power of ten. Assumes nothing.
-- Definitions to be believed: no law, and nothing computed that no theorem ties (docs/BELIEVE.md).
use Rattle.std.specs.Prelude.{ℕ, ◌*◌, ◌^◌, Bool, true, false}
use Rattle.nearest.specs.Near.{near}

-- "the f64 nearest to m·10^e" by the size k of e; true is a negative e
abbrev pub near_by : Bool → ℕ → ℕ → ℕ
near_by false m k = near (m * 10 ^ k) 1
near_by true m k = near m (10 ^ k)
