-- The number that a text's digits make, whatever stands between them, as the point does. Assumes nothing.
-- Definitions to be believed: no law, and nothing computed that no theorem ties (docs/BELIEVE.md).
use Rattle.std.specs.Prelude.{ℕ, ◌+◌, ◌*◌, ◌-◌, List, [], ◌∷◌}
use Rattle.common.specs.Pick.{pick}
use Rattle.record.specs.Byte.{digit}

-- the number that the digits make after those that gave n; other bytes are passed over
unfoldable pub number_in : ℕ → List ℕ → ℕ
number_in n [] = n
number_in n (c ∷ r) = number_in (pick (digit c) (n * 10 + (c - 48)) n) r
