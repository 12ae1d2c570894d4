-- The first of some rows of which a test holds, computed.
-- Assumes nothing.
use Rattle.std.specs.Prelude.{ℕ, zero, suc, Bool, Option, Some, None}
use Rattle.common.specs.Pick.{pick}

-- the first of the next n rows, from row i on, of which a test holds
unfoldable pub first_from : (ℕ → Bool) → ℕ → ℕ → Option ℕ
first_from p zero i = None
first_from p (suc n) i = pick (p i) (Some i) (first_from p n (suc i))
