-- Blocks of 64 bytes that are passed one after another, each with what it makes of a state: what the contract of `pass_blocks` says.
-- Assumes nothing.
-- Definitions to be believed: no law, and nothing computed that no theorem ties (docs/BELIEVE.md).
use Rattle.std.specs.Prelude.{ℕ, ◌+◌}

-- from i on, with the state s, blocks are passed up to r, where the state is t: each is one that P allows
pub data BlocksPassed {A : Type 0} (P : ℕ → A → A → Type 0) (i : ℕ) (s : A) : ℕ → A → Type 0 where
  -- no block is passed
  none : BlocksPassed P i s i s
  -- blocks are passed, and one more after them
  more : {r : ℕ} {t u : A} → BlocksPassed P i s r t → P r t u → BlocksPassed P i s (r + 64) u
