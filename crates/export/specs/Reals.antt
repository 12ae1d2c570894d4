-- A real's answer as plain numbers, for a host in another language.
-- Assumes nothing.
-- Definitions to be believed: no law, and nothing computed that no theorem ties (docs/BELIEVE.md).
use Rattle.std.specs.Prelude.{ℕ}
use Rattle.reals.specs.Answer.{Answer, read, refused}

-- a real's answer as a number: 0, or the number of the refusal
abbrev pub real_code : Answer ℕ → ℕ
real_code (read b) = 0
real_code (refused n) = n

-- the bit pattern of a real that was read, or what stood there
abbrev pub real_bits : Answer ℕ → ℕ → ℕ
real_bits (read b) old = b
real_bits (refused n) old = old
