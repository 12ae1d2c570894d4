-- The bytes that records are told by: digits, and letters in either case.
-- Assumes nothing.
-- Definitions to be believed: no law, and nothing computed that no theorem ties (docs/BELIEVE.md).
use Rattle.std.specs.Prelude.{ℕ, ◌-◌, Bool, ◌&&◌, leb}
use Rattle.common.specs.Pick.{pick}

-- a decimal digit
abbrev pub digit : ℕ → Bool
digit c = leb 48 c && leb c 57

-- "letters in either case": a small letter as its capital
abbrev pub upper : ℕ → ℕ
upper c = pick (leb 97 c && leb c 122) (c - 32) c
