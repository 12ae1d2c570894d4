-- The bytes that document 01 names, and where a rest of the file begins.
-- Assumes nothing.
-- Definitions to be believed: no law, and nothing computed that no theorem ties (docs/BELIEVE.md).
use Rattle.std.specs.Prelude.{ℕ, ◌-◌, Bool, ◌||◌, List, eqb, length}

-- "Whitespace is space, tab, LF, FF, CR."
abbrev pub white : ℕ → Bool
white b = eqb b 32 || eqb b 9 || eqb b 10 || eqb b 12 || eqb b 13

-- where the rest r of the file s begins: a place from 0 to the file's length
abbrev pub place : List ℕ → List ℕ → ℕ
place s r = length s - length r
