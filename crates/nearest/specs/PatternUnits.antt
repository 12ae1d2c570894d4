-- What an f64's bit pattern without its sign is worth, as a whole number of units of 2 ^ -1074, the smallest positive f64.
-- Infinity's pattern counts as the number that would stand there if the row of patterns went on: 2 ^ 1024. Assumes nothing.
-- Definitions to be believed: no law, and nothing computed that no theorem ties (docs/BELIEVE.md).
use Rattle.std.specs.Prelude.{ℕ, zero, suc, ◌+◌, ◌-◌, ◌*◌, ◌/◌, ◌%◌, ◌^◌}

-- a pattern's units by its fields: IEEE 754, binary64: an exponent's field of 0 has no leading digit and counts as 1; every other has one
abbrev pub units_at : ℕ → ℕ → ℕ
units_at zero t = t
units_at (suc x) t = (2 ^ 52 + t) * 2 ^ x

-- the units of a pattern without its sign: the exponent's field stands above the 52 digits
unfoldable pub pattern_units : ℕ → ℕ
pattern_units b = units_at (b / 2 ^ 52) (b % 2 ^ 52)

-- infinity's pattern, the largest that is no NaN's
abbrev pub infinity : ℕ
infinity = 2047 * 2 ^ 52

-- the distance of two numbers
abbrev pub distance_of : ℕ → ℕ → ℕ
distance_of x y = x - y + (y - x)
