-- Products and quotients of f64s as IEEE 754 has them, from bit pattern to bit pattern: the exact result over whole numbers, and
-- the nearest pattern to it. The language's `*` and `/` give just these (`mul_bits`, `div_bits` in proofs/ProductRight.antt). Assumes nothing.
-- Definitions to be believed: no law, and nothing computed that no theorem ties (docs/BELIEVE.md).
use Rattle.std.specs.Prelude.{ℕ, ◌+◌, ◌*◌, ◌%◌, ◌^◌, Bool, cond, ltb, leb, eqb}
use Rattle.std.specs.Float.Ieee.{unlike}
use Rattle.nearest.specs.PatternUnits.{pattern_units, infinity}
use Rattle.nearest.specs.Nearest.{signed}
use Rattle.nearest.specs.Near.{near}

-- what a bit pattern stands for: no number, an infinity, or so many units of 2 ^ -1074; true is the negative sign
pub data Worth : Type 0 where
  none : Worth
  infinite : Bool → Worth
  finite : Bool → ℕ → Worth

-- a pattern is negative where the highest of its 64 bits is set
abbrev pub negative : ℕ → Bool
negative p = leb (2 ^ 63) p

-- what a pattern stands for: without its sign, below infinity's it is a number, above it none
unfoldable pub worth_of : ℕ → Worth
worth_of p =
    cond (ltb (p % 2 ^ 63) infinity) (finite (negative p) (pattern_units (p % 2 ^ 63))) (cond (eqb (p % 2 ^ 63) infinity) (infinite (negative p)) none)

-- every NaN counts as one, and this is its pattern
abbrev pub quiet : ℕ
quiet = infinity + 2 ^ 51

-- IEEE 754, 6.3, 6.1 and 7.2: a product is negative where exactly one factor is; infinity times zero is no number
abbrev pub times_of : Worth → Worth → ℕ
times_of none y = quiet
times_of (infinite s) none = quiet
times_of (infinite s) (infinite t) = signed (unlike s t) infinity
times_of (infinite s) (finite t b) = cond (eqb b 0) quiet (signed (unlike s t) infinity)
times_of (finite s a) none = quiet
times_of (finite s a) (infinite t) = cond (eqb a 0) quiet (signed (unlike s t) infinity)
times_of (finite s a) (finite t b) = signed (unlike s t) (near (a * b) (2 ^ 1074 * 2 ^ 1074))

-- a quotient's pattern: 0 / 0 and infinity by infinity are no number; any other by 0 is infinite, and any other by infinity zero
abbrev pub over_of : Worth → Worth → ℕ
over_of none y = quiet
over_of (infinite s) none = quiet
over_of (infinite s) (infinite t) = quiet
over_of (infinite s) (finite t b) = signed (unlike s t) infinity
over_of (finite s a) none = quiet
over_of (finite s a) (infinite t) = signed (unlike s t) 0
over_of (finite s a) (finite t b) = cond (eqb b 0) (cond (eqb a 0) quiet (signed (unlike s t) infinity)) (signed (unlike s t) (near a b))

-- the pattern of a product, by what the two patterns stand for
abbrev pub product : ℕ → ℕ → ℕ
product p q = times_of (worth_of p) (worth_of q)

-- the pattern of a quotient, by what the two patterns stand for
abbrev pub quotient : ℕ → ℕ → ℕ
quotient p q = over_of (worth_of p) (worth_of q)
