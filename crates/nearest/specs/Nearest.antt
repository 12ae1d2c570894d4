-- The f64 nearest to a fraction, over whole numbers alone: powers of two are multiplied out, so that nothing is rounded in the
-- definition itself. Assumes nothing.
-- Definitions to be believed: no law, and nothing computed that no theorem ties (docs/BELIEVE.md).
use Rattle.std.specs.Prelude.{ℕ, ◌*◌, ◌%◌, ◌^◌, ◌≤◌, ◌+◌, ◌≡◌, Bool, cond}
use Rattle.nearest.specs.PatternUnits.{pattern_units, infinity, distance_of}

-- b is the pattern nearest to n / den units: none up to infinity's is closer, and where another is as close b is the even one
pub record NearestTo (n den b : ℕ) : Type 0 where
  pub pattern : b ≤ infinity
  pub closest : (c : ℕ) → c ≤ infinity → distance_of (pattern_units b * den) n ≤ distance_of (pattern_units c * den) n
  pub even : (c : ℕ) → c ≤ infinity → (c ≡ b → ⊥) → distance_of (pattern_units c * den) n ≡ distance_of (pattern_units b * den) n → b % 2 ≡ 0

-- b is the pattern, without its sign, of the f64 nearest to num / den, ties to even. 1 is 2 ^ 1074 units. Past the largest f64
-- the next pattern is infinity's, which counts as 2 ^ 1024: so the rule of IEEE 754 for overflow is no case of its own.
abbrev pub IsNearest : ℕ → ℕ → ℕ → Type 0
IsNearest num den b = NearestTo (num * 2 ^ 1074) den b

-- a pattern with its sign, the highest of the 64 bits: true is the negative one
abbrev pub signed : Bool → ℕ → ℕ
signed s b = cond s (2 ^ 63) 0 + b
