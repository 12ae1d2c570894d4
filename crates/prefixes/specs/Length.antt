-- Document 01, 'Units': the length in mm of a prefix. Assumes nothing.
-- Definitions to be believed: no law, and nothing computed that no theorem ties (docs/BELIEVE.md).
use Rattle.std.specs.Prelude.{ℕ, List}
use Rattle.nearest.specs.Near.{near}
use Rattle.nearest.specs.Product.{product}
use Rattle.prefixes.specs.Prefix.{factor_of}

-- "Length in mm: 1000.0 times the prefix factor, one rounding"
abbrev pub length_factor_of : List ℕ → ℕ
length_factor_of t = product (near 1000 1) (factor_of t)
