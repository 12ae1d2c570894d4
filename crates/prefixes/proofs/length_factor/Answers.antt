use Prim.Native.Nat.{ℕ}
use mathlib.Core.Path.{◌∙◌, ap}
use lib.Ieee.{binary64, to_bits}
use Rattle.nearest.specs.Near.{near}
use Rattle.nearest.specs.Product.{product}
use Rattle.prefixes.specs.Prefix.{thousand}
use Rattle.prefixes.proofs.length_factor.Goals as goal

-- `prefixes::length_factor` meets its contract: one product of 1000.0 and the factor. Assumes nothing.

pub returns : goal.returns
returns c =
    c.times.ensures
    ∙ ap (λ (p : ℕ). product p (to_bits binary64 c.prefix_factor.result)) thousand
    ∙ ap (λ (q : ℕ). product (near 1000 1) q) c.prefix_factor.ensures
