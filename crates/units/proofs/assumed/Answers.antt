use Prim.Native.Nat.{ℕ}
use mathlib.Core.Path.{◌∙◌, ap}
use mathlib.Core.Bool.{false}
use lib.Ieee.{binary64, to_bits, of_bits}
use Rattle.nearest.specs.Near.{near}
use Rattle.units.specs.Answer.{units}
use Rattle.units.specs.Laws.{one_bits, thousandth_bits}
use Rattle.units.proofs.assumed.Goals as goal

pub returns : goal.returns
returns c = ap (λ (x : ℕ). units x x (to_bits binary64 (of_bits binary64 4562254508917369340)) false) one_bits ∙ ap (λ (x : ℕ). units (near 1 1) (near 1 1) x false) thousandth_bits
