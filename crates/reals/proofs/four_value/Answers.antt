use native.Mathlib.Omega.{arith}
use Rattle.reals.proofs.four_value.Goals as goal

-- `reals::four_value` meets its contract: a sum of four numbers, each with what it has too much. Assumes nothing.

pub returns : goal.returns
returns c = let p = c.requires in omega arith
