use mathlib.Core.Logic.{inl, inr}
use native.Mathlib.Omega.{arith}
use Rattle.long_reals.proofs.ahead.Goals as goal

-- `long_reals::ahead` meets its contract: by its two cases. Assumes nothing.

pub returns-then-k-gt252 : goal.returns-then-k-gt252
returns-then-k-gt252 c = (omega arith, inl (omega arith), omega arith)

pub returns : goal.returns
returns c = (omega arith, inr (omega arith), omega arith)
