use native.Mathlib.Omega.{arith}
use Rattle.reals.specs.DigitLoop.{sign_passed, sign_none, sign_end}
use Rattle.reals.proofs.past_sign.Goals as goal

-- `reals::past_sign` meets its contract, by the laws of DigitLoop.antt at each way out. Assumes nothing.

pub returns-then-c : goal.returns-then-c
returns-then-c c = let a = c.args in (sign_passed a.t.now a.at (omega arith) c.if-c.true, omega arith, omega arith)

pub returns-else-c : goal.returns-else-c
returns-else-c c = let a = c.args in (sign_none a.t.now a.at (omega arith) c.if-c.false, omega arith, omega arith)

pub returns-else-at-t : goal.returns-else-at-t
returns-else-at-t c = let a = c.args in (sign_end a.t.now a.at (omega arith), omega arith, omega arith)
