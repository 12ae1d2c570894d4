use native.Mathlib.Omega.{arith}
use borrow.Author.Tests.{eq-eqb, ne_eqb}
use lib.ListN.{get_or}
use Rattle.reals.specs.DigitLoop.{decimal_pointed, decimal_whole, decimal_end}
use Rattle.reals.proofs.fraction_from.Goals as goal

-- `reals::fraction_from` meets its contract, by the laws of DigitLoop.antt at each way out. Assumes nothing.

pub returns-then-t-at-eq46 : goal.returns-then-t-at-eq46
returns-then-t-at-eq46 c =
    let a = c.args in
    decimal_pointed a.t.now a.at a.from c.many_digits_from-r.result (omega arith) (eq-eqb (get_or a.t.now a.at 0) 46 c.if-t-at-eq46.true) c.many_digits_from-r.ensures

pub returns-else-t-at-eq46 : goal.returns-else-t-at-eq46
returns-else-t-at-eq46 c =
    let a = c.args in
    decimal_whole a.t.now a.at a.from (omega arith) (ne_eqb (get_or a.t.now a.at 0) 46 c.if-t-at-eq46.false)

pub returns-else-at-t : goal.returns-else-at-t
returns-else-at-t c = let a = c.args in decimal_end a.t.now a.at a.from (omega arith) (omega arith)
