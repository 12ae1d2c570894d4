use borrow.Author.Tests.{eqb-true, ltb-true}
use lib.ListN.{length}
use Rattle.common.specs.Tests.{both}
use Rattle.reals.specs.DigitLoop.{plain_read, plain_at_other}
use Rattle.reals.proofs.plain_from.Goals as goal

-- `reals::plain_from` meets its contract, by the laws of DigitLoop.antt at each way out. Assumes nothing.

pub returns-then-d-t : goal.returns-then-d-t
returns-then-d-t c =
    let a = c.args in
    let k = both _ _ c.if-d-t.true in
    plain_read a.t.now a.at a.cap c.digits_from-d.result c.digits_from-d.ensures (eqb-true c.digits_from-d.result.next (length a.t.now) k.0) (ltb-true a.at (length a.t.now) k.1)

pub returns : goal.returns
returns c =
    let a = c.args in
    plain_at_other a.t.now a.at a.cap c.digits_from-d.result c.digits_from-d.ensures c.if-d-t.false
