use native.Mathlib.Omega.{arith}
use borrow.Author.Tests.{not-true}
use Rattle.common.specs.Compare.{clash}
use Rattle.statement.proofs.is_open.Goals as goal

pub returns-then-s-i-lt16 : goal.returns-then-s-i-lt16
returns-then-s-i-lt16 c = λ z. clash (cc)

pub returns : goal.returns
returns c = λ z. (omega arith, c.has_end.ensures (not-true _ z))
