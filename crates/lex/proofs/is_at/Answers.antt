use borrow.Author.Tests.{eqb-true, eqb-false}
use native.Mathlib.Omega.{arith}
use Rattle.common.specs.Compare.{clash}
use Rattle.lex.proofs.is_at.Goals as goal

pub returns-then-i-s : goal.returns-then-i-s
returns-then-i-s c = let a = c.args in record { here = λ e. (omega arith, eqb-true _ _ e); away = λ e h. eqb-false _ _ e }

pub returns : goal.returns
returns c = record { here = λ e. clash (cc); away = λ e h k. omega arith }
