use Rattle.common.specs.Compare.{clash}
use Rattle.params.specs.ReaderLaws.{started_here}
use native.Mathlib.Omega.{arith}
use Rattle.params.proofs.is_dark.Goals as goal

pub returns-then-place-part : goal.returns-then-place-part
returns-then-place-part c = λ e. (omega arith, started_here c.args.part.now c.args.place (omega arith) e)

pub returns : goal.returns
returns c = λ e. clash (cc)
