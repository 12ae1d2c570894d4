use Rattle.params.specs.Seek.{step_plain}
use mathlib.Core.Path.{refl, ◌∙◌}
use native.Mathlib.Omega.{arith}
use Rattle.params.proofs.past_plain.Goals as goal

pub loop-j-init : goal.loop-j-init
loop-j-init c = λ d. refl

pub loop-j-preserved : goal.loop-j-preserved
loop-j-preserved c = let s = c.args.part.now in let l = c.loop-j in λ d. l.invariant d ∙ step_plain s l.j l.j d (omega arith) c.if-part-j-le47.false
