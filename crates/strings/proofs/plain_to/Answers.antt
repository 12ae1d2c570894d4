use mathlib.Core.Path.{◌≡◌, sym, ◌∙◌}
use native.Mathlib.Omega.{arith}
use Rattle.strings.specs.PlainRuns.{plain_more, plain_hit}
use Rattle.strings.proofs.plain_to.Goals as goal

pub loop-i-init : goal.loop-i-init
loop-i-init c = (c.requires.0, c.requires.2)

pub returns-then-is_special : goal.returns-then-is_special
returns-then-is_special c =
    record { within = c.loop-i.invariant.0; plainly = c.loop-i.invariant.1; stops = λ h. plain_hit c.args.s.now c.loop-i.i (omega arith) (sym c.is_special.ensures ∙ c.if-is_special.true) }

pub loop-i-preserved : goal.loop-i-preserved
loop-i-preserved c =
    (omega arith, plain_more c.args.s.now c.loop-i.i (omega arith) (sym c.is_special.ensures ∙ c.if-is_special.false) c.loop-i.invariant.1)

pub returns : goal.returns
returns c = let l = c.loop-i in let e : l.i ≡ c.args.to = omega arith in record { within = omega arith; plainly = rw e at l.invariant.1; stops = λ h. absurd (omega arith) }
