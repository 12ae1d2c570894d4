use mathlib.Core.Path.{sym, ◌∙◌, ap}
use mathlib.Core.Bool.{Bool}
use Rattle.nearest.specs.Nearest.{signed}
use Rattle.nearest.specs.Power.{near_by}
use Rattle.reals.proofs.by_wide.Goals as goal

-- `reals::by_wide` meets its contract: the wide path's answer. Assumes nothing.

pub returns-then-p : goal.returns-then-p
returns-then-p c =
    let a = c.args in
    c.lowered.ensures ∙ ap (λ (d : Bool). signed a.neg (near_by d a.m a.p.size)) (sym c.if-p.true)

pub returns : goal.returns
returns c =
    let a = c.args in
    c.raised.ensures ∙ ap (λ (d : Bool). signed a.neg (near_by d a.m a.p.size)) (sym c.if-p.false)
