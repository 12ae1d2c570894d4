use mathlib.Core.Path.{sym, ◌∙◌, ap}
use mathlib.Core.Bool.{true, false}
use Rattle.reals.specs.Whole.{whole_other, whole_read}
use Rattle.reals.specs.Answer.{told_whole}
use Rattle.reals.proofs.parse_int.Goals as goal

-- `reals::parse_int` meets its contract, by the laws of Whole.antt at each way out. Assumes nothing.

pub returns-in_err-n : goal.returns-in_err-n
returns-in_err-n c =
    ap told_whole c.from_residual.ensures ∙ whole_other c.args.t.now c.past_sign-a.result c.past_sign-a.ensures.0 (rw c.in_err-n.was at c.plain_from.ensures)

pub returns-then-minus_at : goal.returns-then-minus_at
returns-then-minus_at c =
    c.below_zero.ensures
    ∙ whole_read c.args.t.now c.past_sign-a.result c.past_sign-a.ensures.0 true _ (sym c.if-minus_at.true ∙ c.minus_at.ensures) (rw c.in_ok-n.was at c.plain_from.ensures)

pub returns : goal.returns
returns c =
    c.above_zero.ensures
    ∙ whole_read c.args.t.now c.past_sign-a.result c.past_sign-a.ensures.0 false _ (sym c.if-minus_at.false ∙ c.minus_at.ensures) (rw c.in_ok-n.was at c.plain_from.ensures)
