use Rattle.common.specs.Lists.{drop_end}
use Rattle.record.specs.Turns.{past_stops, past_goes}
use Rattle.record.specs.Text.{past, past_turn}
use Rattle.statement.specs.Usual.{is_plain_byte}
use Rattle.common.specs.Walk.{walk_ends}
use native.Mathlib.Omega.{arith}
use mathlib.Core.List.{[]}
use mathlib.Core.Bool.{not}
use mathlib.Core.Path.{ap, sym, refl, ◌∙◌}
use Rattle.statement.proofs.last_run.Goals as goal

pub loop-i-init : goal.loop-i-init
unfolding past
loop-i-init c = ((omega arith, omega arith), refl)

pub returns-then-is_mark : goal.returns-then-is_mark
returns-then-is_mark c = let s = c.args.s.now in
    record { s_value = past_stops s c.loop-i.i (omega arith) is_plain_byte _ (ap not (sym c.is_mark.ensures ∙ c.if-is_mark.true)) c.loop-i.invariant.1; lower_bound = (omega arith, omega arith) }

pub loop-i-preserved : goal.loop-i-preserved
loop-i-preserved c = let s = c.args.s.now in
    ((omega arith, omega arith), past_goes s c.loop-i.i (omega arith) is_plain_byte _ (ap not (sym c.is_mark.ensures ∙ c.if-is_mark.false)) c.loop-i.invariant.1)

pub returns : goal.returns
returns c = let s = c.args.s.now in
    record { s_value = drop_end s _ (omega arith) ∙ sym (walk_ends (past_turn is_plain_byte) (λ u. []) tt s c.loop-i.i (omega arith)) ∙ c.loop-i.invariant.1; lower_bound = (omega arith, omega arith) }
