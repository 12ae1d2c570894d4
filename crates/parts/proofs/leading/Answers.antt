use Rattle.common.specs.Lists.{drop_end}
use Rattle.record.specs.Turns.{past_stops, past_goes}
use Rattle.record.specs.Text.{past, past_turn}
use Rattle.parts.specs.Rules.{separator}
use Rattle.common.specs.Walk.{walk_ends}
use native.Mathlib.Omega.{arith}
use mathlib.Core.List.{[]}
use mathlib.Core.Path.{sym, refl, ◌∙◌}
use Rattle.parts.proofs.leading.Goals as goal

pub loop-i-init : goal.loop-i-init
unfolding past
loop-i-init c = (omega arith, refl)

pub returns-then-not-separates : goal.returns-then-not-separates
returns-then-not-separates c = record { t_value = past_stops c.args.t.now c.loop-i.i (omega arith) separator _ (sym c.separates.ensures ∙ c.if-not-separates.true) c.loop-i.invariant.1; upper_bound = omega arith }

pub loop-i-preserved : goal.loop-i-preserved
loop-i-preserved c = (omega arith, past_goes c.args.t.now c.loop-i.i (omega arith) separator _ (sym c.separates.ensures ∙ c.if-not-separates.false) c.loop-i.invariant.1)

pub returns : goal.returns
returns c = record { t_value = drop_end c.args.t.now _ (omega arith) ∙ sym (walk_ends (past_turn separator) (λ u. []) tt c.args.t.now c.loop-i.i (omega arith)) ∙ c.loop-i.invariant.1; upper_bound = omega arith }
