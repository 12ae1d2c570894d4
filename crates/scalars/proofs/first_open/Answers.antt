use Rattle.record.specs.Text.{past}
use Rattle.scalars.proofs.first_open.Goals as goal
use Rattle.common.specs.Lists.{drop_end}
use Rattle.record.specs.Text.{past_turn}
use Rattle.record.specs.Turns.{past_stops, past_goes}
use Rattle.common.specs.Walk.{walk_ends}
use Rattle.scalars.specs.Scalars.{unopening}
use borrow.Author.Tests.{eq-eqb, ne_eqb}
use mathlib.Core.List.{[]}
use mathlib.Core.Path.{◌≡◌, refl, ◌∙◌, sym, ap}
use mathlib.Core.Bool.{not}
use lib.ListN.{length}
use native.Mathlib.Omega.{arith}

pub loop-i-init : goal.loop-i-init
unfolding past
loop-i-init c = refl

pub returns-then-t-i-eq40-clause-t_value : goal.returns-then-t-i-eq40-clause-t_value
returns-then-t-i-eq40-clause-t_value c = let b = c.args.t.now in
    past_stops b c.loop-i.i (omega arith) unopening _ (ap not (eq-eqb _ _ c.if-t-i-eq40.true)) c.loop-i.invariant

pub loop-i-preserved : goal.loop-i-preserved
loop-i-preserved c = let b = c.args.t.now in
    past_goes b c.loop-i.i (omega arith) unopening _ (ap not (ne_eqb _ _ c.if-t-i-eq40.false)) c.loop-i.invariant

pub returns-clause-t_value : goal.returns-clause-t_value
returns-clause-t_value c = let l = c.loop-i in
    let b = c.args.t.now in
    let k : l.i ≡ length b = omega arith in
    drop_end b (length b) (omega arith) ∙ sym (walk_ends (past_turn unopening) (λ u. []) tt b (length b) (omega arith)) ∙ rw k at l.invariant
