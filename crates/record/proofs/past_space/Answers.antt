use Rattle.common.specs.Lists.{drop_end}
use Rattle.record.specs.Turns.{past_stops, past_goes, above_white}
use Rattle.record.specs.Text.{past, past_turn}
use Rattle.lex.specs.Byte.{white}
use Rattle.common.specs.Walk.{walk_ends}
use native.Mathlib.Omega.{arith}
use mathlib.Core.List.{[]}
use mathlib.Core.Path.{sym, refl, ◌∙◌}
use Rattle.record.proofs.past_space.Goals as goal

pub loop-i-init : goal.loop-i-init
unfolding past
loop-i-init c = ((omega arith, omega arith), refl)

pub returns-then-c-gt32 : goal.returns-then-c-gt32
returns-then-c-gt32 c = let b = c.args.b.now in
    record { b_value = past_stops b c.loop-i.i (omega arith) white _ (above_white b c.loop-i.i (omega arith) c.if-c-gt32.true) c.loop-i.invariant.1; lower_bound = omega arith; upper_bound = omega arith }

pub returns-then-not-is_space : goal.returns-then-not-is_space
returns-then-not-is_space c = let b = c.args.b.now in
    record { b_value = past_stops b c.loop-i.i (omega arith) white _ (sym c.is_space.ensures ∙ c.if-not-is_space.true) c.loop-i.invariant.1; lower_bound = omega arith; upper_bound = omega arith }

pub loop-i-preserved : goal.loop-i-preserved
loop-i-preserved c = let b = c.args.b.now in
    ((omega arith, omega arith), past_goes b c.loop-i.i (omega arith) white _ (sym c.is_space.ensures ∙ c.if-not-is_space.false) c.loop-i.invariant.1)

pub returns : goal.returns
returns c = let b = c.args.b.now in
    record { b_value = drop_end b _ (omega arith) ∙ sym (walk_ends (past_turn white) (λ u. []) tt b c.loop-i.i (omega arith)) ∙ c.loop-i.invariant.1; lower_bound = omega arith; upper_bound = omega arith }
