use Rattle.record.specs.Turns.{key_stops, key_goes}
use Rattle.record.specs.Text.{keyword, key_turn, unopened}
use Rattle.common.specs.Walk.{walk_ends}
use lib.ListN.{drop}
use borrow.Author.Tests.{eq-eqb, ne_eqb}
use native.Mathlib.Omega.{arith}
use mathlib.Core.Path.{sym, refl, ◌∙◌}
use Prim.Native.Nat.{◌+◌}
use Rattle.record.proofs.keyword_at.Goals.{then-not-is_space, else-not-is_space}
use Rattle.record.proofs.keyword_at.Goals as goal

-- the name
pub loop-i-init : goal.loop-i-init
unfolding keyword
loop-i-init c = (omega arith, omega arith, c.name_run-end.ensures.b_value)

pub returns-then-c-eq40 : goal.returns-then-c-eq40
returns-then-c-eq40 c = let b = c.args.b.now in
    (sym (key_stops b c.loop-i.i (omega arith) c.loop-i.end _ (eq-eqb _ _ c.if-c-eq40.true) c.loop-i.invariant.2), omega arith, omega arith)

pub loop-i-preserved : goal.loop-i-preserved
loop-i-preserved c = let b = c.args.b.now in
    let i = c.loop-i.i in
    elim c.if-not-is_space.branch [
      | then-not-is_space w ↦ (
        omega (arith, w.end-is),
        omega arith,
        rw w.end-is (key_goes b i (omega arith) c.loop-i.end (i + 1) _ (ne_eqb _ _ c.if-c-eq40.false) (rw (sym c.is_space.ensures ∙ w.if-not-is_space.true) refl) c.loop-i.invariant.2),
      )
      | else-not-is_space w ↦ (
        omega (arith, w.end-is),
        omega arith,
        rw w.end-is (key_goes b i (omega arith) c.loop-i.end c.loop-i.end _ (ne_eqb _ _ c.if-c-eq40.false) (rw (sym c.is_space.ensures ∙ w.if-not-is_space.false) refl) c.loop-i.invariant.2),
      )
    ]

pub returns : goal.returns
returns c = let b = c.args.b.now in
    sym c.loop-i.invariant.2 ∙ walk_ends key_turn (λ l. unopened) (drop c.loop-i.end b) b c.loop-i.i (omega arith)
