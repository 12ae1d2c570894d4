use Rattle.common.specs.Lists.{drop_end}
use Rattle.record.specs.Turns.{same_lengths, same_stops, same_goes}
use Rattle.record.specs.Byte.{upper}
use lib.ListN.{length-map}
use borrow.Author.Tests.{eq-eqb, ne_eqb}
use native.Mathlib.Omega.{arith}
use mathlib.Core.List.{map}
use mathlib.Core.Path.{sym, refl, ◌∙◌}
use Rattle.record.proofs.is_word.Goals as goal

pub returns-then-t-w : goal.returns-then-t-w
returns-then-t-w c = let t = c.args.t.now in
    let w = c.args.w.now in
    sym (same_lengths (map upper t) w (λ e. c.if-t-w.true (sym (length-map t upper) ∙ e)))

pub loop-i-init : goal.loop-i-init
loop-i-init c = (omega arith, refl)

pub returns-then-upper_of-w : goal.returns-then-upper_of-w
returns-then-upper_of-w c = let a = c.args in
    same_stops upper a.t.now a.w.now c.loop-i.i _ (omega arith) (omega arith) (ne_eqb _ _ (λ e. c.if-upper_of-w.true (c.upper_of.ensures ∙ e))) c.loop-i.invariant.1

pub loop-i-preserved : goal.loop-i-preserved
loop-i-preserved c = let a = c.args in
    (omega arith, same_goes upper a.t.now a.w.now c.loop-i.i _ (omega arith) (omega arith) (eq-eqb _ _ (sym c.upper_of.ensures ∙ c.if-upper_of-w.false)) c.loop-i.invariant.1)

pub returns : goal.returns
returns c = let a = c.args in
    sym (rw (drop_end a.t.now c.loop-i.i (omega arith), drop_end a.w.now c.loop-i.i (omega arith)) refl) ∙ c.loop-i.invariant.1
