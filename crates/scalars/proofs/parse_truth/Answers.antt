use mathlib.Core.Path.{refl}
use Rattle.scalars.specs.Scalars.{truth_of}
use Rattle.scalars.proofs.parse_truth.Goals as goal

pub returns-then-eq : goal.returns-then-eq
unfolding truth_of
returns-then-eq c = rw (← (rw c.as_slice.ensures at c.eq.ensures), c.if-eq.true) refl

pub returns-then-eq-2 : goal.returns-then-eq-2
unfolding truth_of
returns-then-eq-2 c = rw (← (rw c.as_slice.ensures at c.eq.ensures), c.if-eq.false, ← (rw c.as_slice-2.ensures at c.eq-2.ensures), c.if-eq-2.true) refl

pub returns-then-eq-3 : goal.returns-then-eq-3
unfolding truth_of
returns-then-eq-3 c = rw (← (rw c.as_slice.ensures at c.eq.ensures), c.if-eq.false, ← (rw c.as_slice-2.ensures at c.eq-2.ensures), c.if-eq-2.false, ← (rw c.as_slice-3.ensures at c.eq-3.ensures), c.if-eq-3.true) refl

pub returns : goal.returns
unfolding truth_of
returns c = rw (← (rw c.as_slice.ensures at c.eq.ensures), c.if-eq.false, ← (rw c.as_slice-2.ensures at c.eq-2.ensures), c.if-eq-2.false, ← (rw c.as_slice-3.ensures at c.eq-3.ensures), c.if-eq-3.false) refl
