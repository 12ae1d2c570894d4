use Rattle.lex.specs.Seek.{under_less}
use native.Mathlib.Numerals.{add-one}
use borrow.Author.Tests.{eq-eqb, ne_eqb}
use Rattle.lex.proofs.depth_after.Goals as goal

pub returns-then-b-eq40 : goal.returns-then-b-eq40
returns-then-b-eq40 c = simp (eq-eqb _ _ c.if-b-eq40.true, add-one)

pub returns-then-b-ne41 : goal.returns-then-b-ne41
returns-then-b-ne41 c = simp (ne_eqb _ _ c.if-b-eq40.false, ne_eqb _ _ c.if-b-ne41.true)

pub returns-then-depth-eq0 : goal.returns-then-depth-eq0
returns-then-depth-eq0 c = simp (ne_eqb _ _ c.if-b-eq40.false, eq-eqb _ _ c.if-b-ne41.false, c.if-depth-eq0.true)

pub returns : goal.returns
returns c = simp (ne_eqb _ _ c.if-b-eq40.false, eq-eqb _ _ c.if-b-ne41.false) (under_less _ c.if-depth-eq0.false)
