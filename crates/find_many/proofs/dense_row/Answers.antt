use mathlib.Core.Logic.{inl, inr}
use mathlib.Core.Path.{refl}
use Rattle.find_many.proofs.dense_row.Goals as goal

pub returns-then-id-first : goal.returns-then-id-first
returns-then-id-first c = inl refl

pub returns-else-id-first : goal.returns-else-id-first
returns-else-id-first c = inr (c.if-id-first.false, refl)
