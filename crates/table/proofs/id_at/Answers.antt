use Prim.Native.Nat.{ℕ}
use mathlib.Core.Path.{sym, ◌∙◌, ap}
use native.Mathlib.Omega.{arith}
use lib.ListN.{get_or}
use Rattle.table.specs.Laws.{field_there, field_none}
use Rattle.table.proofs.id_at.Goals as goal

pub returns-then-at-rows : goal.returns-then-at-rows
returns-then-at-rows c = let h = c.if-at-rows.true in sym (field_there 6 c.args.rows.now c.args.r (omega (arith, h)) 0 ∙ ap (λ (z : ℕ). get_or c.args.rows.now z 0) (omega arith))

pub returns-else-at-rows : goal.returns-else-at-rows
returns-else-at-rows c = let h = c.if-at-rows.false in sym (field_none 6 c.args.rows.now c.args.r (omega (arith, h)) 0)
