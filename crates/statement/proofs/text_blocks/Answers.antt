use native.Mathlib.Omega.{arith}
use mathlib.Core.Path.{refl, ◌∙◌}
use Rattle.statement.proofs.text_blocks.Goals as goal

pub loop-i-init : goal.loop-i-init
loop-i-init c = ((omega arith, omega arith), refl)

pub returns-then-block_stops : goal.returns-then-block_stops
returns-then-block_stops c = let l = c.loop-i in record { s_value = l.invariant.1; lower_bound = (omega arith, omega arith) }

pub loop-i-preserved : goal.loop-i-preserved
loop-i-preserved c = let l = c.loop-i in ((omega arith, omega arith), c.block_stops.ensures c.if-block_stops.false ∙ l.invariant.1)

pub returns : goal.returns
returns c = let l = c.loop-i in record { s_value = l.invariant.1; lower_bound = (omega arith, omega arith) }
