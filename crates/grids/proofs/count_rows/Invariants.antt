use Rattle.lists.specs.Laws.{tally}
use Rattle.lists.specs.Items.{items_from}
use Rattle.lists.specs.Answer.{fated}
use Rattle.grids.specs.Grid.{size, add_row, row_of}
use lib.ListN.{length, drop}
use mathlib.Core.Path.{◌≡◌}
use Prim.Native.Nat.{suc, ◌-◌, ◌≤◌}
use Rattle.grids.proofs.count_rows.Given as goal

abbrev pub invariant-loop-k : goal.invariant-loop-k
invariant-loop-k l = (l.rows ≤ l.i) × (l.numbers ≤ l.i) × (l.i ≤ length l.b) × (fated (tally add_row (size l.rows l.numbers)) (items_from (suc (length l.b) - l.rows) (row_of l.kind) l.i (drop l.i l.b)) ≡ fated (tally add_row (size 0 0)) (items_from (suc (length l.b)) (row_of l.kind) 0 l.b))

abbrev pub decreases-loop-k : goal.decreases-loop-k
decreases-loop-k l = length l.b - l.i
