use mathlib.Core.Path.{◌≡◌}
use mathlib.Core.Bool.{true}
use Prim.Native.Nat.{◌≤◌}
use Rattle.table.specs.Table.{row_numbers}
use Rattle.rows_kept.specs.KeptRows.{fine_all}
use Rattle.rows_kept.proofs.fine_table.Given as goal

abbrev pub invariant-loop-k : goal.invariant-loop-k
invariant-loop-k l = (l.k ≤ l.n) × (fine_all l.len (row_numbers l.rows) l.k ≡ true)
