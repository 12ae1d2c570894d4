use mathlib.Core.Path.{◌≡◌}
use Prim.Native.Nat.{◌≤◌}
use lib.ListN.{length}
use Rattle.table.specs.Table.{row_numbers}
use Rattle.rows_kept.specs.KeptRows.{first_rows, bytes_after}
use Rattle.rows_kept.proofs.put_rows.Given as goal

abbrev pub invariant-loop-k : goal.invariant-loop-k
invariant-loop-k l = (l.k ≤ l.n) × (length l.out ≡ length l.initial.out) × (l.out ≡ bytes_after (first_rows (row_numbers l.rows) l.k) l.initial.out)
