use mathlib.Core.Path.{◌≡◌}
use Prim.Native.Nat.{◌≤◌}
use lib.ListN.{length}
use Rattle.table.specs.Table.{rows_laid}
use Rattle.rows_kept.specs.KeptRows.{kept_row_at, first_rows}
use Rattle.rows_kept.proofs.get_rows.Given as goal

abbrev pub invariant-loop-k : goal.invariant-loop-k
invariant-loop-k l = (l.k ≤ l.n) × (length l.rows ≡ length l.initial.rows) × (l.rows ≡ rows_laid (first_rows (kept_row_at l.bytes) l.k) l.initial.rows)
