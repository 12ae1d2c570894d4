use mathlib.Core.Path.{◌≡◌}
use mathlib.Core.Bool.{true}
use Prim.Native.Nat.{◌≤◌}
use Rattle.rows_kept.specs.KeptRows.{fine_all, kept_row_at}
use Rattle.rows_kept.proofs.fine_bytes.Given as goal

abbrev pub invariant-loop-k : goal.invariant-loop-k
invariant-loop-k l = (l.k ≤ l.n) × (fine_all l.len (kept_row_at l.bytes) l.k ≡ true)
