use Rattle.record.specs.Text.{past}
use Rattle.statement.specs.Tidy.{unended}
use lib.ListN.{length, drop}
use mathlib.Core.Path.{◌≡◌}
use Prim.Native.Nat.{◌≤◌}
use Rattle.statement.proofs.near_end.Given as goal

abbrev pub invariant-loop-i : goal.invariant-loop-i
invariant-loop-i l = ((l.from ≤ l.i) × (l.i ≤ length l.s)) × (past unended (drop l.i l.s) ≡ past unended (drop l.from l.s))
