use Rattle.statement.specs.Usual.{Way}
use Prim.Native.Nat.{◌-◌, ◌≤◌}
use lib.ListN.{length, drop}
use Rattle.statement.proofs.usual_close.Given as goal

abbrev pub invariant-loop-from : goal.invariant-loop-from
invariant-loop-from l = (l.from ≤ l.i) × (l.i ≤ length l.s) × (l.depth ≤ l.i) × Way 0 l.depth (drop l.from l.s) (drop l.i l.s)

abbrev pub decreases-loop-from : goal.decreases-loop-from
decreases-loop-from l = length l.s - l.i
