use Prim.Native.Nat.{◌-◌}
use lib.ListN.{length}
use Rattle.strings.specs.Steps.{GroupsReading}
use Rattle.strings.proofs.groups.Given as goal

abbrev pub invariant-loop-i : goal.invariant-loop-i
invariant-loop-i g l = GroupsReading l.width l.s l.at l.initial.out l.i l.n l.out

abbrev pub decreases-loop-i : goal.decreases-loop-i
decreases-loop-i g l = length l.s - l.i
