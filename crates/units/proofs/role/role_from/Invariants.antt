use Prim.Native.Nat.{◌+◌, ◌-◌}
use lib.ListN.{length}
use Rattle.units.specs.Laws.{RoleSeeking}
use Rattle.units.proofs.role.role_from.Given as goal

abbrev pub invariant-loop-p : goal.invariant-loop-p
invariant-loop-p l = RoleSeeking l.file l.start l.end l.i l.got

abbrev pub decreases-loop-p : goal.decreases-loop-p
decreases-loop-p l = length l.file + 1 - l.i
