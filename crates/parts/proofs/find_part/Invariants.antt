use Prim.Native.Nat.{◌+◌, ◌-◌}
use lib.ListN.{length}
use Rattle.parts.specs.Laws.{Sifting}
use Rattle.parts.proofs.find_part.Given as goal

abbrev pub invariant-loop-p : goal.invariant-loop-p
invariant-loop-p l = Sifting l.s l.kind l.start l.end l.i l.got

abbrev pub decreases-loop-p : goal.decreases-loop-p
decreases-loop-p l = length l.s + 1 - l.i
