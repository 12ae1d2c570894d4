use Prim.Native.Nat.{◌-◌}
use lib.ListN.{length}
use Rattle.needs.specs.Laws.{Counting}
use Rattle.needs.proofs.pass.Given as goal

abbrev pub invariant-read : goal.invariant-read
invariant-read l = Counting l.s l.i l.section l.headers l.records l.max l.most

abbrev pub decreases-read : goal.decreases-read
decreases-read l = length l.s - l.i
