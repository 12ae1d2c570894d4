use Rattle.lists.specs.Keep.{Keeping}
use Rattle.lists.specs.Lent.{item_value, lent_in, SameRooms}
use lib.ListN.{length}
use Prim.Native.Nat.{◌-◌}
use Rattle.lists.proofs.take_items.Given as goal

abbrev pub invariant-loop-n : goal.invariant-loop-n
invariant-loop-n l = Keeping (item_value l.kind) l.b (lent_in l.kind l.initial.rooms) (lent_in l.kind l.rooms) l.i l.n × SameRooms l.initial.rooms l.rooms

abbrev pub decreases-loop-n : goal.decreases-loop-n
decreases-loop-n l = length l.b - l.i
