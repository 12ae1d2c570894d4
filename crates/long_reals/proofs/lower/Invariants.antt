use Prim.Native.Nat.{◌*◌, ◌^◌}
use Rattle.limbs.specs.Worth.{worth}
use Rattle.long_reals.specs.RoomFraction.{Lowered}
use Rattle.long_reals.proofs.lower.Given as goal

abbrev pub invariant-loop-step : goal.invariant-loop-step
invariant-loop-step l = Lowered (worth l.initial.a) (5 ^ (13 * l._step)) (worth l.a) l.more
