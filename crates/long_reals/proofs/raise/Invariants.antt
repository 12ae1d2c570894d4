use Prim.Native.Nat.{◌+◌, ◌*◌, ◌^◌}
use mathlib.Core.Path.{◌≡◌}
use lib.ListN.{take}
use Rattle.limbs.specs.Worth.{worth}
use Rattle.long_reals.proofs.raise.Given as goal

abbrev pub invariant-loop-i : goal.invariant-loop-i
invariant-loop-i l = worth (take (l.used + l.i) l.a) ≡ worth (take l.used l.initial.a) * 5 ^ (13 * l.i)
