use mathlib.Core.Path.{◌≡◌}
use lib.ListN.{take}
use Rattle.limbs.specs.Worth.{worth}
use Rattle.limbs.proofs.highest.Given as goal

abbrev pub invariant-loop-i : goal.invariant-loop-i
invariant-loop-i l = worth (take l.i l.a) ≡ worth l.a
