use Prim.Native.Nat.{◌+◌}
use Rattle.factors.proofs.+length_at_measure_in_mm.Given as goal

-- the two take turns on one chain: a unit leads to a measure that has one link less left
abbrev pub decreases-length_at : goal.decreases-length_at
decreases-length_at l = l.left + l.left

abbrev pub decreases-measure_in_mm : goal.decreases-measure_in_mm
decreases-measure_in_mm l = l.left + l.left + 1
