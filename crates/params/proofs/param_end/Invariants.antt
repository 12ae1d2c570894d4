use Rattle.params.specs.Seek.{search_from}
use Rattle.params.specs.ParameterEnd.{cut_of}
use lib.ListN.{length, drop}
use Prim.Native.Nat.{◌-◌, ◌≤◌}
use mathlib.Core.Path.{◌≡◌}
use Rattle.params.proofs.param_end.Given as goal

abbrev pub invariant-loop-s : goal.invariant-loop-s
invariant-loop-s l = (l.from ≤ l.s.solid) × (l.s.solid ≤ l.s.at) × (l.s.at ≤ length l.part) × (l.s.depth ≤ l.s.at) × (search_from l.part l.s.at l.s.solid l.s.depth ≡ cut_of (drop l.start l.part))

abbrev pub decreases-loop-s : goal.decreases-loop-s
decreases-loop-s l = length l.part - l.s.at
