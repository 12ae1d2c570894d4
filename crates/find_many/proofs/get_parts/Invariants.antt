use Rattle.find_many.specs.Hints.{searched_number}
use Rattle.find_many.specs.Sweep.{Swept}
use mathlib.Core.Path.{◌≡◌}
use lib.ListN.{length}
use Prim.Native.Nat.{◌-◌, ◌≤◌}
use Rattle.find_many.proofs.get_parts.Given as goal

abbrev pub invariant-loop-i : goal.invariant-loop-i
invariant-loop-i l = (l.i ≤ length l.ids) × (length l.ids ≤ length l.initial.found) × Swept (λ k v. v ≡ searched_number l.rows l.slots l.b k) l.ids l.initial.found 0 l.i l.found

abbrev pub decreases-loop-i : goal.decreases-loop-i
decreases-loop-i l = length l.ids - l.i
