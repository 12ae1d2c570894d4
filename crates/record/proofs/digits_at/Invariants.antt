use Rattle.record.specs.Text.{digit_turn, number_and_rest, number_from}
use Rattle.common.specs.Walk.{walk}
use lib.ListN.{length, drop}
use mathlib.Core.List.{[]}
use mathlib.Core.Path.{◌≡◌}
use Prim.Native.Nat.{◌≤◌, max}
use Rattle.record.proofs.digits_at.Given as goal

abbrev pub invariant-loop-i : goal.invariant-loop-i
invariant-loop-i l = (l.from ≤ l.i) × (l.i ≤ max l.from (length l.b)) × (l.n ≤ 4294967295) × (walk digit_turn (λ m. number_and_rest m []) l.n (drop l.i l.b) ≡ number_from 0 (drop l.from l.b))
