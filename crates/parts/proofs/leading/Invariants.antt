use Rattle.record.specs.Text.{past, past_turn}
use Rattle.parts.specs.Rules.{separator}
use Rattle.common.specs.Walk.{walk}
use lib.ListN.{length, drop}
use mathlib.Core.List.{[]}
use mathlib.Core.Path.{◌≡◌}
use Prim.Native.Nat.{◌≤◌}
use Rattle.parts.proofs.leading.Given as goal

abbrev pub invariant-loop-i : goal.invariant-loop-i
invariant-loop-i l = (l.i ≤ length l.t) × (walk (past_turn separator) (λ u. []) tt (drop l.i l.t) ≡ past separator l.t)
