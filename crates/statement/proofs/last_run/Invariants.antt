use Rattle.record.specs.Text.{past, past_turn}
use Rattle.statement.specs.Usual.{is_plain_byte}
use Rattle.common.specs.Walk.{walk}
use lib.ListN.{length, drop}
use mathlib.Core.List.{[]}
use mathlib.Core.Path.{◌≡◌}
use Prim.Native.Nat.{◌≤◌}
use Rattle.statement.proofs.last_run.Given as goal

abbrev pub invariant-loop-i : goal.invariant-loop-i
invariant-loop-i l = ((l.from ≤ l.i) × (l.i ≤ length l.s)) × (walk (past_turn is_plain_byte) (λ u. []) tt (drop l.i l.s) ≡ past is_plain_byte (drop l.from l.s))
