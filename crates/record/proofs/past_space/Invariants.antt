use Rattle.record.specs.Text.{past, past_turn}
use Rattle.lex.specs.Byte.{white}
use Rattle.common.specs.Walk.{walk}
use lib.ListN.{length, drop}
use mathlib.Core.List.{[]}
use mathlib.Core.Path.{◌≡◌}
use Prim.Native.Nat.{◌≤◌}
use Rattle.record.proofs.past_space.Given as goal

abbrev pub invariant-loop-i : goal.invariant-loop-i
invariant-loop-i l = ((l.from ≤ l.i) × (l.i ≤ length l.b)) × (walk (past_turn white) (λ u. []) tt (drop l.i l.b) ≡ past white (drop l.from l.b))
