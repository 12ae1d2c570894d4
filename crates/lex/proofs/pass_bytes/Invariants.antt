use Rattle.lex.specs.Answer.{Lacks}
use Prim.Native.Nat.{◌-◌, ◌≤◌}
use Rattle.lex.proofs.pass_bytes.Given as goal

abbrev pub invariant-loop-i : goal.invariant-loop-i
invariant-loop-i l = (l.from ≤ l.i) × (l.i ≤ l.end) × Lacks l.b l.s l.from l.i

abbrev pub decreases-loop-i : goal.decreases-loop-i
decreases-loop-i l = l.end - l.i
