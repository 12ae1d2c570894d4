use Rattle.std.proofs.Common.{◌-◌, ◌≤◌, min, length}
use Rattle.lex.specs.Remark.{Unshut}
use Rattle.lex.proofs.comment_end.Given as goal

abbrev pub invariant-loop-from : goal.invariant-loop-from
invariant-loop-from l = (min l.from (length l.s) ≤ l.i) × (l.i ≤ length l.s) × Unshut l.s l.from l.i

abbrev pub decreases-loop-from : goal.decreases-loop-from
decreases-loop-from l = length l.s - l.i
