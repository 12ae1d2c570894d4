use Rattle.std.proofs.Common.{◌+◌, ◌*◌, ◌≤◌, length, Some}
use Rattle.lex.specs.Blocks.{BlocksPassed}
use Rattle.lex.proofs.pass_blocks.Given as goal

abbrev pub invariant-loop-k : goal.invariant-loop-k
invariant-loop-k g l = BlocksPassed (λ i t u. (i + 64 ≤ length l.s) × goal.F-post g l.step i t (Some u)) l.start l.fn.first (l.start + 64 * l.k) l.state
