use Rattle.lex.specs.PassedAtOnce.{left_to_search}
use Rattle.lex.specs.Search.{semicolon, record_end}
use Rattle.lex.specs.Right.Steps.{plainly}
use lib.ListN.{length, drop}
use mathlib.Core.Path.{◌≡◌}
use Prim.Native.Nat.{◌≤◌}
use Rattle.lex.proofs.find_record_end.Given as goal

abbrev pub invariant-loop-i : goal.invariant-loop-i
invariant-loop-i l = (l.i ≤ length l.s) × (plainly semicolon 5 (drop l.from l.s) 0 (drop l.i l.s) ≡ record_end (drop l.start l.s))

abbrev pub decreases-loop-i : goal.decreases-loop-i
decreases-loop-i l = left_to_search (length l.s) l.i l.near
