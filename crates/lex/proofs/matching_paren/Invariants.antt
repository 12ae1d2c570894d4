use Rattle.lex.specs.PassedAtOnce.{left_to_search}
use Rattle.lex.specs.Search.{paren, closing}
use Rattle.lex.specs.Right.Steps.{plainly}
use lib.ListN.{length, drop}
use mathlib.Core.Path.{◌≡◌}
use Prim.Native.Nat.{◌≤◌}
use Rattle.lex.proofs.matching_paren.Given as goal

abbrev pub invariant-loop-i : goal.invariant-loop-i
invariant-loop-i l = ((l.i ≤ length l.s) × (l.depth ≤ l.i)) × (plainly paren 6 (drop l.from l.s) l.depth (drop l.i l.s) ≡ closing (drop l.opening l.s))

abbrev pub decreases-loop-i : goal.decreases-loop-i
decreases-loop-i l = left_to_search (length l.s) l.i l.near
