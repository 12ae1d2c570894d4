use Rattle.record.specs.Form.{All}
use Rattle.lex.specs.Byte.{white}
use lib.ListN.{length, drop}
use Prim.Native.Nat.{◌≤◌, min}
use Rattle.record.proofs.trail_at.Given as goal

abbrev pub invariant-loop-last : goal.invariant-loop-last
invariant-loop-last l = (min l.from (length l.b) ≤ l.last) × (l.last ≤ length l.b) × All white (drop l.last l.b)
