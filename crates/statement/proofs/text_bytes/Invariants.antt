use Rattle.record.specs.Text.{past}
use Rattle.statement.specs.Usual.{spoken}
use lib.ListN.{drop}
use mathlib.Core.Path.{◌≡◌}
use Prim.Native.Nat.{◌≤◌}
use Rattle.statement.proofs.text_bytes.Given as goal

abbrev pub invariant-loop-i : goal.invariant-loop-i
invariant-loop-i l = ((l.from ≤ l.i) × (l.i ≤ l.end)) × (past spoken (drop l.i l.s) ≡ past spoken (drop l.from l.s))
