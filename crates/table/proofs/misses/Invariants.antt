use mathlib.Core.Path.{◌≡◌}
use Prim.Native.Nat.{◌+◌, ◌≤◌}
use Rattle.table.specs.Table.{AllIds}
use Rattle.table.proofs.misses.Given as goal

abbrev pub invariant-loop-i : goal.invariant-loop-i
invariant-loop-i l = (l.from ≤ l.i) × (l.i ≤ l.to) × (l.missed + l.from ≤ l.i) × (l.missed ≡ 0 → AllIds l.rows l.ids l.found l.from l.i) × (AllIds l.rows l.ids l.found l.from l.i → l.missed ≡ 0)
