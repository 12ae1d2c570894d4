use Prim.Native.Nat.{ℕ, ◌+◌, ◌≤◌, ◌<◌}
use Rattle.table.specs.Table.{AllBelow}
use Rattle.table.proofs.highest.Given as goal

abbrev pub invariant-loop-i : goal.invariant-loop-i
invariant-loop-i l = (l.from ≤ l.i) × (l.i ≤ l.to) × AllBelow (l.top + 1) l.found l.from l.i × ((m : ℕ) → 0 < m → AllBelow m l.found l.from l.i → l.top < m)
