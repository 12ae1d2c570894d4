use Rattle.lex.specs.PassedAtOnce.{BlockCounted}
use mathlib.Core.Path.{◌≡◌}
use mathlib.Core.Bool.{false, ◌||◌}
use Prim.Native.Nat.{◌+◌, ◌≤◌}
use Rattle.lex.proofs.block_tally.Given as goal

abbrev pub invariant-loop-k : goal.invariant-loop-k
invariant-loop-k l = (l.k ≤ 64) × (l.up ≤ l.k) × (l.down ≤ l.k) × ((l.quote || l.slash) ≡ false → BlockCounted l.s l.at (l.at + l.k) l.up l.down)
