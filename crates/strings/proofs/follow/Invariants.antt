use Prim.Native.Nat.{◌≤◌}
use mathlib.Core.Path.{◌≡◌}
use mathlib.Core.Bool.{true}
use lib.ListN.{length, take}
use lib.Seq.{paste}
use Rattle.strings.specs.Text.{plain}
use Rattle.strings.proofs.follow.Given as goal

abbrev pub invariant-loop-k : goal.invariant-loop-k
invariant-loop-k l = (l.k ≤ l.m) × (length l.out ≡ length l.initial.out) × (plain (take l.k l.s) ≡ true) × (l.out ≡ paste l.initial.out l.at l.s l.k)
