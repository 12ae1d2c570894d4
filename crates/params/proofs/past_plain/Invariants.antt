use Rattle.params.specs.Seek.{search_from}
use Prim.Native.Nat.{ℕ}
use mathlib.Core.Path.{◌≡◌}
use Rattle.params.proofs.past_plain.Given as goal

abbrev pub invariant-loop-j : goal.invariant-loop-j
invariant-loop-j l = (d : ℕ) → search_from l.part l.i l.i d ≡ search_from l.part l.j l.j d
