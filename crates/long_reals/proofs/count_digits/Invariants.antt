use Prim.Native.Nat.{◌+◌, ◌≤◌}
use mathlib.Core.Path.{◌≡◌}
use lib.ListN.{drop}
use Rattle.long_reals.specs.Digits.{digits_in}
use Rattle.long_reals.proofs.count_digits.Given as goal

abbrev pub invariant-loop-i : goal.invariant-loop-i
invariant-loop-i l = (l.n ≤ l.i) × (l.n + digits_in (drop l.i l.t) ≡ digits_in (drop l.from l.t))
