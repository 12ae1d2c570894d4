use mathlib.Core.Path.{◌≡◌}
use lib.ListN.{drop}
use Rattle.long_reals.specs.Number.{number_in}
use Rattle.long_reals.proofs.first_digit.Given as goal

abbrev pub invariant-loop-i : goal.invariant-loop-i
invariant-loop-i l = number_in 0 (drop l.i l.t) ≡ number_in 0 (drop l.from l.t)
