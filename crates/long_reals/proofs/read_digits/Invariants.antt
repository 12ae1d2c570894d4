use Rattle.long_reals.specs.Steps.{DigitsReading}
use Rattle.long_reals.proofs.read_digits.Given as goal

abbrev pub invariant-loop-i : goal.invariant-loop-i
invariant-loop-i l = DigitsReading l.t l.from l.count l.a l.used l.held l.weight l.left l.i
