use Rattle.reals.specs.DigitLoop.{NumberReading}
use Rattle.reals.proofs.digits_from.Given as goal

abbrev pub invariant-loop-i : goal.invariant-loop-i
invariant-loop-i l = NumberReading l.t l.at l.from l.cap l.n l.i
