use Rattle.limbs.specs.Steps.{Dividing}
use Rattle.limbs.proofs.divide.Given as goal

abbrev pub invariant-loop-i : goal.invariant-loop-i
invariant-loop-i l = Dividing l.initial.a l.by l.a l.rest l.i
