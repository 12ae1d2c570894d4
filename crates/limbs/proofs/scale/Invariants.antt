use Rattle.limbs.specs.Steps.{Scaling}
use Rattle.limbs.proofs.scale.Given as goal

abbrev pub invariant-loop-x : goal.invariant-loop-x
invariant-loop-x l = Scaling l.initial.a l.by l.add l.a l.carry l.x-index
