use Rattle.find_many.specs.Sweep.{Sweeping}
use Rattle.find_many.proofs.sweep.Given as goal

abbrev pub invariant-loop-i : goal.invariant-loop-i
invariant-loop-i g l = Sweeping (λ k r v. goal.F-post g l.tell k r v) l.ids l.initial.found l.from l.to l.found l.i
