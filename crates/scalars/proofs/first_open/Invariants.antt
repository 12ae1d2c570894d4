use mathlib.Core.List.{[]}
use Rattle.record.specs.Text.{past, past_turn}
use Rattle.common.specs.Walk.{walk}
use Rattle.scalars.specs.Scalars.{unopening}
use mathlib.Core.Path.{◌≡◌}
use lib.ListN.{drop}
use Rattle.scalars.proofs.first_open.Given as goal

abbrev pub invariant-loop-i : goal.invariant-loop-i
invariant-loop-i l = walk (past_turn unopening) (λ u. []) tt (drop l.i l.t) ≡ past unopening l.t
