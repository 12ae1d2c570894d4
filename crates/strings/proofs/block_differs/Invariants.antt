use Rattle.common.specs.Noting.{Noting}
use mathlib.Core.Path.{◌≡◌}
use mathlib.Core.Bool.{true}
use lib.ListN.{take}
use Rattle.strings.specs.Text.{plain}
use Rattle.strings.proofs.block_differs.Given as goal

abbrev pub invariant-loop-k : goal.invariant-loop-k
invariant-loop-k l = Noting (λ j. plain (take l.at l.s) ≡ true → plain (take j l.s) ≡ true) 64 l.hit l.at l.k
