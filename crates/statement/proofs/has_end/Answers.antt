use Rattle.common.specs.Noting.{noting_none, noting_next, noting_all}
use Rattle.common.specs.Tests.{neither}
use borrow.Author.Tests.{eqb-false}
use lib.Dec.{eqb}
use lib.ListN.{get_or}
use mathlib.Core.Path.{refl, ◌∙◌}
use Rattle.statement.specs.TidyLaws.{end_goes}
use native.Mathlib.Omega.{arith}
use Prim.Native.Nat.{◌+◌}
use Rattle.statement.proofs.has_end.Goals as goal

pub loop-k-init : goal.loop-k-init
loop-k-init c = noting_none refl

pub loop-k-preserved : goal.loop-k-preserved
loop-k-preserved c =
    let l = c.loop-k in
    let a = c.args in
    let j = a.i + l.k in
    noting_next l.invariant (omega arith) (λ e. let (h, t) = neither l.hit (eqb (get_or a.s.now j 0) 59) e in (h, λ p. end_goes a.s.now j (omega arith) (eqb-false _ _ t) ∙ p))

pub returns : goal.returns
returns c = noting_all c.loop-k.invariant (omega arith)
