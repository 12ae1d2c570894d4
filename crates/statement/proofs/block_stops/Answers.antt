use Rattle.common.specs.Noting.{noting_none, noting_next, noting_all}
use Rattle.common.specs.Tests.{neither}
use lib.Dec.{eqb}
use lib.ListN.{get_or}
use mathlib.Core.Path.{refl, ◌∙◌}
use Rattle.statement.specs.UsualLaws.{spoken_goes}
use native.Mathlib.Omega.{arith}
use mathlib.Core.Bool.{◌||◌}
use Prim.Native.Nat.{◌+◌}
use Rattle.statement.proofs.block_stops.Goals as goal

pub loop-k-init : goal.loop-k-init
loop-k-init c = noting_none refl

pub loop-k-preserved : goal.loop-k-preserved
loop-k-preserved c =
    let l = c.loop-k in
    let a = c.args in
    let j = a.i + l.k in
    let b = get_or a.s.now j 0 in
    noting_next l.invariant (omega arith) (λ e. let (x, y) = neither (l.quote || eqb b 39) (l.end || eqb b 59) e in
    let (q, q₁) = neither l.quote (eqb b 39) x in
    let (n, n₁) = neither l.end (eqb b 59) y in
    (rw (q, n) refl, λ p. spoken_goes a.s.now j (omega arith) (rw (q₁, n₁) refl) ∙ p))

pub returns : goal.returns
returns c = noting_all c.loop-k.invariant (omega arith)
