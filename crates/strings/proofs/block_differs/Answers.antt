use Rattle.common.specs.Noting.{noting_none, noting_next, noting_all}
use Prim.Native.Nat.{◌+◌}
use mathlib.Core.Path.{sym, ◌∙◌}
use native.Mathlib.Omega.{arith}
use Rattle.common.specs.Tests.{neither}
use Rattle.strings.specs.PlainRuns.{plain_more}
use Rattle.strings.proofs.block_differs.Goals as goal

pub loop-k-init : goal.loop-k-init
loop-k-init c = noting_none (λ p. p)

pub loop-k-preserved : goal.loop-k-preserved
loop-k-preserved c =
    let l = c.loop-k in
    let a = c.args in
    let s = a.s.now in
    let j = a.at + l.k in
    noting_next l.invariant (omega arith) (λ e. let (h, t) = neither l.hit c.is_special-hit.result e in (h, λ f p. plain_more s j (omega arith) (sym c.is_special-hit.ensures ∙ t) (f p)))

pub returns : goal.returns
returns c = noting_all c.loop-k.invariant (omega arith)
