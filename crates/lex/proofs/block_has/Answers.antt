use Rattle.common.specs.Noting.{noting_none, noting_next, noting_all}
use Rattle.common.specs.Tests.{neither}
use borrow.Author.Tests.{eqb-false}
use lib.Dec.{eqb}
use lib.ListN.{get_or}
use Rattle.lex.specs.ByteSearch.{lacks_none, lacks_next}
use Prim.Native.Nat.{◌+◌}
use native.Mathlib.Omega.{arith}
use Rattle.lex.proofs.block_has.Goals as goal

pub loop-k-init : goal.loop-k-init
loop-k-init c = noting_none (lacks_none _ _ _ _ (omega arith))

pub loop-k-preserved : goal.loop-k-preserved
loop-k-preserved c =
    let l = c.loop-k in
    let a = c.args in
    let j = a.at + l.k in
    noting_next l.invariant (omega arith) (λ e. let (h, t) = neither l.hit (eqb (get_or a.s.now j 0) a.b) e in (h, λ p. lacks_next a.b a.s.now a.at j p (eqb-false _ _ t)))

pub returns : goal.returns
returns c = noting_all c.loop-k.invariant (omega arith)
