use Rattle.common.specs.Noting.{noting_none, noting_next, noting_all}
use Rattle.common.specs.Tests.{neither}
use lib.Dec.{eqb}
use lib.ListN.{get_or}
use Rattle.lex.specs.PassedAtOnce.{quiet_byte}
use mathlib.Core.Path.{refl}
use mathlib.Core.Bool.{◌||◌}
use Prim.Native.Nat.{◌+◌}
use native.Mathlib.Omega.{arith}
use Rattle.lex.proofs.block_ends.Goals as goal

pub loop-k-init : goal.loop-k-init
loop-k-init c = noting_none (λ n w. refl)

pub loop-k-preserved : goal.loop-k-preserved
loop-k-preserved c =
    let l = c.loop-k in
    let a = c.args in
    let s = a.s.now in
    let j = a.at + l.k in
    let b = get_or s j 0 in
    noting_next l.invariant (omega arith) (λ e. let (p, z) = neither ((l.quote || eqb b 39) || (l.slash || eqb b 47)) (l.end || eqb b 59) e in
    let (x, y) = neither (l.quote || eqb b 39) (l.slash || eqb b 47) p in
    let (q, q₁) = neither l.quote (eqb b 39) x in
    let (t, t₁) = neither l.slash (eqb b 47) y in
    let (n, n₁) = neither l.end (eqb b 59) z in
    (rw (q, t, n) refl, quiet_byte s a.at j (omega arith) q₁ t₁ n₁))

pub returns : goal.returns
returns c = noting_all c.loop-k.invariant (omega arith)
