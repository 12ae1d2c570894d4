use Prim.Native.Nat.{ℕ, ◌+◌, ◌*◌, ◌%◌, ◌^◌, ◌<◌}
use mathlib.Core.Path.{◌≡◌, sym, ◌∙◌, ap, subst}
use mathlib.Core.Bool.{not, ◌||◌}
use native.Mathlib.Nat.{one-le-pow}
use lib.Dec.{eqb}
use native.Mathlib.Omega.{arith}
use Rattle.limbs.specs.Worth.{worth}
use Rattle.long_reals.specs.RoomFraction.{Lowered}
use Rattle.long_reals.specs.Steps.{lowered_more, powers_joined}
use Rattle.long_reals.proofs.lower.Goals as goal

-- `long_reals::lower` meets its contract: each step divides what the steps before left, and what is left of the whole is 0 just where each leaves nothing.
-- Assumes nothing.

pub loop-step-preserved : goal.loop-step-preserved
loop-step-preserved c =
    let p = c.args in
    let d = c.divide in
    let l = c.loop-step in
    let q = d.ensures.quotient (omega arith) in
    subst (λ (x : ℕ). Lowered (worth p.a.now) x (worth d.new.a) (l.more || not (eqb d.result 0))) (powers_joined 5 (13 * l._step) 13 (13 * (l._step + 1)) (omega arith)) (lowered_more (worth p.a.now) (5 ^ (13 * l._step)) (worth l.a) 1220703125 (worth d.new.a) d.result l.more l.invariant q.0 q.1)

pub returns : goal.returns
returns c =
    let p = c.args in
    let d = c.divide-2 in
    let f = c.small_power in
    let l = c.loop-step in
    let e : 13 * l._step + p.k % 13 ≡ p.k = omega arith in
    let q = d.ensures.quotient (subst (λ (n : ℕ). 0 < n) (sym f.ensures) (one-le-pow (p.k % 13) 5 (omega arith))) in
    subst (λ (x : ℕ). Lowered (worth p.a.now) x (worth d.new.a) (l.more || not (eqb d.result 0))) (ap (λ (n : ℕ). 5 ^ (13 * l._step) * n) f.ensures ∙ powers_joined 5 (13 * l._step) (p.k % 13) p.k e) (lowered_more (worth p.a.now) (5 ^ (13 * l._step)) (worth l.a) f.result (worth d.new.a) d.result l.more l.invariant q.0 q.1)
