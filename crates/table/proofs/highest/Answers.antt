use Rattle.std.proofs.Common.{rules, ◌≡◌, ◌+◌, max, get_or, arith}
use Rattle.table.specs.Sweeps.{below_next}
use Rattle.table.proofs.highest.Goals as goal

pub loop-i-init : goal.loop-i-init
loop-i-init c = (omega arith, omega arith, (λ j x y. absurd (omega arith)), λ m p h. p)

pub loop-i-preserved : goal.loop-i-preserved
loop-i-preserved c =
    let a = c.args in
    let l = c.loop-i in
    let e : c.max-top.result ≡ max l.top (get_or a.found.now l.i 0) = search rules in
    (omega arith, omega arith, below_next (l.top + 1) (c.max-top.result + 1) a.found.now a.from l.i l.invariant.2 (omega (arith, e)) (omega (arith, e)), λ m p h. let t = l.invariant.3 m p (λ j x y. h j x (omega arith)) in let u = h l.i l.invariant.0 (omega arith) in omega (arith, e, t, u))

pub returns : goal.returns
returns c = let l = c.loop-i in ((λ j x y. l.invariant.2 j x (omega arith)), λ m p h. l.invariant.3 m p (λ j x y. h j x (omega arith)))
