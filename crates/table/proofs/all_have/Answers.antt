use native.Mathlib.Omega.{arith}
use borrow.Author.Tests.{eqb-true, eq-eqb}
use Rattle.common.specs.Compare.{clash}
use Rattle.table.proofs.all_have.Goals as goal

pub returns-then-to-from : goal.returns-then-to-from
returns-then-to-from c = ((λ z. clash (cc)), λ h. let f = h.forwards in let t = c.if-to-from.true in absurd (omega (arith, f, t)))

pub returns-then-ids-to : goal.returns-then-ids-to
returns-then-ids-to c = ((λ z. clash (cc)), λ h. let f = h.asked in let t = c.if-ids-to.true in absurd (omega (arith, f, t)))

pub returns-then-found-to : goal.returns-then-found-to
returns-then-found-to c = ((λ z. clash (cc)), λ h. let f = h.told in let t = c.if-found-to.true in absurd (omega (arith, f, t)))

pub returns-then-rows_fit-n : goal.returns-then-rows_fit-n
returns-then-rows_fit-n c = ((λ z. clash (cc)), λ h. let f = h.there in let t = c.if-rows_fit-n.true in let e = c.rows_fit.ensures in absurd (omega (arith, f, t, e)))

pub returns-then-n-highest : goal.returns-then-n-highest
returns-then-n-highest c = ((λ z. clash (cc)), λ h. let f = c.highest.ensures.1 c.args.n h.some h.below in let t = c.if-n-highest.true in absurd (omega (arith, f, t)))

pub misses-requires : goal.misses-requires
misses-requires c =
    let t = c.if-n-highest.false in
    let r = c.if-rows_fit-n.false in
    let e = c.rows_fit.ensures in
    let a = c.if-to-from.false in
    let b = c.if-ids-to.false in
    let d = c.if-found-to.false in
    (omega (arith, a), omega (arith, b), omega (arith, d), λ j x y. let q = c.highest.ensures.0 j x y in omega (arith, q, t, r, e))

pub returns : goal.returns
returns c =
    let t = c.if-n-highest.false in
    let r = c.if-rows_fit-n.false in
    let e = c.rows_fit.ensures in
    let a = c.if-to-from.false in
    let b = c.if-ids-to.false in
    let d = c.if-found-to.false in (
      (λ z. record { forwards = omega (arith, a); asked = omega (arith, b); told = omega (arith, d); there = omega (arith, r, e); some = omega (arith, t); below = λ j x y. let q = c.highest.ensures.0 j x y in omega (arith, q, t); have = c.misses.ensures.0 (eqb-true c.misses.result 0 z) }),
      λ h. eq-eqb c.misses.result 0 (c.misses.ensures.1 h.have),
    )
