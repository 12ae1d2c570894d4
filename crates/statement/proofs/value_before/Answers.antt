use Prim.Native.Nat.{◌+◌}
use Rattle.statement.specs.UsualLaws.{space_at}
use Rattle.statement.specs.UsualHead.{Fronted, fronted, head_complex, head_simple}
use native.Mathlib.Omega.{arith}
use Rattle.statement.proofs.value_before.Goals as goal

pub returns-then-t-a : goal.returns-then-t-a
returns-then-t-a c = let t = c.args.t.now in
    let p = c.requires in
    let q = c.args.from + c.leading_space.result in
    let a = q + 1 + c.leading_space-2.result in
    let f : Fronted t c.args.id a = fronted t c.args.id c.args.from q a p.3 p.1.0 p.1.3 p.2 (omega (arith, p.1.2))
    (space_at t c.args.from _ (omega (arith, p.1.2)) c.leading_space.ensures.b_value) (omega arith) c.if-t-q-ne61.false
    (space_at t (q + 1) _ (omega arith) c.leading_space-2.ensures.b_value) in
    (omega arith, head_complex t c.args.id a f c.if-t-a.true (omega arith))

pub returns : goal.returns
returns c = let t = c.args.t.now in
    let p = c.requires in
    let q = c.args.from + c.leading_space.result in
    let a = q + 1 + c.leading_space-2.result in
    let f : Fronted t c.args.id a = fronted t c.args.id c.args.from q a p.3 p.1.0 p.1.3 p.2 (omega (arith, p.1.2))
    (space_at t c.args.from _ (omega (arith, p.1.2)) c.leading_space.ensures.b_value) (omega arith) c.if-t-q-ne61.false
    (space_at t (q + 1) _ (omega arith) c.leading_space-2.ensures.b_value) in
    (omega arith, c.trail_at.ensures.lower_bound.1, omega arith, head_simple t c.args.id a _ p.0 f (omega arith) c.trail_at.ensures.lower_bound.1 c.trail_at.ensures.b_value)
