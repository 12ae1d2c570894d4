use Rattle.statement.specs.Usual.{WalkStep}
use Rattle.statement.specs.UsualLaws.{way_none, way_on, run_at}
use Rattle.std.proofs.Common.{drop, arith, Some}
use Rattle.statement.proofs.usual_close.Goals as goal

pub loop-from-init : goal.loop-from-init
loop-from-init c = let a = c.args in (omega arith, omega arith, omega arith, way_none 0 (drop a.from a.s.now))

pub returns-then-s-m-eq41 : goal.returns-then-s-m-eq41
returns-then-s-m-eq41 c = let l = c.loop-from in
    let r = c.plain_run-m in
    let s = c.args.s.now in
    (omega arith, omega (arith, r.ensures.lower_bound), c.if-s-m-eq41.true, rw c.if-depth-eq0.true at (way_on l.invariant.3 (run_at l.depth s l.i r.result r.ensures.s_value)))

pub loop-from-preserved : goal.loop-from-preserved
loop-from-preserved c = let l = c.loop-from in
    let r = c.plain_run-m in
    let s = c.args.s.now in
    let e : WalkStep s r.result l.depth (Some (c.in_ok-next.next, c.in_ok-next.open)) = c.in_ok-next.ensures in
    (omega (arith, r.ensures.lower_bound, e.0), omega (arith, e.1), omega (arith, r.ensures.lower_bound, e.0, e.2), way_on (way_on l.invariant.3 (run_at l.depth s l.i r.result r.ensures.s_value)) e.3)
