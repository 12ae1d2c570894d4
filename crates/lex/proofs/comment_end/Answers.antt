use Rattle.std.proofs.Common.{arith}
use Rattle.lex.specs.Remark.{unshut_start, unshut_on, unshut_next, comment_never, comment_ended}
use Rattle.lex.proofs.comment_end.Goals as goal

pub loop-from-init : goal.loop-from-init
loop-from-init c = (omega (arith, c.min-i.ensures), omega (arith, c.min-i.ensures), unshut_start c.args.s.now c.args.from c.min-i.result (omega (arith, c.min-i.ensures)))

pub returns-then-s-e : goal.returns-then-s-e
returns-then-s-e c = let l = c.loop-from in
    let a = c.args in
    let e = c.find-e.result in
    comment_never a.s.now a.from e (omega arith) (unshut_on a.s.now a.from l.i e l.invariant.1 l.invariant.2 c.find-e.ensures)

pub overflow_add-e : goal.overflow_add-e
overflow_add-e c = omega (arith, c.find-e.ensures.inside)

pub overflow_add-result : goal.overflow_add-result
overflow_add-result c = omega (arith, c.find-e.ensures.inside)

pub returns-then-is_at : goal.returns-then-is_at
returns-then-is_at c = let l = c.loop-from in
    let a = c.args in
    let s = a.s.now in
    let t = c.find-e.ensures in
    let e = c.find-e.result in
    let k = c.is_at.ensures.here c.if-is_at.true in
    let u = unshut_on s a.from l.i e l.invariant.1 l.invariant.2 t in
    (omega (arith, t.on), omega arith, comment_ended s a.from e (omega (arith, t.on)) k.0 (t.here (omega arith)) k.1 u)

pub loop-from-smaller : goal.loop-from-smaller
loop-from-smaller c = omega (arith, c.find-e.ensures.on)

pub loop-from-preserved : goal.loop-from-preserved
loop-from-preserved c = let l = c.loop-from in
    let a = c.args in
    let s = a.s.now in
    let t = c.find-e.ensures in
    let e = c.find-e.result in
    let u = unshut_on s a.from l.i e l.invariant.1 l.invariant.2 t in
    (omega (arith, t.on), omega (arith, t.inside), unshut_next s a.from e u (c.is_at.ensures.away c.if-is_at.false))
