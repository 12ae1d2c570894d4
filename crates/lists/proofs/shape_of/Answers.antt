use Rattle.lists.specs.Laws.{body_short, body_first, body_last, body_full, none_true, none_false}
use native.Mathlib.Omega.{arith}
use Rattle.lists.proofs.shape_of.Goals as goal

pub returns-then-n-lt2 : goal.returns-then-n-lt2
returns-then-n-lt2 c = body_short c.args.t.now c.if-n-lt2.true

pub returns-then-t-ne40 : goal.returns-then-t-ne40
returns-then-t-ne40 c = body_first c.args.t.now (omega arith) c.if-t-ne40.true

pub returns-then-t-n-ne41 : goal.returns-then-t-n-ne41
returns-then-t-n-ne41 c = body_last c.args.t.now (omega arith) c.if-t-n-ne41.true

pub returns-then-w : goal.returns-then-w
returns-then-w c = let t = c.args.t.now in
    let m = c.trim-w in
    (_, body_full t (omega arith) c.if-t-ne40.false c.if-t-n-ne41.false, none_true _ _ _ m.ensures.b_value_2 m.ensures.start_le_stop.0 m.ensures.start_le_stop.1 (omega (arith, c.if-w.true)))

pub returns : goal.returns
returns c = let t = c.args.t.now in
    let m = c.trim-w in
    (omega arith, body_full t (omega arith) c.if-t-ne40.false c.if-t-n-ne41.false, none_false _ _ _ m.ensures.b_value_2 m.ensures.start_le_stop.0 m.ensures.start_le_stop.1 c.if-w.false)
