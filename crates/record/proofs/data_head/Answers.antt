use Rattle.record.specs.HeadLaws.{data_none, data_other, data_over, data_empty, data_value}
use mathlib.Core.Path.{◌∙◌}
use native.Mathlib.Omega.{arith}
use Rattle.record.proofs.data_head.Goals as goal

pub returns-then-b-eq0 : goal.returns-then-b-eq0
returns-then-b-eq0 c = data_none c.args.b.now c.if-b-eq0.true

pub returns-then-b-ne35 : goal.returns-then-b-ne35
returns-then-b-ne35 c = data_other c.args.b.now (omega arith) c.if-b-ne35.true

pub returns-then-at-eq1 : goal.returns-then-at-eq1
returns-then-at-eq1 c = let k = rw c.in-Some.is at c.digits_at.ensures in
    data_empty c.args.b.now (omega arith) _ c.if-b-ne35.false (rw c.if-at-eq1.true at k.0) k.3

pub equal_head-requires : goal.equal_head-requires
equal_head-requires c = let k = rw c.in-Some.is at c.digits_at.ensures in omega (arith, k.2)

pub returns-in-None : goal.returns-in-None
returns-in-None c = let k = rw c.in-None.is at c.digits_at.ensures in
    data_over c.args.b.now (omega arith) c.if-b-ne35.false k

pub returns-else-at-eq1 : goal.returns-else-at-eq1
returns-else-at-eq1 c = let k = rw c.in-Some.is at c.digits_at.ensures in
    c.equal_head.ensures
    ∙ data_value c.args.b.now (omega arith) _ _ c.if-b-ne35.false k.0 k.3 k.1 (omega (arith, k.2)) c.if-at-eq1.false
