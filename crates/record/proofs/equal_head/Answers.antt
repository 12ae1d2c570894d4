use Rattle.record.specs.HeadLaws.{equal_none, equal_other, equal_found}
use native.Mathlib.Omega.{arith}
use mathlib.Core.Path.{◌∙◌}
use Rattle.record.proofs.equal_head.Goals as goal

pub returns-then-b-q : goal.returns-then-b-q
returns-then-b-q c = let a = c.args in
    equal_none a.b.now a.id c.past_space-q.result _ c.past_space-q.ensures.b_value c.if-b-q.true

pub returns-then-b-q-ne61 : goal.returns-then-b-q-ne61
returns-then-b-q-ne61 c = let a = c.args in
    equal_other a.b.now a.id c.past_space-q.result _ c.past_space-q.ensures.b_value (omega arith) c.if-b-q-ne61.true

pub returns : goal.returns
returns c = let a = c.args in
    c.value_head.ensures
    ∙ equal_found a.b.now a.id c.past_space-q.result _ c.past_space-q.ensures.b_value (omega arith) c.if-b-q-ne61.false
