use Rattle.record.specs.HeadLaws.{value_none, value_complex, value_keyed, keyed_absent, keyed_found}
use native.Mathlib.Omega.{arith}
use mathlib.Core.Path.{◌∙◌}
use Rattle.record.proofs.value_head.Goals as goal

pub returns-then-b-v : goal.returns-then-b-v
returns-then-b-v c = let a = c.args in
    value_none a.b.now a.id c.past_space-v.result _ c.past_space-v.ensures.b_value c.if-b-v.true

pub returns-then-b-v-eq40 : goal.returns-then-b-v-eq40
returns-then-b-v-eq40 c = let a = c.args in
    value_complex a.b.now a.id c.past_space-v.result _ c.past_space-v.ensures.b_value (omega arith) c.if-b-v-eq40.true

pub returns-in-None : goal.returns-in-None
returns-in-None c = let a = c.args in
    let k = rw c.in-None.is at c.keyword_at.ensures in
    keyed_absent a.b.now a.id c.past_space-v.result _ k
    ∙ value_keyed a.b.now a.id c.past_space-v.result _ c.past_space-v.ensures.b_value (omega arith) c.if-b-v-eq40.false

pub returns-in-Some : goal.returns-in-Some
returns-in-Some c = let a = c.args in
    let k = rw c.in-Some.is at c.keyword_at.ensures in
    keyed_found a.b.now a.id c.past_space-v.result _ _ _ (omega arith) k.1 k.2 k.0
    ∙ value_keyed a.b.now a.id c.past_space-v.result _ c.past_space-v.ensures.b_value (omega arith) c.if-b-v-eq40.false
