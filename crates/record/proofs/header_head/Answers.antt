use Rattle.record.specs.HeadLaws.{named_absent, named_found}
use native.Mathlib.Omega.{arith}
use Rattle.record.proofs.header_head.Goals as goal

pub returns-in-None : goal.returns-in-None
returns-in-None c = let k = rw c.in-None.is at c.keyword_at.ensures in
    named_absent c.args.b.now c.past_space-v.result c.past_space-v.ensures.b_value k

pub returns-in-Some : goal.returns-in-Some
returns-in-Some c = let k = rw c.in-Some.is at c.keyword_at.ensures in
    named_found c.args.b.now c.past_space-v.result _ _ c.past_space-v.ensures.b_value (omega arith) k.1 k.2 k.0
