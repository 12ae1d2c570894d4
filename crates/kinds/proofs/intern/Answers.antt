use Rattle.std.proofs.Common.{refl, ◌∙◌, arith}
use Rattle.kinds.specs.Kind.{kind_of_keyword, named_kinds, kind_here, kind_next}
use Rattle.kinds.proofs.intern.Goals as goal

-- `kinds::intern` meets its contract: the kinds that have a keyword are tried in their order, by the laws of Kind.antt.
-- Assumes nothing.

pub loop-kind-init : goal.loop-kind-init
unfolding kind_of_keyword
loop-kind-init c = refl

pub returns-then-is_word : goal.returns-then-is_word
returns-then-is_word c =
    kind_here named_kinds c.loop-kind.kind-index _ c.args.kw.now c.name.result.now c.is_word.result (omega arith) c.name.ensures c.is_word.ensures c.if-is_word.true
    ∙ c.loop-kind.invariant

pub loop-kind-preserved : goal.loop-kind-preserved
loop-kind-preserved c =
    kind_next named_kinds c.loop-kind.kind-index _ c.args.kw.now c.name.result.now c.is_word.result (omega arith) c.name.ensures c.is_word.ensures c.if-is_word.false
    ∙ c.loop-kind.invariant
