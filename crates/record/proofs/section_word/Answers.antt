use Rattle.record.specs.Word.{word_of, word_in}
use Rattle.record.specs.HashOther.{hash_word, empty_word}
use Rattle.record.specs.HeadLaws.{trimmed_at}
use native.Mathlib.Omega.{arith}
use mathlib.Core.Path.{◌∙◌, ap}
use Rattle.record.proofs.section_word.Goals as goal

pub returns-then-b-eq0 : goal.returns-then-b-eq0
returns-then-b-eq0 c = empty_word c.args.b.now c.if-b-eq0.true

pub returns-then-b-eq35 : goal.returns-then-b-eq35
returns-then-b-eq35 c = hash_word c.args.b.now (omega arith) c.if-b-eq35.true

pub returns : goal.returns
unfolding word_of
returns c = let b = c.args.b.now in
    c.word_in.ensures
    ∙ ap word_in (trimmed_at b c.past_space-a.result c.trail_at-e.result c.past_space-a.ensures.b_value c.trail_at-e.ensures.b_value (omega (arith, c.trail_at-e.ensures.lower_bound.0)) c.trail_at-e.ensures.lower_bound.1)
