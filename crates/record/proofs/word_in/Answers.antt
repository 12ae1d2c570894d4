use mathlib.Core.Path.{◌∙◌, sym, refl}
use Rattle.record.proofs.word_in.Goals as goal

pub returns-then-is_word : goal.returns-then-is_word
returns-then-is_word c = rw (sym c.is_word.ensures ∙ c.if-is_word.true) refl

pub returns-then-is_word-2 : goal.returns-then-is_word-2
returns-then-is_word-2 c = rw (sym c.is_word.ensures ∙ c.if-is_word.false, sym c.is_word-2.ensures ∙ c.if-is_word-2.true) refl

pub returns-then-opens_data : goal.returns-then-opens_data
returns-then-opens_data c = rw (sym c.is_word.ensures ∙ c.if-is_word.false, sym c.is_word-2.ensures ∙ c.if-is_word-2.false, sym c.opens_data.ensures ∙ c.if-opens_data.true) refl

pub returns-then-is_word-3 : goal.returns-then-is_word-3
returns-then-is_word-3 c = rw (sym c.is_word.ensures ∙ c.if-is_word.false, sym c.is_word-2.ensures ∙ c.if-is_word-2.false, sym c.opens_data.ensures ∙ c.if-opens_data.false, sym c.is_word-3.ensures ∙ c.if-is_word-3.true) refl

pub returns : goal.returns
returns c = rw (sym c.is_word.ensures ∙ c.if-is_word.false, sym c.is_word-2.ensures ∙ c.if-is_word-2.false, sym c.opens_data.ensures ∙ c.if-opens_data.false, sym c.is_word-3.ensures ∙ c.if-is_word-3.false) refl
