use Rattle.record.specs.HeadLaws.{opens_short, opens_other, opens_after, opens_alone}
use lib.ListN.{length-take}
use mathlib.Core.Path.{◌∙◌, sym}
use native.Mathlib.Omega.{arith}
use Rattle.record.proofs.opens_data.Goals as goal

pub returns-then-t-lt4 : goal.returns-then-t-lt4
returns-then-t-lt4 c = opens_short c.args.t.now c.if-t-lt4.true

pub slice_bounds-is_word-end : goal.slice_bounds-is_word-end
slice_bounds-is_word-end c = simp length-take (omega arith)

pub returns-then-not-is_word : goal.returns-then-not-is_word
returns-then-not-is_word c = opens_other c.args.t.now (sym c.if-not-is_word.true ∙ c.is_word.ensures)

pub returns-then-p-t : goal.returns-then-p-t
returns-then-p-t c = let t = c.args.t.now in
    opens_after t c.past_space-p.result (sym c.if-not-is_word.false ∙ c.is_word.ensures) c.past_space-p.ensures.lower_bound c.past_space-p.ensures.b_value (omega arith)

pub returns : goal.returns
returns c = let t = c.args.t.now in
    opens_alone t c.past_space-p.result (sym c.if-not-is_word.false ∙ c.is_word.ensures) c.past_space-p.ensures.b_value c.if-p-t.false
