use Rattle.statement.specs.UsualLaws.{spoken_last}
use native.Mathlib.Omega.{arith}
use mathlib.Core.Path.{◌∙◌}
use Rattle.statement.proofs.text_run.Goals as goal

pub returns-then-i-near : goal.returns-then-i-near
returns-then-i-near c = let t = c.text_bytes-i in record { s_value = t.ensures.s_value_2 c.if-i-near.true ∙ t.ensures.s_value; lower_bound = (omega arith, omega (arith, c.min-near.ensures)) }

pub returns : goal.returns
returns c = let t = c.text_bytes-i in
    let s = c.args.s.now in
    record { s_value = spoken_last s c.text_bytes.result c.text_bytes.ensures.s_value_2 ∙ c.text_bytes.ensures.s_value ∙ c.text_blocks-far.ensures.s_value ∙ t.ensures.s_value; lower_bound = (omega arith, omega arith) }
