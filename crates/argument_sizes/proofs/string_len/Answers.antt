use mathlib.Core.Path.{◌∙◌}
use Rattle.argument_sizes.specs.Laws.{len_short, len_other, len_string}
use Rattle.argument_sizes.proofs.string_len.Goals as goal

pub returns-then-t-lt2 : goal.returns-then-t-lt2
returns-then-t-lt2 c = len_short c.args.t.now c.if-t-lt2.true

pub returns-then-t-ne39 : goal.returns-then-t-ne39
returns-then-t-ne39 c = len_other c.args.t.now c.if-t-lt2.false c.if-t-ne39.true

pub returns : goal.returns
returns c = c.text_length.ensures ∙ len_string c.args.t.now c.if-t-lt2.false c.if-t-ne39.false
