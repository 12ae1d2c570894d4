use mathlib.Core.Path.{◌∙◌, ap}
use Rattle.argument_sizes.specs.Rules.{greater_sizes}
use Rattle.needs.proofs.with_record.Goals as goal

pub returns : goal.returns
returns c = c.larger_each.ensures ∙ ap (greater_sizes _) c.record_sizes.ensures
