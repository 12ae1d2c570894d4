use Rattle.argument_sizes.specs.Laws.{same_sizes}
use Rattle.argument_sizes.proofs.larger_each.Goals as goal

pub returns : goal.returns
returns c = same_sizes c.max.ensures c.max-2.ensures c.max-3.ensures
