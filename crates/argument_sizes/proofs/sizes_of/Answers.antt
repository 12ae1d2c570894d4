use Rattle.argument_sizes.specs.Laws.{sizes_joined}
use Rattle.argument_sizes.proofs.sizes_of.Goals as goal

pub returns : goal.returns
returns c = rw (c.larger_each.ensures, c.grid_len.ensures, c.list_len.ensures, c.string_len.ensures) (sizes_joined _)
