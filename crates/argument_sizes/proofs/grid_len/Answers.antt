use Rattle.std.proofs.Common.{◌∙◌}
use Rattle.lists.specs.Answer.{anything}
use Rattle.grids.specs.Laws.{size_told_lem}
use Rattle.argument_sizes.specs.Laws.{grid_all, sizes_grid_none}
use Rattle.argument_sizes.proofs.grid_len.Goals as goal

pub returns-in-Ok : goal.returns-in-Ok
returns-in-Ok c = grid_all _ _ _ (c.in-Ok.ensures ∙ size_told_lem anything _)

pub returns-in-Err : goal.returns-in-Err
returns-in-Err c = sizes_grid_none _ _ _ (c.in-Err.ensures ∙ size_told_lem anything _)
