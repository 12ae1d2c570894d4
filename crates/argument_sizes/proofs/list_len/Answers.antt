use Rattle.argument_sizes.specs.Laws.{items_all, items_none}
use Rattle.argument_sizes.proofs.list_len.Goals as goal

pub returns-in-Ok : goal.returns-in-Ok
returns-in-Ok c = items_all _ _ c.in-Ok.ensures.result_value

pub returns-in-Err : goal.returns-in-Err
returns-in-Err c = items_none _ _ _ c.in-Err.ensures.result_value
