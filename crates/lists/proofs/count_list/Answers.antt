use Rattle.lists.specs.Lent.{count_valued}
use mathlib.Core.Path.{sym, ◌∙◌}
use Rattle.lists.proofs.count_list.Goals as goal

pub returns : goal.returns
returns c = let l = c.take_list in
    let t = c.args in
    record { result_value = l.ensures.result_value ∙ sym (count_valued t.kind t.t.now); counted_in = l.ensures.counted_in }
