use Rattle.std.proofs.Common.{rules, ◌≡◌}
use Rattle.find_many.specs.Hints.{searched_number}
use Rattle.find_many.specs.Sweep.{swept_by, swept_then, swept_stood, have_stand}
use Rattle.find_many.proofs.get_part.Goals as goal

pub shape_of-found-then-all_have : goal.shape_of-found-then-all_have
shape_of-found-then-all_have c = c.near.ensures.size

pub returns-then-all_have : goal.returns-then-all_have
returns-then-all_have c = let a = c.args in swept_stood a.rows.now a.slots.now a.b c.room-n.result _ _ _ _ _ c.room-n.ensures c.near.ensures (have_stand _ _ _ _ _ _ (c.all_have.ensures.0 c.if-all_have.true))

pub returns : goal.returns
returns c = let a = c.args in
    let told = swept_by _ (λ k v. v ≡ searched_number a.rows.now a.slots.now a.b k) _ _ _ _ _ (λ k r v e. search rules) c.sweep.ensures in
    swept_then _ _ _ _ _ _ _ _ c.near.ensures told
