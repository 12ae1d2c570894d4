use Rattle.lists.specs.Laws.{item_told_is}
use Rattle.lists.specs.Items.{ItemAt}
use mathlib.Core.Path.{subst}
use Prim.Native.Nat.{ℕ, ◌+◌}
use Rattle.lists.proofs.item_at.Goals as goal

pub returns : goal.returns
returns c = let e = c.item_end-bound in
    let w = c.min-from in
    let b = c.args.b.now in
    let m = c.trim-w in
    subst (λ (j : ℕ). ItemAt b j (record { start = w.result + m.result.start; stop = w.result + m.result.stop; bound = e.result })) w.ensures
    (item_told_is b w.result e.result m.result.start m.result.stop e.ensures.lower_bound.0 e.ensures.lower_bound.1 e.ensures.b_value m.ensures.b_value m.ensures.b_value_2 m.ensures.start_le_stop.0 m.ensures.start_le_stop.1)
