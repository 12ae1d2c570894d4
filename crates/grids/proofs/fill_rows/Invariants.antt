use Rattle.grids.specs.Rows.{Gridding}
use Rattle.lists.specs.Lent.{item_value, lent_of}
use lib.ListN.{length}
use mathlib.Core.List.{[]}
use mathlib.Core.Path.{◌≡◌}
use Prim.Native.Nat.{◌-◌}
use Rattle.grids.proofs.fill_rows.Given as goal

abbrev pub invariant-loop-kind : goal.invariant-loop-kind
invariant-loop-kind l =
    Gridding (item_value l.kind) l.b (lent_of l.kind l.initial.refs [] l.initial.reals) (lent_of l.kind l.refs [] l.reals) l.initial.ends l.ends l.i l.rows l.numbers × ((length l.refs ≡ length l.initial.refs) × (length l.reals ≡ length l.initial.reals))

abbrev pub decreases-loop-kind : goal.decreases-loop-kind
decreases-loop-kind l = length l.b - l.i
