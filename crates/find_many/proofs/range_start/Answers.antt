use Rattle.index.specs.Search.{range_width}
use mathlib.Core.Path.{◌∙◌, ap}
use lib.ListN.{get_or}
use Prim.Native.Nat.{ℕ, ◌-◌, ◌/◌, min}
use Rattle.find_many.proofs.range_start.Goals as goal

pub returns : goal.returns
returns c = let a = c.args in let e = c.range_of.ensures in let f = c.saturating_sub.ensures in let w = c.min-q.ensures in c.least.ensures ∙ ap (λ (q : ℕ). min (get_or a.slots.now q 0) a.n) (w ∙ ap (λ (q : ℕ). min q (a.n - 2)) (e ∙ ap (λ (d : ℕ). d / range_width a.b.shift) f))
