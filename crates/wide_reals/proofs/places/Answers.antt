use mathlib.Core.Path.{◌∙◌, ap}
use Prim.Native.Nat.{ℕ, ◌-◌}
use borrow.Author.Rules.{rules}
use Rattle.wide_reals.specs.Tens.{five_lift_is}
use Rattle.wide_reals.proofs.places.Goals as goal

-- `wide_reals::places` meets its contract: the sum was tried at each k. Assumes nothing.

pub overflow_sub-result : goal.overflow_sub-result
overflow_sub-result c = let e = c.halvings.ensures in search rules

pub returns : goal.returns
returns c = ap (λ (n : ℕ). 62 - n) c.halvings.ensures ∙ five_lift_is c.args.k c.requires
