use Rattle.index.specs.Guide.{wide_pos, wide_fits}
use native.Mathlib.Nat.{mod-lt}
use mathlib.Core.Path.{ap}
use Prim.Native.Nat.{ℕ, ◌%◌}
use native.Mathlib.Omega.{arith}
use Rattle.find_many.proofs.inside_of.Goals as goal

pub nonzero_rem-result-2 : goal.nonzero_rem-result-2
nonzero_rem-result-2 c = let w = wide_fits (c.args.shift % 32) (mod-lt c.args.shift (omega arith)) in let p = wide_pos (c.args.shift % 32) in omega (arith, w, p)

pub returns : goal.returns
returns c = let w = wide_fits (c.args.shift % 32) (mod-lt c.args.shift (omega arith)) in ap (λ (z : ℕ). c.args.far % z) (omega (arith, w))
