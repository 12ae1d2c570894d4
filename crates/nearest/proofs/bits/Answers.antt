use mathlib.Core.Path.{◌≡◌, refl, sym, ap, subst, ◌∙◌}
use mathlib.Core.Bool.{true, false, not}
use lib.Dec.{T}
use lib.Ieee.{Float, nan, inf, fin, binary64, to_bits, ne, is_nan}
use lib.Ieee.Compare.{differs_from_itself, nan_differs}
use Rattle.nearest.specs.Product.{quiet}
use Rattle.nearest.proofs.bits.Goals as goal

-- `nearest::bits` meets its contract: only a NaN differs from itself, and its pattern is the fixed one. Assumes nothing.

of_nan : quiet ≡ to_bits binary64 nan
unfolding to_bits
of_nan = refl

no_nan : (x : Float) → ne x x ≡ false → T (not (is_nan x))
unfolding is_nan
no_nan nan h = let q : true ≡ false = sym nan_differs ∙ h in subst T q tt
no_nan (inf s) h = tt
no_nan (fin s m e) h = tt

pub returns-then-x : goal.returns-then-x
returns-then-x c = of_nan ∙ ap (to_bits binary64) (sym (differs_from_itself c.args.x (subst T (sym c.if-x.true) tt)))

pub float_to_bits-result : goal.float_to_bits-result
float_to_bits-result c = no_nan c.args.x c.if-x.false
