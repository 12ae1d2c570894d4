use Prim.Native.Nat.{◌≤◌, ◌^◌}
use mathlib.Core.Path.{sym, ◌∙◌, ap}
use mathlib.Core.Bool.{Bool}
use native.Mathlib.Omega.{arith}
use lib.Dec.{T, le→leb}
use lib.IntN.{pos}
use lib.Ieee.{binary64, in_float}
use Prim.Native.Nat.{ℕ, ◌*◌}
use Rattle.nearest.specs.Product.{finite}
use Rattle.nearest.specs.ProductRight.{worth_whole, worth_minus}
use Rattle.reals.proofs.exact.Goals as goal

-- `reals::exact` meets its contract: a whole number of at most 53 binary digits is an f64, and so is its negative. Assumes nothing.

holds : (m : ℕ) → m ≤ 2 ^ 53 → T (in_float binary64 (pos m))
unfolding in_float
holds m h = le→leb m (2 ^ 53) h

pub int_to_float-x : goal.int_to_float-x
int_to_float-x c = let m = c.args.m in let h : m ≤ 2 ^ 53 = omega (arith, c.requires) in holds m h

pub returns-then-neg : goal.returns-then-neg
returns-then-neg c =
    let m = c.args.m in
    let h : m ≤ 2 ^ 53 = omega (arith, c.requires) in
    worth_minus m h ∙ ap (λ (s : Bool). finite s (m * 2 ^ 1074)) (sym c.if-neg.true)

pub returns : goal.returns
returns c =
    let m = c.args.m in
    let h : m ≤ 2 ^ 53 = omega (arith, c.requires) in
    worth_whole m h ∙ ap (λ (s : Bool). finite s (m * 2 ^ 1074)) (sym c.if-neg.false)
