use Prim.Native.Nat.{◌^◌}
use mathlib.Core.Path.{sym, ◌∙◌, ap}
use mathlib.Core.Bool.{Bool}
use native.Mathlib.Nat.{one-le-pow}
use native.Mathlib.Omega.{arith}
use lib.Ieee.{binary64, to_bits}
use Rattle.nearest.specs.Nearest.{signed}
use Rattle.nearest.specs.Power.{near_by}
use Rattle.reals.specs.FloatTables.{short_path}
use Rattle.nearest.proofs.ProductRight.{product_exact, quotient_exact}
use Rattle.reals.proofs.scaled.Goals as goal

-- `reals::scaled` meets its contract: one product or quotient of two exact numbers, or the wide path's answer. Assumes nothing.

pub exact-x-requires : goal.exact-x-requires
exact-x-requires c = (short_path c.args.m c.args.p.size c.if-m-p.true).0

pub power_of_ten-y-requires : goal.power_of_ten-y-requires
power_of_ten-y-requires c = (short_path c.args.m c.args.p.size c.if-m-p.true).1

pub returns-then-p : goal.returns-then-p
returns-then-p c =
    let a = c.args in
    c.over.ensures
    ∙ quotient_exact (to_bits binary64 c.exact-x.result) (to_bits binary64 c.power_of_ten-y.result) a.neg a.m (10 ^ a.p.size) (one-le-pow a.p.size 10 (omega arith)) c.exact-x.ensures c.power_of_ten-y.ensures
    ∙ ap (λ (d : Bool). signed a.neg (near_by d a.m a.p.size)) (sym c.if-p.true)

pub returns-then-m-p : goal.returns-then-m-p
returns-then-m-p c =
    let a = c.args in
    c.times.ensures
    ∙ product_exact (to_bits binary64 c.exact-x.result) (to_bits binary64 c.power_of_ten-y.result) a.neg a.m (10 ^ a.p.size) c.exact-x.ensures c.power_of_ten-y.ensures
    ∙ ap (λ (d : Bool). signed a.neg (near_by d a.m a.p.size)) (sym c.if-p.false)
