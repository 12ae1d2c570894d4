use Prim.Native.Nat.{ℕ, ◌-◌, ◌*◌, ◌^◌}
use mathlib.Core.Path.{sym, ◌∙◌, ap, subst}
use native.Mathlib.Omega.{arith}
use Rattle.f64_rounding.specs.CutNumbers.{WithinTwoUnits}
use Rattle.wide_reals.specs.Tens.{lowered_near, high_enough}
use Rattle.wide_reals.proofs.Scaled.lowered_within.Goals as goal

-- `wide_reals::Scaled::lowered_within` meets its contract: by the reciprocal, and where that leaves a doubt by long division. Assumes nothing.

pub is_sure-requires : goal.is_sure-requires
is_sure-requires c =
    let a = c.lift-n.ensures.1 in
    high_enough c.multiply-p.result.high c.multiply-p.result.low c.lift-n.result.value c.reciprocal.result c.multiply-p.ensures.0 c.multiply-p.ensures.1 (omega arith) c.reciprocal.ensures.long

pub rounded-requires : goal.rounded-requires
rounded-requires c =
    let a = c.lift-n.ensures.1 in
    let g = high_enough c.multiply-p.result.high c.multiply-p.result.low c.lift-n.result.value c.reciprocal.result c.multiply-p.ensures.0 c.multiply-p.ensures.1 (omega arith) c.reciprocal.ensures.long in
    (omega arith, omega arith)

pub returns-then-is_sure : goal.returns-then-is_sure
returns-then-is_sure c =
    let a = c.args.self in
    let v = c.lift-n.ensures.0 in
    let h = c.lift-n.ensures.2 in
    let there = lowered_near a.m a.k c.lift-n.result.by c.reciprocal.result c.multiply-p.result.high c.multiply-p.result.low (c.multiply-p.ensures.0 ∙ ap (λ (x : ℕ). x * c.reciprocal.result) v) c.multiply-p.ensures.1 (omega arith) c.reciprocal.ensures c.requires c.lift-n.ensures.3 in
    c.rounded.ensures.1 (sym c.is_sure.ensures ∙ c.if-is_sure.true) a.m (10 ^ a.k)
    (subst (λ (b : ℕ). WithinTwoUnits a.m (10 ^ a.k) c.multiply-p.result.high (1074 - b - c.lift-n.result.by - a.k)) (sym c.halvings.ensures) there)
