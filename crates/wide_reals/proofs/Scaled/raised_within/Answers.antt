use Prim.Native.Nat.{ℕ, ◌*◌, ◌^◌}
use mathlib.Core.Path.{◌∙◌, ap}
use native.Mathlib.Omega.{arith}
use Rattle.wide_reals.specs.Tens.{raised_cut, high_enough}
use Rattle.wide_reals.proofs.Scaled.raised_within.Goals as goal

-- `wide_reals::Scaled::raised_within` meets its contract: the number cut below the digits of a product. Assumes nothing.

pub rounded-requires : goal.rounded-requires
rounded-requires c =
    let a = c.lift-n.ensures.1 in
    let b = c.lifted_five-f.ensures.1 in
    let g = high_enough c.multiply-p.result.high c.multiply-p.result.low c.lift-n.result.value c.lifted_five-f.result.value c.multiply-p.ensures.0 c.multiply-p.ensures.1 (omega arith) (omega arith) in
    let k = c.requires in
    (omega arith, omega arith)

pub returns : goal.returns
returns c =
    let a = c.args.self in
    c.rounded.ensures.0 (a.m * 10 ^ a.k) 1
    (raised_cut a.m a.k c.lift-n.result.by c.lifted_five-f.result.by c.multiply-p.result.high c.multiply-p.result.low
    (c.multiply-p.ensures.0 ∙ ap (λ (x : ℕ). x * c.lifted_five-f.result.value) c.lift-n.ensures.0 ∙ ap (λ (x : ℕ). a.m * 2 ^ c.lift-n.result.by * x) c.lifted_five-f.ensures.0)
    c.multiply-p.ensures.1 c.lift-n.ensures.3 c.lifted_five-f.ensures.3)
