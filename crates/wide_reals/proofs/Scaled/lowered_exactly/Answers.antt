use Prim.Native.Nat.{ℕ, ◌+◌, ◌*◌, ◌^◌, ◌<◌}
use mathlib.Core.Path.{sym, ◌∙◌, ap, subst}
use Rattle.wide_reals.specs.Tens.{lowered_cut}
use Rattle.wide_reals.proofs.Scaled.lowered_exactly.Goals as goal

-- `wide_reals::Scaled::lowered_exactly` meets its contract: the number cut below the digits of a quotient. Assumes nothing.

pub returns : goal.returns
returns c =
    let a = c.args.self in
    c.rounded.ensures.0 a.m (10 ^ a.k)
    (lowered_cut a.m a.k c.lift-n.result.by c.lifted_five-f.result.by c.divide-q.result.digits c.divide-q.result.rest
    (ap (λ (x : ℕ). c.divide-q.result.digits * x + c.divide-q.result.rest) (sym c.lifted_five-f.ensures.0) ∙ c.divide-q.ensures.0 ∙ ap (λ (x : ℕ). x * 18014398509481984) c.lift-n.ensures.0)
    (subst (λ (x : ℕ). c.divide-q.result.rest < x) c.lifted_five-f.ensures.0 c.divide-q.ensures.1) c.requires c.lift-n.ensures.3 c.lifted_five-f.ensures.3)
