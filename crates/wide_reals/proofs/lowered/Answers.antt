use Prim.Native.Nat.{ℕ, ◌^◌}
use mathlib.Core.Path.{◌≡◌, sym, ◌∙◌, ap}
use native.Mathlib.Nat.{one-le-pow}
use native.Mathlib.Omega.{arith}
use Rattle.nearest.specs.Near.{near}
use Rattle.nearest.specs.Nearest.{signed}
use Rattle.nearest.proofs.Borders.{near_nothing}
use Rattle.wide_reals.proofs.lowered.Goals as goal

-- `wide_reals::lowered` meets its contract: zero apart, which has no leading digit. Assumes nothing.

-- the f64 nearest to a zero is zero
none : (m k : ℕ) → m ≡ 0 → near m (10 ^ k) ≡ 0
none m k e = ap (λ (x : ℕ). near x (10 ^ k)) e ∙ near_nothing (10 ^ k) (one-le-pow k 10 (omega arith))

pub returns-then-m-eq0 : goal.returns-then-m-eq0
returns-then-m-eq0 c =
    let a = c.args in
    c.with_sign.ensures ∙ ap (signed a.neg) (sym (none a.m a.k c.if-m-eq0.true))
