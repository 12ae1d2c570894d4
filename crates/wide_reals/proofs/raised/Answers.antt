use Prim.Native.Nat.{ℕ, ◌*◌, ◌^◌}
use mathlib.Core.Path.{◌≡◌, sym, ◌∙◌, ap}
use native.Mathlib.Nat.{zero-mul}
use native.Mathlib.Omega.{arith}
use Rattle.nearest.specs.Near.{near}
use Rattle.nearest.specs.Nearest.{signed}
use Rattle.nearest.proofs.Borders.{near_nothing}
use Rattle.wide_reals.proofs.raised.Goals as goal

-- `wide_reals::raised` meets its contract: zero apart, which has no leading digit. Assumes nothing.

-- the f64 nearest to a zero is zero
none : (m k : ℕ) → m ≡ 0 → near (m * 10 ^ k) 1 ≡ 0
none m k e = ap (λ (x : ℕ). near x 1) (ap (λ (n : ℕ). n * 10 ^ k) e ∙ zero-mul (10 ^ k)) ∙ near_nothing 1 (omega arith)

pub returns-then-m-eq0 : goal.returns-then-m-eq0
returns-then-m-eq0 c =
    let a = c.args in
    c.with_sign.ensures ∙ ap (signed a.neg) (sym (none a.m a.k c.if-m-eq0.true))
