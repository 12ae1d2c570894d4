use Prim.Native.Nat.{ℕ, ◌+◌, ◌<◌, ◌≤◌, ◌^◌, min}
use mathlib.Core.Path.{◌≡◌, sym, ◌∙◌, ap}
use mathlib.Core.Bool.{Bool, true}
use Rattle.std.proofs.Math.Decide.{dec_le}
use Rattle.nearest.specs.Power.{near_by}
use native.Mathlib.Omega.{arith}
use lib.Dec.{leb}
use Rattle.reals.specs.Answer.{farthest}
use Rattle.reals.specs.Scalar.{near_ten, reaches, largest_held}
use Rattle.reals.specs.AnyRealLaws.{down_held, down_far, up_held, mid_held}
use Rattle.reals.specs.Class.{reach_down, reach_up, reach_mid}
use Rattle.reals.proofs.less_places.Goals as goal

-- `reals::less_places` meets its contract, by the laws of AnyRealLaws.antt and Class.antt at each way out. Assumes nothing.

-- a negative exponent together with the fraction's length, or the largest number where that is larger
down_saturated : (M X n f x : ℕ) → M < 10 ^ n → n < 2 ^ 63 → f < 2 ^ 63 → x ≡ min largest_held X → (r : ℕ) → r ≡ min (x + f) largest_held → near_by true M r ≡ near_ten M f true X
down_saturated M X n f x h l g e r q = go (dec_le (x + f) largest_held)
  where
    go : Dec (x + f ≤ largest_held) → near_by true M r ≡ near_ten M f true X
    go (yes k) = let z : r ≡ x + f = omega arith in ap (λ (i : ℕ). near_by true M i) z ∙ down_held M X n f x h l g e k
    go (no k) = let z : r ≡ largest_held = omega arith in ap (λ (i : ℕ). near_by true M i) z ∙ down_far M X n f x h l g e (omega arith)

pub returns-then-e-clause-near : goal.returns-then-e-clause-near
returns-then-e-clause-near c =
    let a = c.args in
    let q : c.saturating_add.result ≡ min (a.e.size + a.f) largest_held = omega (arith, c.saturating_add.ensures) in
    λ M X n h l e.
    down_saturated M X n a.f a.e.size h l c.requires e _ q
    ∙ ap (λ (d : Bool). near_ten M a.f d X) (sym c.if-e.true)

pub returns-then-e-clause-reach : goal.returns-then-e-clause-reach
returns-then-e-clause-reach c =
    let a = c.args in
    let q : c.saturating_add.result ≡ min (a.e.size + a.f) largest_held = omega (arith, c.saturating_add.ensures) in
    λ X e.
    ap (λ (n : ℕ). leb n farthest) q
    ∙ reach_down a.f a.e.size X e
    ∙ ap (λ (d : Bool). reaches farthest a.f d X) (sym c.if-e.true)

pub returns-then-f-e-clause-near : goal.returns-then-f-e-clause-near
returns-then-f-e-clause-near c =
    let a = c.args in
    λ M X n h l e.
    up_held M X n a.f a.e.size h l c.requires e (omega arith)
    ∙ ap (λ (d : Bool). near_ten M a.f d X) (sym c.if-e.false)

pub returns-then-f-e-clause-reach : goal.returns-then-f-e-clause-reach
returns-then-f-e-clause-reach c =
    let a = c.args in
    λ X e.
    reach_up a.f a.e.size X e c.requires (omega arith)
    ∙ ap (λ (d : Bool). reaches farthest a.f d X) (sym c.if-e.false)

pub returns-clause-near : goal.returns-clause-near
returns-clause-near c =
    let a = c.args in
    λ M X n h l e.
    mid_held M X n a.f a.e.size h l c.requires e (omega arith)
    ∙ ap (λ (d : Bool). near_ten M a.f d X) (sym c.if-e.false)

pub returns-clause-reach : goal.returns-clause-reach
returns-clause-reach c =
    let a = c.args in
    λ X e.
    reach_mid a.f a.e.size X e c.requires (omega arith)
    ∙ ap (λ (d : Bool). reaches farthest a.f d X) (sym c.if-e.false)
