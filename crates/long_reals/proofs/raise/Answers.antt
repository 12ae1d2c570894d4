use Prim.Native.Nat.{ℕ, ◌+◌, ◌*◌, ◌/◌, ◌%◌, ◌^◌}
use mathlib.Core.Path.{◌≡◌, sym, ◌∙◌, ap}
use native.Mathlib.Nat.{mul_assoc}
use native.Mathlib.Omega.{arith}
use lib.ListN.{take}
use Rattle.limbs.specs.Worth.{worth}
use Rattle.long_reals.specs.Steps.{powers_joined}
use Rattle.long_reals.proofs.raise.Goals as goal

-- `long_reals::raise` meets its contract: each step is 5 ^ 13 and one digit more. Assumes nothing.

-- j powers of five more
goes : (w v i j n : ℕ) → i + j ≡ n → v ≡ w * 5 ^ i → v * 5 ^ j + 0 ≡ w * 5 ^ n
goes w v i j n e h = put (v * 5 ^ j) ∙ ap (λ (x : ℕ). x * 5 ^ j) h ∙ mul_assoc w (5 ^ i) (5 ^ j) ∙ ap (λ (x : ℕ). w * x) (powers_joined 5 i j n e)
  where
    put : (x : ℕ) → x + 0 ≡ x
    put x = omega arith

pub loop-i-preserved : goal.loop-i-preserved
loop-i-preserved c =
    let p = c.args in
    let i = c.loop-i.i in
    let e : p.used + (i + 1) ≡ p.used + i + 1 = omega arith in
    ap (λ (n : ℕ). worth (take n c.push.new.a)) e
    ∙ c.push.ensures
    ∙ goes (worth (take p.used p.a.now)) (worth (take (p.used + i) c.loop-i.a)) (13 * i) 13 (13 * (i + 1)) (omega arith) c.loop-i.invariant

pub returns : goal.returns
returns c =
    let p = c.args in
    let n = p.k / 13 in
    let e : n ≡ c.loop-i.i = omega arith in
    let v = worth (take (p.used + n) c.loop-i.a) in
    let h : v ≡ worth (take p.used p.a.now) * 5 ^ (13 * n) =
    ap (λ (x : ℕ). worth (take (p.used + x) c.loop-i.a)) e ∙ c.loop-i.invariant ∙ ap (λ (x : ℕ). worth (take p.used p.a.now) * 5 ^ (13 * x)) (sym e) in
    (c.push-2.ensures ∙ ap (λ (x : ℕ). v * x + 0) c.small_power.ensures ∙ goes (worth (take p.used p.a.now)) v (13 * n) (p.k % 13) p.k (omega arith) h, omega arith)
