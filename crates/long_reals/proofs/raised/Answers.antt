use Prim.Native.Nat.{ℕ, ◌*◌, ◌^◌, ◌≤◌, ◌<◌}
use mathlib.Core.Path.{◌≡◌, sym, ◌∙◌, ap, subst}
use native.Mathlib.Nat.{pos_of_ne-zero, zero-mul}
use native.Mathlib.Omega.{arith}
use lib.ListN.{take}
use Rattle.nearest.specs.Near.{near}
use Rattle.nearest.specs.Nearest.{signed}
use Rattle.limbs.specs.Worth.{worth}
use Rattle.limbs.specs.Laws.{worth_replicate}
use Rattle.long_reals.specs.Far.{high_infinity}
use Rattle.nearest.proofs.Borders.{near_nothing}
use Rattle.long_reals.proofs.raised.Goals as goal

-- `long_reals::raised` meets its contract: far away it is infinity, and else the number is multiplied. Assumes nothing.

-- a number that is not 0 has a digit
ten_le : (m : ℕ) → 0 < m → 10 ^ 1 ≤ 10 * m
ten_le m h = omega arith

-- moved up by 64 binary digits it is 2 ^ 64 or more
large : (m : ℕ) → 0 < m → 2 ^ 64 ≤ m * 2 ^ 64
large m h = omega arith

pub returns-then-m-eq0 : goal.returns-then-m-eq0
returns-then-m-eq0 c =
    let p = c.args in
    c.with_sign.ensures ∙ ap (signed p.neg) (sym (ap (λ (x : ℕ). near x 1) (ap (λ (x : ℕ). x * 10 ^ p.k) c.if-m-eq0.true ∙ zero-mul (10 ^ p.k)) ∙ near_nothing 1 (omega arith)))

pub returns-then-k-gt308 : goal.returns-then-k-gt308
returns-then-k-gt308 c =
    let p = c.args in
    let m = pos_of_ne-zero c.if-m-eq0.false in
    c.endless.ensures ∙ ap (signed p.neg) (sym (high_infinity p.m 1 p.k (ten_le p.m m) (omega (arith, c.if-k-gt308.true))))

pub put-requires : goal.put-requires
put-requires c = (worth_replicate 32, omega arith)

pub raised_in-requires : goal.raised_in-requires
raised_in-requires c =
    let p = c.args in
    let e : worth (take 5 c.put.new.a) ≡ p.m * 2 ^ 64 = c.put.ensures in
    let m = pos_of_ne-zero c.if-m-eq0.false in
    let k = c.if-k-gt308.false in
    (omega arith, k, subst (λ (x : ℕ). 2 ^ 64 ≤ x) (sym e) (large p.m m), omega arith)

pub returns : goal.returns
returns c = let p = c.args in c.raised_in.ensures p.m (sym c.put.ensures)
