use Prim.Native.Nat.{ℕ, ◌+◌, ◌*◌, ◌/◌, ◌^◌, ◌≤◌, ◌<◌}
use mathlib.Core.Path.{◌≡◌, refl, sym, ◌∙◌, ap, subst}
use mathlib.Core.Logic.{inl, inr, ⊎_elim}
use mathlib.Core.Bool.{Bool, true, false, ◌||◌}
use native.Mathlib.Nat.{pos_of_ne-zero}
use native.Mathlib.Omega.{arith}
use borrow.Author.Tests.{eqb-true, eqb-false, ltb-true, ltb-false}
use lib.Dec.{eqb, ltb}
use lib.ListN.{take, length-take}
use Rattle.common.specs.Tests.{neither}
use Rattle.nearest.specs.Near.{near}
use Rattle.nearest.specs.Nearest.{signed}
use Rattle.limbs.specs.Worth.{worth}
use Rattle.limbs.specs.Laws.{worth_replicate}
use Rattle.long_reals.specs.Far.{word_lt, ahead_enough}
use Rattle.long_reals.proofs.Far.{far_zero}
use Rattle.nearest.proofs.Borders.{near_nothing}
use Rattle.nearest.specs.PowerLaws.{ten_pos}
use Rattle.long_reals.specs.DigitsInRoom.{scaled_whole}
use Rattle.long_reals.proofs.lowered.Goals as goal

-- `long_reals::lowered` meets its contract: far away it is 0, and else the number is moved up and divided. Assumes nothing.

-- 0, and a `u64` by 10 ^ 344 or more, is nearest to 0
far : (m k : ℕ) → m < 2 ^ 64 → (eqb m 0 || ltb 343 k) ≡ true → near m (10 ^ k) ≡ 0
far m k h e = go (eqb m 0) (eqb-true m 0) (ltb-true 343 k) e
  where
    go : (b : Bool) → (b ≡ true → m ≡ 0) → (ltb 343 k ≡ true → 343 < k) → (b || ltb 343 k) ≡ true → near m (10 ^ k) ≡ 0
    go true f g e = ap (λ (x : ℕ). near x (10 ^ k)) (f refl) ∙ near_nothing (10 ^ k) (ten_pos k)
    go false f g e = let l = g e in far_zero m 20 k (word_lt m h) (omega arith)

-- a number that is not 0
some : (m : ℕ) → eqb m 0 ≡ false → 0 < m
some m e = pos_of_ne-zero (eqb-false m 0 e)

pub returns-then-m-k : goal.returns-then-m-k
returns-then-m-k c =
    let p = c.args in
    c.with_sign.ensures ∙ ap (signed p.neg) (sym (far p.m p.k c.ranges.m.fits c.if-m-k.true))

pub ahead-s-requires : goal.ahead-s-requires
ahead-s-requires c = let p = c.args in ltb-false 343 p.k (neither (eqb p.m 0) (ltb 343 p.k) c.if-m-k.false).1

pub put-requires : goal.put-requires
put-requires c = (worth_replicate 32, omega (arith, c.ahead-s.ensures.2))

pub lowered_in-requires : goal.lowered_in-requires
lowered_in-requires c =
    let p = c.args in
    let h = c.ahead-s in
    let s = h.result in
    let e : worth (take (s / 32 + 3) c.put.new.a) ≡ p.m * 2 ^ s = c.put.ensures in
    let f = h.ensures.2 in
    (h.ensures.0, ⊎_elim (λ w. inl w) (λ w. inr (subst (λ (x : ℕ). 5 ^ p.k * 2 ^ 64 ≤ x) (sym e) (ahead_enough p.m p.k s (some p.m (neither (eqb p.m 0) (ltb 343 p.k) c.if-m-k.false).0) w))) h.ensures.1, simp length-take (omega arith))

pub returns : goal.returns
returns c =
    let p = c.args in
    let s = c.ahead-s.result in
    let q = c.put in
    c.lowered_in.ensures p.m (10 ^ p.k) (scaled_whole p.m (worth (take (s / 32 + 3) q.new.a)) s p.k q.ensures)
