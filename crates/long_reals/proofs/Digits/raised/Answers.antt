use Prim.Native.Nat.{ℕ, ◌+◌, ◌<◌}
use mathlib.Core.Path.{◌≡◌, refl, sym, ◌∙◌, ap}
use mathlib.Core.Bool.{Bool, true, false, ◌||◌}
use native.Mathlib.Omega.{arith}
use borrow.Author.Tests.{ltb-true, ltb-false}
use lib.Dec.{ltb}
use Rattle.common.specs.Tests.{neither}
use Rattle.nearest.specs.Nearest.{signed}
use Rattle.limbs.specs.Laws.{worth_replicate}
use Rattle.long_reals.specs.Number.{number_in}
use Rattle.long_reals.specs.Far.{high_infinity}
use Rattle.long_reals.proofs.Digits.raised.Goals as goal

-- `long_reals::Digits::raised` meets its contract: far away it is infinity, and else the digits are read. Assumes nothing.

-- either of two tests is enough
past : (n k : ℕ) → 0 < n → (ltb 309 n || ltb 308 k) ≡ true → 309 < n + k
past n k h e = go (ltb 309 n) (ltb-true 309 n) (ltb-true 308 k) e
  where
    go : (b : Bool) → (b ≡ true → 309 < n) → (ltb 308 k ≡ true → 308 < k) → (b || ltb 308 k) ≡ true → 309 < n + k
    go true f g e = let l = f refl in omega arith
    go false f g e = let l = g e in omega arith

pub returns-then-self-k : goal.returns-then-self-k
returns-then-self-k c =
    let d = c.args.self in
    c.endless.ensures ∙ ap (signed d.neg) (sym (high_infinity (number_in 0 d.text.now) d.many c.args.k d.leading (past d.many c.args.k d.some c.if-self-k.true)))

pub overflow_add-self : goal.overflow_add-self
overflow_add-self c = let d = c.args.self in let b = neither (ltb 309 d.many) (ltb 308 c.args.k) c.if-self-k.false in let u = ltb-false 309 d.many b.0 in let v = ltb-false 308 c.args.k b.1 in record { fits = omega arith }

pub returns-then-self-k-gt309 : goal.returns-then-self-k-gt309
returns-then-self-k-gt309 c =
    let d = c.args.self in
    c.endless-then-self-k-gt309.ensures ∙ ap (signed d.neg) (sym (high_infinity (number_in 0 d.text.now) d.many c.args.k d.leading c.if-self-k-gt309.true))

pub raised_whole-requires : goal.raised_whole-requires
raised_whole-requires c =
    let d = c.args.self in
    let b = neither (ltb 309 d.many) (ltb 308 c.args.k) c.if-self-k.false in
    (c.if-self-k-gt309.false, ltb-false 308 c.args.k b.1, refl, worth_replicate 64)
