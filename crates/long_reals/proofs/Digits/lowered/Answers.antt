use Prim.Native.Nat.{◌^◌, ◌<◌}
use mathlib.Core.Path.{refl, sym, ◌∙◌, ap}
use native.Mathlib.Omega.{arith}
use lib.ListN.{drop, length-drop}
use Rattle.nearest.specs.Nearest.{signed}
use Rattle.limbs.specs.Laws.{worth_replicate}
use Rattle.long_reals.specs.Number.{number_in}
use Rattle.long_reals.specs.DigitsRight.{digits_le, made_lt}
use Rattle.long_reals.specs.Far.{far_infinity}
use Rattle.long_reals.proofs.Far.{far_zero}
use Rattle.long_reals.proofs.Digits.lowered.Goals as goal

-- `long_reals::Digits::lowered` meets its contract: far away it is 0 or infinity, and else the digits are read. Assumes nothing.

pub overflow_add-self : goal.overflow_add-self
overflow_add-self c =
    let d = c.args.self in
    let g = digits_le (drop d.first d.text.now) in
    let l = length-drop d.first d.text.now in
    record { fits = omega (arith, d.counted, c.well_formed) }

pub returns-then-self-k : goal.returns-then-self-k
returns-then-self-k c =
    let d = c.args.self in
    let l : number_in 0 d.text.now < 10 ^ d.many = made_lt d.text.now d.first d.many d.same d.counted in
    c.with_sign.ensures ∙ ap (signed d.neg) (sym (far_zero (number_in 0 d.text.now) d.many c.args.k l c.if-self-k.true))

pub overflow_add-k : goal.overflow_add-k
overflow_add-k c =
    let d = c.args.self in
    let g = digits_le (drop d.first d.text.now) in
    let l = length-drop d.first d.text.now in
    record { fits = omega (arith, d.counted, c.well_formed, c.if-self-k.false) }

pub returns-then-k-self : goal.returns-then-k-self
returns-then-k-self c =
    let d = c.args.self in
    c.endless.ensures ∙ ap (signed d.neg) (sym (far_infinity (number_in 0 d.text.now) d.many c.args.k d.leading c.if-k-self.true))

pub lowered_whole-requires : goal.lowered_whole-requires
lowered_whole-requires c = (c.if-k-self.false, c.if-k-le1075.true, refl, worth_replicate 192)
