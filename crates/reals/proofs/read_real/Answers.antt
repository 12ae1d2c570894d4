use Prim.Native.Nat.{◌<◌, ◌^◌}
use lib.ListN.{length}
use borrow.Author.Rules.{rules}
use mathlib.Core.Path.{refl}
use native.Mathlib.Omega.{arith}
use lib.Ieee.{binary64, to_bits}
use Rattle.reals.specs.Read.{no_digit, bad_tens, good_class_by, good_any_by, m_held}
use Rattle.reals.proofs.read_real.Goals as goal

-- `reals::read_real` meets its contract: what its parts promise, put together by the laws of Read.antt. Assumes nothing.

pub fraction_from-d-requires : goal.fraction_from-d-requires
fraction_from-d-requires c = let v = c.digits_from-w.ensures.value 0 refl in (c.digits_from-w.ensures.within, omega arith)

pub returns-then-point-a : goal.returns-then-point-a
returns-then-point-a c =
    no_digit c.args.t.now c.past_sign-a.result c.past_sign-a.ensures.0 c.past_sign-a.ensures.1 c.digits_from-w.result c.digits_from-w.ensures c.fraction_from-d.result c.fraction_from-d.ensures c.args.which c.if-point-a.true

pub returns-in_default : goal.returns-in_default
returns-in_default c =
    bad_tens c.args.t.now c.past_sign-a.result c.past_sign-a.ensures.0 c.past_sign-a.ensures.1 c.digits_from-w.result c.digits_from-w.ensures c.fraction_from-d.result c.fraction_from-d.ensures c.args.which c.if-point-a.false (rw c.in_default.is at c.tens_from.ensures)

pub any_real-requires : goal.any_real-requires
any_real-requires c =
    m_held c.args.t.now c.past_sign-a.result c.past_sign-a.ensures.0 c.past_sign-a.ensures.1 c.digits_from-w.result c.digits_from-w.ensures c.fraction_from-d.result c.fraction_from-d.ensures

pub returns-in-Class : goal.returns-in-Class
returns-in-Class c =
    rw c.in-Class.is
    (good_class_by c.args.t.now c.past_sign-a.result c.past_sign-a.ensures.0 c.past_sign-a.ensures.1 c.digits_from-w.result c.digits_from-w.ensures c.fraction_from-d.result c.fraction_from-d.ensures c.minus_at-neg.result _ c.less_places-p.result c.in_class.result c.if-point-a.false c.minus_at-neg.ensures (rw c.in-Some.is at c.tens_from.ensures) c.less_places-p.ensures.near c.less_places-p.ensures.reach c.in_class.ensures)

pub returns-in-Any : goal.returns-in-Any
returns-in-Any c =
    let l : length c.args.t.now < 2 ^ 63 = search rules in
    rw c.in-Any.is
    (good_any_by c.args.t.now c.past_sign-a.result c.past_sign-a.ensures.0 c.past_sign-a.ensures.1 c.digits_from-w.result c.digits_from-w.ensures c.fraction_from-d.result c.fraction_from-d.ensures c.minus_at-neg.result _ c.less_places-p.result (to_bits binary64 c.any_real.result) l c.if-point-a.false c.minus_at-neg.ensures (rw c.in-Some.is at c.tens_from.ensures) c.less_places-p.ensures.near c.any_real.ensures)
