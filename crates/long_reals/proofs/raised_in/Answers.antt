use Prim.Native.Nat.{ℕ, ◌^◌, ◌≤◌, ◌<◌}
use mathlib.Core.Logic.{inr}
use mathlib.Core.List.{List}
use native.Mathlib.Omega.{arith}
use lib.ListN.{length, take, length-take}
use Rattle.long_reals.specs.ScaledRight.{raised_leads, raises_to}
use Rattle.long_reals.proofs.raised_in.Goals as goal

-- `long_reals::raised_in` meets its contract: the head of the product shows the number. Assumes nothing.

-- no more digits stand below the head than the room has
few : (l n : ℕ) (xs : List ℕ) → l ≤ length (take n xs) → n ≤ 192 → l ≤ 192
few l n xs h g = omega (arith, length-take n xs)

pub slice_bounds-top-end-2 : goal.slice_bounds-top-end-2
slice_bounds-top-end-2 c = simp (length-take) (omega arith)

pub overflow_mul-t : goal.overflow_mul-t
overflow_mul-t c =
    let f = few c.top-t.result.limbs c.raise-n.result c.raise-n.new.a c.top-t.ensures.1 (omega (arith, c.requires.0, c.requires.3)) in
    record { fits = omega arith }

pub overflow_add-t : goal.overflow_add-t
overflow_add-t c =
    let f = few c.top-t.result.limbs c.raise-n.result c.raise-n.new.a c.top-t.ensures.1 (omega (arith, c.requires.0, c.requires.3)) in
    record { fits = omega arith }

pub overflow_add-t-2 : goal.overflow_add-t-2
overflow_add-t-2 c =
    let f = few c.top-t.result.limbs c.raise-n.result c.raise-n.new.a c.top-t.ensures.1 (omega (arith, c.requires.0, c.requires.3)) in
    record { fits = omega arith }

pub rounded-requires : goal.rounded-requires
rounded-requires c =
    let m : c.top-t.result.digits < 2 ^ 64 = omega arith in
    inr (raised_leads _ c.args.k _ c.top-t.result c.requires.2 c.raise-n.ensures.0 c.top-t.ensures.0 m)

pub returns : goal.returns
returns c =
    raises_to c.args.neg _ c.args.k _ c.top-t.result _ c.raise-n.ensures.0 c.top-t.ensures.0 c.rounded.ensures
