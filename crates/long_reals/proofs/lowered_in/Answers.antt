use Prim.Native.Nat.{◌^◌, ◌<◌}
use native.Mathlib.Omega.{arith}
use Rattle.long_reals.specs.ScaledRight.{lowered_leads, lowers_to}
use Rattle.long_reals.proofs.lowered_in.Goals as goal

-- `long_reals::lowered_in` meets its contract: the head of what the division leaves shows the fraction. Assumes nothing.

pub rounded-requires : goal.rounded-requires
rounded-requires c =
    let m : c.top-t.result.digits < 2 ^ 64 = omega arith in
    lowered_leads _ c.args.s c.args.k c.lower-left.result _ c.top-t.result c.requires.1 c.lower-left.ensures c.top-t.ensures.0 m

pub returns : goal.returns
returns c =
    lowers_to c.args.neg _ c.args.s c.args.k c.args.more c.lower-left.result _ c.top-t.result _ c.requires.0 c.lower-left.ensures c.top-t.ensures.0 c.rounded.ensures
