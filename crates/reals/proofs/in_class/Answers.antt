use Prim.Native.Nat.{◌≤◌}
use mathlib.Core.Path.{ap}
use native.Mathlib.Omega.{arith}
use borrow.Author.Tests.{leb-true, le-leb}
use Rattle.common.specs.Tests.{both}
use Rattle.reals.specs.Answer.{read, farthest}
use lib.Dec.{ltb}
use Rattle.reals.specs.Scalar.{mantissa_bound}
use Rattle.reals.proofs.in_class.Goals as goal

-- `reals::in_class` meets its contract: by the two tests of the class. Assumes nothing.

pub returns-then-m-p : goal.returns-then-m-p
returns-then-m-p c =
    let k = both (ltb c.args.m mantissa_bound) _ c.if-m-p.true in
    let l : c.args.p.size ≤ farthest = omega (arith, leb-true _ _ k.1) in
    rw (k.0, le-leb c.args.p.size farthest l) (ap read c.scaled.ensures)
