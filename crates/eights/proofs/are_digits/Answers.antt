use Prim.Native.Nat.{◌+◌}
use mathlib.Core.Path.{refl}
use native.Mathlib.Omega.{arith}
use lib.Bits.{bit_and}
use lib.Dec.{eqb}
use Rattle.eights.specs.Right.{uppers, threes, sixes, threes_lt, digits_none, digits_told}
use Rattle.eights.proofs.are_digits.Goals as goal

-- `eights::are_digits` meets its contract: the first test, and where it passes the second. Assumes nothing.

pub returns-then-w-ne3472328296227680304 : goal.returns-then-w-ne3472328296227680304
returns-then-w-ne3472328296227680304 c = λ a b d e f g h i bytes is. digits_none a b d e f g h i c.args.w bytes is c.if-w-ne3472328296227680304.true

pub overflow_add-result : goal.overflow_add-result
overflow_add-result c =
    let w = c.args.w in
    let l = threes_lt w c.ranges.w.fits c.if-w-ne3472328296227680304.false in
    record { fits = omega arith }

pub returns : goal.returns
returns c = λ a b d e f g h i bytes is.
    let w = c.args.w in
    digits_told a b d e f g h i w bytes is (eqb (bit_and (w + sixes) uppers) threes) refl c.if-w-ne3472328296227680304.false
