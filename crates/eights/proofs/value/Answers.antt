use Prim.Native.Nat.{◌+◌, ◌-◌, ◌*◌, ◌/◌}
use native.Mathlib.Omega.{arith}
use lib.Bits.{and_le_r}
use Rattle.eights.specs.Right.{threes, pairs_of, makes}
use Rattle.eights.proofs.value.Goals as goal

-- `eights::value` meets its contract: a mask bounds what is multiplied, and the three sums make the number. Assumes nothing.

pub overflow_mul-fours : goal.overflow_mul-fours
overflow_mul-fours c =
    let x = c.args.w - threes in
    let l = and_le_r (x * 10 + x / 256) 0x00ff_00ff_00ff_00ff in
    record { fits = omega arith }

pub overflow_add-fours : goal.overflow_add-fours
overflow_add-fours c =
    let x = c.args.w - threes in
    let l = and_le_r (x * 10 + x / 256) 0x00ff_00ff_00ff_00ff in
    record { fits = omega arith }

pub overflow_mul-result : goal.overflow_mul-result
overflow_mul-result c =
    let p = pairs_of (c.args.w - threes) in
    let l = and_le_r (p * 100 + p / 65536) 0x0000_ffff_0000_ffff in
    record { fits = omega arith }

pub overflow_add-result : goal.overflow_add-result
overflow_add-result c =
    let p = pairs_of (c.args.w - threes) in
    let l = and_le_r (p * 100 + p / 65536) 0x0000_ffff_0000_ffff in
    record { fits = omega arith }

pub returns : goal.returns
returns c = λ a b d e f g h i al is. makes a b d e f g h i c.args.w al is
