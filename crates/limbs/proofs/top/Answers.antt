use Prim.Native.Nat.{◌-◌, ◌≤◌}
use native.Mathlib.Omega.{arith}
use borrow.Author.Rules.{rules}
use lib.Count.{leading_le}
use lib.ListN.{get_or}
use lib.Pow.{pow_pos}
use Rattle.limbs.specs.Top.{bits_of, bits_unit_is, head_short, high_bits, head_long}
use Rattle.limbs.proofs.top.Goals as goal

-- `limbs::top` meets its contract: by the law of a short number, or by that of the three highest digits. Assumes nothing.

pub returns-then-n-lt3 : goal.returns-then-n-lt3
returns-then-n-lt3 c =
    let h = c.highest-n in
    (head_short c.args.a.now h.result c.short_top.result h.ensures c.short_top.ensures, omega arith)

pub overflow_sub-bits-2 : goal.overflow_sub-bits-2
overflow_sub-bits-2 c = leading_le 32 (get_or c.args.a.now (c.highest-n.result - 1) 0)

pub nonzero_rem-rest : goal.nonzero_rem-rest
nonzero_rem-rest c =
    let b = bits_of (get_or c.args.a.now (c.highest-n.result - 1) 0) in
    rw (bits_unit_is b (omega arith)) (pow_pos b)

pub joined-requires : goal.joined-requires
joined-requires c =
    let more : 3 ≤ c.highest-n.result = omega (arith, c.if-n-lt3.false) in
    let b = high_bits c.args.a.now c.highest-n.result (search rules) c.highest-n.ensures more in
    (b.0, b.1, b.2)

pub returns : goal.returns
returns c =
    let n = c.highest-n.result in
    let more : 3 ≤ n = omega (arith, c.if-n-lt3.false) in
    let w = c.highest-n.ensures.within in
    (head_long c.args.a.now n (search rules) c.highest-n.ensures more c.joined.result c.any_below.result c.joined.ensures c.any_below.ensures, omega arith)
