use native.Mathlib.Omega.{arith}
use Rattle.limbs.specs.Top.{no_limb, one_digit, two_digits}
use Rattle.limbs.proofs.short_top.Goals as goal

-- `limbs::short_top` meets its contract: of up to two digits the number is their sum. Assumes nothing.

pub returns-in-0 : goal.returns-in-0
returns-in-0 c = let p = c.args in no_limb p.a.now p.n (omega arith)

pub returns-in-1 : goal.returns-in-1
returns-in-1 c = one_digit c.args.a.now c.args.n (omega arith) c.requires.1

pub returns-in_default : goal.returns-in_default
returns-in_default c =
    let l = c.requires.0 in
    two_digits c.args.a.now c.args.n (omega arith) c.requires.1
