use native.Mathlib.Omega.{arith}
use Rattle.wide_reals.specs.LongArithmetic.{error_le, mod_le, digit_right, digit_more, quotient_digit_lt}
use Rattle.wide_reals.proofs.next_digit.Goals as goal

-- `wide_reals::next_digit` meets its contract: the digit is right, or one too small. Assumes nothing.

pub overflow_mul-rest : goal.overflow_mul-rest
overflow_mul-rest c =
    let p = c.requires in
    let m = mod_le c.args.r c.args.d p.0 p.1 p.2 in
    let h = p.1 in
    record { fits = omega (arith, m, h) }

pub overflow_mul-rest-2 : goal.overflow_mul-rest-2
overflow_mul-rest-2 c =
    let p = c.requires in
    let e = error_le c.args.r c.args.d p.0 p.1 p.2 in
    record { fits = omega (arith, e) }

pub overflow_add-rest : goal.overflow_add-rest
overflow_add-rest c =
    let p = c.requires in
    let e = error_le c.args.r c.args.d p.0 p.1 p.2 in
    let m = mod_le c.args.r c.args.d p.0 p.1 p.2 in
    let h = p.1 in
    record { fits = omega (arith, e, m, h) }

pub returns-then-rest-d : goal.returns-then-rest-d
returns-then-rest-d c =
    let a = c.args in
    let p = c.requires in
    digit_right a.r a.d p.0 p.1 p.2 c.if-rest-d.true

pub overflow_add-result : goal.overflow_add-result
overflow_add-result c =
    let p = c.requires in
    let l = quotient_digit_lt c.args.r c.args.d p.0 p.1 p.2 in
    record { fits = omega (arith, l) }

pub returns : goal.returns
returns c =
    let a = c.args in
    let p = c.requires in
    digit_more a.r a.d p.0 p.1 p.2 (omega arith)
