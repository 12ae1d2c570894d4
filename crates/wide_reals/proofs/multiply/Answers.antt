use Prim.Native.Nat.{◌/◌, ◌%◌}
use native.Mathlib.Omega.{arith}
use Rattle.wide_reals.specs.LongArithmetic.{multiplied, column}
use Rattle.wide_reals.proofs.multiply.Goals as goal

-- `wide_reals::multiply` meets its contract: by the law of the columns. Assumes nothing.

pub overflow_mul-first : goal.overflow_mul-first
overflow_mul-first c = let h = column (c.args.a % 4294967296) (c.args.b % 4294967296) (omega arith) (omega arith) in record { fits = omega (arith, h) }

pub overflow_mul-second : goal.overflow_mul-second
overflow_mul-second c = let h = column (c.args.a / 4294967296) (c.args.b % 4294967296) (omega arith) (omega arith) in record { fits = omega (arith, h) }

pub overflow_add-second : goal.overflow_add-second
overflow_add-second c =
    let h = column (c.args.a / 4294967296) (c.args.b % 4294967296) (omega arith) (omega arith) in
    let k = column (c.args.a % 4294967296) (c.args.b % 4294967296) (omega arith) (omega arith) in
    record { fits = omega (arith, h, k) }

pub overflow_mul-third : goal.overflow_mul-third
overflow_mul-third c = let h = column (c.args.a % 4294967296) (c.args.b / 4294967296) (omega arith) (omega arith) in record { fits = omega (arith, h) }

pub overflow_add-third : goal.overflow_add-third
overflow_add-third c = let h = column (c.args.a % 4294967296) (c.args.b / 4294967296) (omega arith) (omega arith) in record { fits = omega (arith, h) }

pub overflow_mul-result : goal.overflow_mul-result
overflow_mul-result c = let h = column (c.args.a / 4294967296) (c.args.b / 4294967296) (omega arith) (omega arith) in record { fits = omega (arith, h) }

pub overflow_add-result : goal.overflow_add-result
overflow_add-result c =
    let h = column (c.args.a / 4294967296) (c.args.b / 4294967296) (omega arith) (omega arith) in
    let k = column (c.args.a / 4294967296) (c.args.b % 4294967296) (omega arith) (omega arith) in
    let l = column (c.args.a % 4294967296) (c.args.b % 4294967296) (omega arith) (omega arith) in
    record { fits = omega (arith, h, k, l) }

pub overflow_add-result-2 : goal.overflow_add-result-2
overflow_add-result-2 c =
    let h = column (c.args.a / 4294967296) (c.args.b / 4294967296) (omega arith) (omega arith) in
    let k = column (c.args.a / 4294967296) (c.args.b % 4294967296) (omega arith) (omega arith) in
    let l = column (c.args.a % 4294967296) (c.args.b % 4294967296) (omega arith) (omega arith) in
    let m = column (c.args.a % 4294967296) (c.args.b / 4294967296) (omega arith) (omega arith) in
    record { fits = omega (arith, h, k, l, m) }

pub returns : goal.returns
returns c = (multiplied c.args.a c.args.b, omega arith)
