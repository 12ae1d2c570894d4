use Prim.Native.Nat.{ℕ, ◌*◌, ◌/◌, ◌%◌, ◌≤◌, ◌<◌}
use mathlib.Core.Path.{refl}
use native.Mathlib.Nat.{mod-lt, div-add-mod', div-lt_iff_lt-mul, le-div_iff_mul-le}
use native.Mathlib.Omega.{arith}
use Rattle.wide_reals.specs.LongArithmetic.{digit_short, quotient_splits}
use Rattle.wide_reals.proofs.divide.Goals as goal

-- `wide_reals::divide` meets its contract: three digits, one after the other. Assumes nothing.

-- the first digit is 1, 2 or 3
first_lt : (n d : ℕ) → n < 18446744073709551616 → 4611686018427387904 ≤ d → n / d < 4
first_lt n d h l = let p : 0 < d = omega arith in let g : n < 4 * d = omega arith in (div-lt_iff_lt-mul {x = n} {y = 4} p).1 g

-- not 0
first_ge : (n d : ℕ) → 9223372036854775808 ≤ n → d < 9223372036854775808 → 0 < d → 1 ≤ n / d
first_ge n d h l p = let g : 1 * d ≤ n = omega arith in (le-div_iff_mul-le {x = 1} {y = n} p).1 g

pub next_digit-first-requires : goal.next_digit-first-requires
next_digit-first-requires c = let l = c.requires.1 in (l, c.requires.2, mod-lt c.args.n (omega arith))

pub overflow_mul-result : goal.overflow_mul-result
overflow_mul-result c =
    let a = c.args in
    let l = c.requires.1 in
    let f = first_lt a.n a.d (omega arith) l in
    record { fits = omega (arith, f) }

pub overflow_mul-result-2 : goal.overflow_mul-result-2
overflow_mul-result-2 c =
    let g = c.next_digit-first in
    let p : 0 < c.args.d = let l = c.requires.1 in omega arith in
    let h = digit_short g.result.digit g.result.rest (c.args.n % c.args.d) c.args.d p g.ensures.0 (mod-lt c.args.n p) in
    record { fits = omega (arith, h) }

pub overflow_add-result : goal.overflow_add-result
overflow_add-result c =
    let g = c.next_digit-first in
    let l = c.requires.1 in
    let p : 0 < c.args.d = omega arith in
    let f = first_lt c.args.n c.args.d (omega arith) l in
    let h = digit_short g.result.digit g.result.rest (c.args.n % c.args.d) c.args.d p g.ensures.0 (mod-lt c.args.n p) in
    record { fits = omega (arith, f, h) }

pub overflow_add-result-2 : goal.overflow_add-result-2
overflow_add-result-2 c =
    let g = c.next_digit-first in
    let k = c.next_digit-second in
    let l = c.requires.1 in
    let p : 0 < c.args.d = omega arith in
    let f = first_lt c.args.n c.args.d (omega arith) l in
    let h = digit_short g.result.digit g.result.rest (c.args.n % c.args.d) c.args.d p g.ensures.0 (mod-lt c.args.n p) in
    let i = digit_short k.result.digit k.result.rest g.result.rest c.args.d p k.ensures.0 g.ensures.1 in
    record { fits = omega (arith, f, h, i) }

pub returns : goal.returns
returns c =
    let g = c.next_digit-first in
    let k = c.next_digit-second in
    let n = c.args.n in
    let d = c.args.d in
    let p : 0 < d = let l = c.requires.1 in omega arith in
    let f = first_ge n d c.requires.0 c.requires.2 p in (
      quotient_splits (n % d) d (n / d) g.result.digit n g.result.rest (g.result.rest * 134217728) (div-add-mod' n d) g.ensures.0 refl k.result.digit k.result.rest k.ensures.0,
      k.ensures.1,
      omega (arith, f),
    )
