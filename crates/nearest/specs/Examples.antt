-- Some values of the definitions, worked out: each is what IEEE 754 has. Assumes nothing.
use Rattle.std.specs.Prelude.{◌+◌, ◌-◌, ◌*◌, ◌^◌, ◌≡◌, refl}
use Rattle.std.specs.Float.Ieee.{size}
use Rattle.nearest.specs.PatternUnits.{infinity, pattern_units}
use Rattle.nearest.specs.Near.{near, near_units}
use Rattle.nearest.specs.Product.{product, quotient, quiet, worth_of}

-- the f64 nearest to 1 is 1, whose exponent field is 1023
one : near 1 1 ≡ 0x3ff0_0000_0000_0000
unfolding near near_units size
one = refl

-- a tenth, whose binary digits go on for ever
tenth : near 1 10 ≡ 0x3fb9_9999_9999_999a
unfolding near near_units size
tenth = refl

-- 2 ^ 53 + 3 lies half way, and goes up to the even pattern
tie_up : near (2 ^ 53 + 3) 1 ≡ 0x4340_0000_0000_0002
unfolding near near_units size
tie_up = refl

-- three halves of the smallest f64 are a tie, and go up to two of it
three_halves : near 3 (2 ^ 1075) ≡ 2
unfolding near near_units size
three_halves = refl

-- half way past the largest f64 is a tie with infinity, whose pattern is even
overflow : near (2 ^ 1024 - 2 ^ 970) 1 ≡ infinity
unfolding near near_units size
overflow = refl

-- one less than half way past the largest f64 is the largest f64
largest : near (2 ^ 1024 - 2 ^ 970 - 1) 1 ≡ infinity - 1
unfolding near near_units size
largest = refl

-- -0 times 1 keeps its sign
minus_zero : product (2 ^ 63) 0x3ff0_0000_0000_0000 ≡ 2 ^ 63
unfolding worth_of pattern_units near near_units size
minus_zero = refl

-- infinity times 0 is no number
infinity_zero : product infinity 0 ≡ quiet
unfolding worth_of pattern_units
infinity_zero = refl

-- 0 by 0 is no number
zero_zero : quotient 0 0 ≡ quiet
unfolding worth_of pattern_units
zero_zero = refl

-- 1 by -0 is negative infinity
one_zero : quotient 0x3ff0_0000_0000_0000 (2 ^ 63) ≡ 2 ^ 63 + infinity
unfolding worth_of pattern_units
one_zero = refl

-- document 01: NANO metre is 1000.0 times the f64 1e-9: its bits end in ed8e, not in ed8d as those of the decimal 1e-6 do
nano : product (near 1000 1) (near 1 1000000000) ≡ 0x3eb0_c6f7_a0b5_ed8e
unfolding worth_of pattern_units near near_units size
nano = refl

-- the f64 nearest to the decimal 1e-6: its bits end in ed8d, and those of 1000.0 times the f64 1e-9 in ed8e
nano_once : near 1 1000000 ≡ 0x3eb0_c6f7_a0b5_ed8d
unfolding near near_units size
nano_once = refl

-- 5e-324 is nearest to the smallest f64, which is less than 5e-324
smallest : near 5 (10 ^ 324) ≡ 1
unfolding near near_units size
smallest = refl

-- half of the smallest f64, and one more in its last decimal digit, the 1075th behind the point: past the tie, it goes up
past_half : near (5 ^ 1075 + 1) (10 ^ 1075) ≡ 1
unfolding near near_units size
past_half = refl

-- 1.7976931348623158e308 is nearest to the largest f64
largest_decimal : near (17976931348623158 * 10 ^ 292) 1 ≡ infinity - 1
unfolding near near_units size
largest_decimal = refl

-- 1.7976931348623159e308 is past half way from the largest f64 to the next power of two, and gives infinity
overflow_decimal : near (17976931348623159 * 10 ^ 292) 1 ≡ infinity
unfolding near near_units size
overflow_decimal = refl
