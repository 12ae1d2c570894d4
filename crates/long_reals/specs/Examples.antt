-- Some texts with the numbers that their digits make, and decimals with their nearest f64, worked out: each is what it is by hand, or what IEEE 754
-- has. Assumes nothing.
use Rattle.std.specs.Prelude.{◌≡◌, refl, true, false}
use Rattle.std.specs.Float.Ieee.{size}
use Rattle.nearest.specs.PatternUnits.{infinity}
use Rattle.nearest.specs.Near.{near, near_units}
use Rattle.nearest.specs.Power.{near_by}
use Rattle.common.specs.Bytes.{bytes}
use Rattle.long_reals.specs.Digits.{digits_in}
use Rattle.long_reals.specs.Number.{number_in}

-- the point between digits is passed over
point : number_in 0 (bytes "3.14") ≡ 314
unfolding number_in
point = refl

-- the point between digits is not counted
point_digits : digits_in (bytes "3.14") ≡ 3
unfolding digits_in
point_digits = refl

-- digits go on from the number before them
after_twelve : number_in 12 (bytes ".3") ≡ 123
unfolding number_in
after_twelve = refl

-- a text without digits makes 0
no_digits : number_in 0 (bytes "-.") ≡ 0
unfolding number_in
no_digits = refl

-- leading zeros are worth nothing: `0.0050` makes 50
leading : number_in 0 (bytes "0.0050") ≡ 50
unfolding number_in
leading = refl

-- leading zeros are counted: `0.0050` has five digits
leading_digits : digits_in (bytes "0.0050") ≡ 5
unfolding digits_in
leading_digits = refl

-- 9E-324 is nearest to twice the least f64
lowest_two : near_by true (number_in 0 (bytes "9.")) 324 ≡ 2
unfolding number_in near near_units size
lowest_two = refl

-- 2E-324 is below half of the least f64, and gives 0
lowest_none : near_by true (number_in 0 (bytes "2.")) 324 ≡ 0
unfolding number_in near near_units size
lowest_none = refl

-- 2 ^ 53 + 1 as a decimal lies half way, and goes down to the even pattern
tie : near_by true (number_in 0 (bytes "9007199254740993.000")) 3 ≡ 0x4340_0000_0000_0000
unfolding number_in near near_units size
tie = refl

-- 2 ^ 53 + 1 and a digit 1 far behind the point is past half way, and goes up
past_tie : near_by true (number_in 0 (bytes "9007199254740993.00000000000000000000000000000001")) 32 ≡ 0x4340_0000_0000_0001
unfolding number_in near near_units size
past_tie = refl

-- 1.7976931348623158E308 gives the largest f64
largest : near_by false (number_in 0 (bytes "1.7976931348623158")) 292 ≡ 0x7fef_ffff_ffff_ffff
unfolding number_in near near_units size
largest = refl

-- 1.7976931348623159E308 gives infinity
past_largest : near_by false (number_in 0 (bytes "1.7976931348623159")) 292 ≡ infinity
unfolding number_in near near_units size
past_largest = refl
