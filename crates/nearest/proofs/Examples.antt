-- Ties of the definition, worked out: each goes to the even pattern, as IEEE 754 has it. Assumes nothing.
use Rattle.std.specs.Prelude.{◌+◌, ◌^◌, ◌≡◌, refl}
use Rattle.std.specs.Float.Ieee.{size}
use Rattle.nearest.specs.Near.{near, near_units}

-- a tie goes to the even pattern: 2 ^ 53 + 1 goes down to 2 ^ 53
tie_down : near (2 ^ 53 + 1) 1 ≡ 0x4340_0000_0000_0000
unfolding near near_units size
tie_down = refl

-- half of the smallest f64 is a tie, and goes down to 0, whose pattern is even
half_smallest : near 1 (2 ^ 1075) ≡ 0
unfolding near near_units size
half_smallest = refl

-- half of the smallest f64, written as a decimal to its last digit, is a tie, and goes down to 0
half_decimal : near (5 ^ 1075) (10 ^ 1075) ≡ 0
unfolding near near_units size
half_decimal = refl
