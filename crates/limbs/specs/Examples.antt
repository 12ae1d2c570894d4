-- Some numbers in digits, worked out: each is what it is by hand. Assumes nothing.
use Rattle.std.specs.Prelude.{◌≡◌, refl, true, false, [], ◌∷◌}
use Rattle.std.proofs.Common.{inl, inr, arith}
use Rattle.limbs.specs.Worth.{worth, Scaled, Divided, LeadingDigitsOf}

-- digits 7 and 2, the lower first, make 7 + 2 * 2 ^ 32
two : worth (7 ∷ 2 ∷ []) ≡ 8589934599
unfolding worth
two = refl

-- digits 0 above others add nothing
above : worth (7 ∷ 2 ∷ 0 ∷ 0 ∷ []) ≡ worth (7 ∷ 2 ∷ [])
unfolding worth
above = refl

-- 2 ^ 64 - 1, times ten and five more, is 9 * 2 ^ 64 and 2 ^ 64 - 5
times_ten : Scaled (4294967295 ∷ 4294967295 ∷ []) 10 5 (4294967291 ∷ 4294967295 ∷ []) 9
unfolding worth
times_ten = record { same = refl; whole = refl }

-- of no digits all that is added is left over
of_none : Scaled [] 10 5 [] 5
unfolding worth
of_none = record { same = refl; whole = refl }

-- 2 ^ 32 by ten: the rest of the upper digit goes down to the lower
by_ten : Divided (0 ∷ 1 ∷ []) 10 (429496729 ∷ 0 ∷ []) 6
unfolding worth
by_ten = record { same = refl; by_zero = λ e. absurd (omega arith); quotient = λ l. (refl, omega arith) }

-- a number divided by 0 keeps its digits, and 0 is left
by_none : Divided (3 ∷ 4 ∷ []) 0 (3 ∷ 4 ∷ []) 0
by_none = record { same = refl; by_zero = λ e. (refl, refl); quotient = λ l. absurd (omega arith) }

-- a number of two digits is its own head
short : LeadingDigitsOf (worth (7 ∷ 2 ∷ 0 ∷ [])) (record { digits = 8589934599; limbs = 0; bits = 0; more = false })
unfolding worth
short = record { rest = 0; whole = refl; under = omega arith; left = refl; leads = inl (refl, refl) }

-- 2 ^ 96 + 5: the leading digit and 63 zeros, and something below the 33 that are cut
long : LeadingDigitsOf (worth (5 ∷ 0 ∷ 0 ∷ 1 ∷ [])) (record { digits = 9223372036854775808; limbs = 1; bits = 1; more = true })
unfolding worth
long = record { rest = 5; whole = refl; under = omega arith; left = refl; leads = inr (omega arith, omega arith, omega arith) }

-- 2 ^ 96 - 1 has 32 ones below its head
ones : LeadingDigitsOf (worth (4294967295 ∷ 4294967295 ∷ 4294967295 ∷ [])) (record { digits = 18446744073709551615; limbs = 0; bits = 32; more = true })
unfolding worth
ones = record { rest = 4294967295; whole = refl; under = omega arith; left = refl; leads = inr (omega arith, omega arith, omega arith) }
