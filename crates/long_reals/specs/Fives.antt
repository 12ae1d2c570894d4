-- The table of powers of five: one test that antt computes at every entry. Assumes nothing.
use Rattle.std.specs.Prelude.{ℕ, zero, suc, ◌^◌, ◌≤◌, ◌<◌, ◌≡◌, Bool, true, ◌&&◌, T, eqb, get_or}
use Rattle.std.proofs.Common.{subst, arith, eqb→eq}
use Rattle.std.proofs.Math.Decide.{dec_lt}
use Rattle.std.specs.Float.Ieee.Fits.{and_l, and_r}
use Rattle.long_reals.specs.declared.TheConstants.{POWERS_OF_FIVE}

-- the test of the table's entries below n: each is its power of five
abbrev five_below : ℕ → Bool
five_below zero = true
five_below (suc n) = eqb (get_or POWERS_OF_FIVE n 0) (5 ^ n) && five_below n

-- every entry of the table is its power of five
all_fives : T (five_below 28)
all_fives = tt

-- where the entries below n are right, so is that at k
five_from : (n k : ℕ) → T (five_below n) → k < n → get_or POWERS_OF_FIVE k 0 ≡ 5 ^ k
five_from zero k t h = absurd (omega arith)
five_from (suc n) k t h = go (λ l. five_from n k (and_r (eqb (get_or POWERS_OF_FIVE n 0) (5 ^ n)) (five_below n) t) l) (dec_lt k n)
  where
    go : (k < n → get_or POWERS_OF_FIVE k 0 ≡ 5 ^ k) → Dec (k < n) → get_or POWERS_OF_FIVE k 0 ≡ 5 ^ k
    go below (yes l) = below l
    go below (no g) =
        let e : n ≡ k = omega arith in
        subst (λ (j : ℕ). get_or POWERS_OF_FIVE j 0 ≡ 5 ^ j) e (eqb→eq (get_or POWERS_OF_FIVE n 0) (5 ^ n) (and_l (eqb (get_or POWERS_OF_FIVE n 0) (5 ^ n)) (five_below n) t))

-- entry k of the table is 5 ^ k
pub five_at : (k : ℕ) → k ≤ 27 → get_or POWERS_OF_FIVE k 0 ≡ 5 ^ k
five_at k h = five_from 28 k all_fives (omega arith)
