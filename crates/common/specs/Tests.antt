-- Laws of tests that are put together: both of two, none of two, a number within two bounds, a match that takes no arm.
-- Assumes nothing.
use Rattle.std.specs.Prelude.{ℕ, zero, suc, ◌+◌, ◌≤◌, ◌≡◌, refl, Bool, true, false, ◌&&◌, ◌||◌, leb}
use Rattle.std.proofs.Common.{arith, leb-true, le-leb}
use Rattle.common.specs.Compare.{clash}

-- where two tests put together by `&&` hold, both hold
pub both : (a b : Bool) → a && b ≡ true → (a ≡ true) × (b ≡ true)
both true b e = (refl, e)
both false b e = clash (cc)

-- where two tests put together by `||` fail, both fail
pub neither : (a b : Bool) → a || b ≡ false → (a ≡ false) × (b ≡ false)
neither true b e = clash (cc)
neither false b e = (refl, e)

-- a number that passes a range's test lies in the range
pub bounds : (l c m : ℕ) → leb l c && leb c m ≡ true → (l ≤ c) × (c ≤ m)
bounds l c m e = let p = both (leb l c) (leb c m) e in (leb-true l c p.0, leb-true c m p.1)

-- a number that lies in a range passes the range's test
pub in_range : (l c m : ℕ) → l ≤ c → c ≤ m → leb l c && leb c m ≡ true
in_range l c m p q = rw (le-leb l c p, le-leb c m q) refl

-- k is none of the n numbers from i on, as past n arms of a match
abbrev pub Avoids : ℕ → ℕ → ℕ → Type 0
Avoids i zero k = Unit
Avoids i (suc n) k = Avoids i n k × (k ≡ i + n → ⊥)

-- a number that is none of the n numbers from i on, and is not below i, comes after them
pub avoided : (i n k : ℕ) → i ≤ k → Avoids i n k → i + n ≤ k
avoided i zero k l h = omega arith
avoided i (suc n) k l h = let below = avoided i n k l h.0 in let other = h.1 in omega arith
