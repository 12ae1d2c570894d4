-- A number above all arms of a match is none of them. Assumes nothing.
use Rattle.std.proofs.Common.{ℕ, zero, suc, ◌+◌, ◌≤◌, arith}
use Rattle.common.specs.Tests.{Avoids}

-- a number that is at least i + n is none of the n numbers from i on
pub beyond_all : (i n k : ℕ) → i + n ≤ k → Avoids i n k
beyond_all i zero k h = tt
beyond_all i (suc n) k h = (beyond_all i n k (omega arith), λ e. omega arith)
