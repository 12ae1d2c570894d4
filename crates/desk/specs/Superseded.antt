-- What is said of an id that several records have. Assumes nothing.
use Rattle.std.specs.Prelude.{ℕ, ◌<◌, ◌≤◌, List, [], ◌∷◌, ◌++◌}
use Rattle.io.specs.Digits.{last_digits, IsDigitCount}
use Rattle.common.specs.Bytes.{bytes}
use Rattle.printing.specs.Put.{Put}

-- Behind what a buffer holds: of one record nothing; of n records `the last of n records with this id`, and a line end.
pub record Superseded (old : List ℕ) (used n : ℕ) (new : List ℕ) (now : ℕ) : Type 0 where
  pub alone : n < 2 → Put old used [] new now
  pub several : 2 ≤ n → (width : ℕ) × IsDigitCount 10 1 n width × Put old used (bytes "the last of " ++ (last_digits 10 width n ++ (bytes " records with this id" ++ (10 ∷ [])))) new now
