-- What a buffer holds after something was put behind what it held. Assumes nothing.
use Rattle.std.specs.Prelude.{◌≡◌, ℕ, ◌+◌, ◌≤◌, List, ◌++◌, length, take}
use Rattle.io.specs.Digits.{last_digits, IsDigitCount}

-- A buffer `old`, of which the first `used` bytes are used, became `new`, with `now` bytes used, when `words` were put:
-- where they fit behind what it held, it holds that and then the words.
pub record Put (old : List ℕ) (used : ℕ) (words new : List ℕ) (now : ℕ) : Type 0 where
  pub within : used ≤ length old → now ≤ length new
  pub count : used + length words ≤ length old → now ≡ used + length words
  pub text : used + length words ≤ length old → take now new ≡ take used old ++ words

-- The same of the number n in decimal, in the fewest digits that hold it.
pub record PutNumber (old : List ℕ) (used n : ℕ) (new : List ℕ) (now : ℕ) : Type 0 where
  pub width : ℕ
  pub fewest : IsDigitCount 10 1 n width
  pub put : Put old used (last_digits 10 width n) new now
