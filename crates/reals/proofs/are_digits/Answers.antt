use mathlib.Core.Path.{refl}
use Rattle.reals.proofs.are_digits.Goals as goal

-- `reals::are_digits` meets its contract: each of the four tests is what its call says. Assumes nothing.

pub returns : goal.returns
returns c = rw (c.is_digit.ensures, c.is_digit-2.ensures, c.is_digit-3.ensures, c.is_digit-4.ensures) refl
