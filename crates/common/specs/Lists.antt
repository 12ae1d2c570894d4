-- Laws of a list from a place on.
-- Assumes nothing.
use Rattle.std.specs.Prelude.{ℕ, ◌+◌, ◌≤◌, ◌<◌, ◌≡◌, List, [], ◌∷◌, length, drop, get_or}
use Rattle.std.proofs.Common.{add-one, drop_of_length-le, drop-cons}

-- the list from i on is the byte at i and the list from the next on
pub split : (xs : List ℕ) (i : ℕ) → i < length xs → drop i xs ≡ get_or xs i 0 ∷ drop (i + 1) xs
split xs i h = rw (add-one, drop-cons xs i 0)

-- nothing is left of a list from its end on
pub drop_end : (xs : List ℕ) (i : ℕ) → length xs ≤ i → drop i xs ≡ []
drop_end xs i h = drop_of_length-le xs h
