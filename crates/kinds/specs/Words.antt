-- Two texts that are compared letters in either case: as capitals and as small letters they are the same just together.
-- Assumes nothing.
use Rattle.std.specs.Prelude.{ℕ, ◌≡◌, refl, List, map, [], ◌∷◌}
use Rattle.std.proofs.Common.{ap₂, arith}
use Rattle.std.specs.Char.{to_ascii_lowercase}
use Rattle.std.proofs.lemmas.Bool.Decides.{nat_tests}
use Rattle.record.specs.Byte.{upper}

-- a byte made small has the capital that it had
upper_lower : (c : ℕ) → upper (to_ascii_lowercase c) ≡ upper c
upper_lower c = grind (arith, nat_tests)

-- a byte made a capital has the small letter that it had
lower_upper : (c : ℕ) → to_ascii_lowercase (upper c) ≡ to_ascii_lowercase c
lower_upper c = grind (arith, nat_tests)

-- a text made small has the capitals that it had
pub uppers : (t : List ℕ) → map upper (map to_ascii_lowercase t) ≡ map upper t
uppers [] = refl
uppers (c ∷ t) = ap₂ ◌∷◌ (upper_lower c) (uppers t)

-- a text made of capitals has the small letters that it had
pub lowers : (t : List ℕ) → map to_ascii_lowercase (map upper t) ≡ map to_ascii_lowercase t
lowers [] = refl
lowers (c ∷ t) = ap₂ ◌∷◌ (lower_upper c) (lowers t)
