-- Where a rest of the file begins: laws. Assumes nothing.
use Rattle.std.specs.Prelude.{ℕ, ◌≤◌, ◌≡◌, List, length, drop}
use Rattle.std.proofs.Common.{arith, length-drop}
use Rattle.lex.specs.Byte.{place}

-- "with a place from 0 to the input's length" (demand 1): where any rest begins
pub place_within : (s r : List ℕ) → place s r ≤ length s
place_within s r = omega arith

-- the rest from i on begins at i
pub place_drop : (s : List ℕ) (i : ℕ) → i ≤ length s → place s (drop i s) ≡ i
place_drop s i h = simp length-drop (omega arith)
