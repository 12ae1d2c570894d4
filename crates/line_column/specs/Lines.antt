-- Line and column of a place, as an editor counts, without a loop: the bytes before it are whole lines, each ended by an LF and with none
-- inside, and then the bytes of the line that the place stands in. Both are counted from 0; the programs print one more.
-- LinesRight.antt shows that Spot.antt computes just these, and that there are no others.
-- Assumes nothing.
-- Definitions to be believed: no law, and nothing computed that no theorem ties (docs/BELIEVE.md).
use Rattle.std.specs.Prelude.{ℕ, suc, ◌≡◌, List, [], ◌∷◌, ◌++◌, length}

-- no LF is among these bytes
abbrev pub Unbroken : List ℕ → Type 0
Unbroken [] = Unit {0}
Unbroken (b ∷ r) = (b ≡ 10 → ⊥) × Unbroken r

-- n whole lines, each of which ends with an LF
pub data Lines : ℕ → List ℕ → Type 0 where
  none : Lines 0 []
  more : {n : ℕ} {r : List ℕ} (l : List ℕ) → Unbroken l → Lines n r → Lines (suc n) (l ++ (10 ∷ r))

-- the place behind the bytes s: so many whole lines stand before it, and so many bytes of its own line
pub record At (s : List ℕ) (line column : ℕ) : Type 0 where
  pub whole : List ℕ
  pub begun : List ℕ
  pub shape : s ≡ whole ++ begun
  pub lines : Lines line whole
  pub open' : Unbroken begun
  pub long : column ≡ length begun
