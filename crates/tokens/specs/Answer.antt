-- Where a byte is found, and what the answers about a string's and a comment's end say. Assumes nothing.
-- Definitions to be believed: no law, and nothing computed that no theorem ties (docs/BELIEVE.md).
use Rattle.std.specs.Prelude.{ℕ, ◌≤◌, ◌<◌, Bool, false, List, [], ◌∷◌, eqb, drop, Option, Some, None}
use Rattle.common.specs.Pick.{pick}

-- the rest from the first byte b on, or nothing where there is none
unfoldable pub from_byte : ℕ → List ℕ → List ℕ
from_byte b [] = []
from_byte b (c ∷ r) = pick (eqb c b) (c ∷ r) (from_byte b r)

-- whether a rest begins with the byte b
abbrev pub heads_with : ℕ → List ℕ → Bool
heads_with b [] = false
heads_with b (c ∷ r) = eqb c b

-- the rest after something that ends, or that it never does
pub data RestAfter : Type 0 where
  ends_before : List ℕ → RestAfter
  never : RestAfter

-- what the code's answer about an end says, of the bytes s: the rest after it, or that it never comes
abbrev pub told_token_end : List ℕ → Option ℕ → RestAfter
told_token_end s (Some p) = ends_before (drop p s)
told_token_end s None = never

-- an end lies after the start and not past the bytes' end
abbrev pub TokenEndIn : ℕ → ℕ → Option ℕ → Type 0
TokenEndIn start n (Some p) = (start < p) × (p ≤ n)
TokenEndIn start n None = Unit {0}
