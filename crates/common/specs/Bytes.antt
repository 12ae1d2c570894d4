-- Bytes written as the characters that they are, so that a rule shows what the document shows. Assumes nothing.
-- Definitions to be believed: no law, and nothing computed that no theorem ties (docs/BELIEVE.md).
use Rattle.std.specs.Prelude.{ℕ, List, [], ◌∷◌}
use Prim.Native.Char.{code}
use Prim.Native.String.{String}

-- a text's bytes, where it is in ASCII
abbrev pub bytes : String → List ℕ
bytes String.[] = []
bytes (String.◌∷◌ c s) = code c ∷ bytes s

-- the byte of a text of one character; a text without characters has none and gives 0
abbrev pub byte : String → ℕ
byte String.[] = 0
byte (String.◌∷◌ c s) = code c
