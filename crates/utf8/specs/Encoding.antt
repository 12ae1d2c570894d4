-- RFC 3629: the encoding of characters one after another. Assumes nothing.
-- Definitions to be believed: no law, and nothing computed that no theorem ties (docs/BELIEVE.md).
use Rattle.std.specs.Prelude.{ℕ, List, [], ◌∷◌, ◌++◌}
use Rattle.utf8.specs.Utf8.{encode}

-- the encodings of characters one after another
unfoldable pub encode_all : List ℕ → List ℕ
encode_all [] = []
encode_all (c ∷ r) = encode c ++ encode_all r
