-- Document 01, 'Strings': the lent output after the next parameter, read as a text or not. Assumes nothing.
-- Definitions to be believed: no law, and nothing computed that no theorem ties (docs/BELIEVE.md).
use Rattle.std.specs.Prelude.{ℕ, List}
use Rattle.error.specs.Refusal.{Told, good, bad}
use Rattle.params.specs.Answer.{Span}
use Rattle.words.specs.Words.{room_at}

-- the lent output after the next parameter: what `room_at` says of it, and as it was where none is read
abbrev pub room_of : List ℕ → List ℕ → Told Span → List ℕ
room_of s o (good a) = room_at s o a
room_of s o (bad q) = o
