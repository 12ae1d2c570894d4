-- Document 01, 'Real class': "all digits" of a number, here eight of them: what `number` promises of eight bytes. Assumes nothing.
-- Definitions to be believed: no law, and nothing computed that no theorem ties (docs/BELIEVE.md).
use Rattle.std.specs.Prelude.{ℕ, ◌≡◌, List, Option, Some, None}
use Rattle.record.specs.Byte.{digit}
use Rattle.record.specs.Form.{All, value_of}

-- `Some v`: the bytes are digits, and v is the number that they make; `None`: they are not all digits
abbrev pub EightTold : List ℕ → Option ℕ → Type 0
EightTold bs (Some v) = All digit bs × (v ≡ value_of bs)
EightTold bs None = All digit bs → ⊥
