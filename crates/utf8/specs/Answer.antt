-- What is answered of the character that bytes begin with, and of an encoding put into lent room. Assumes nothing.
-- Definitions to be believed: no law, and nothing computed that no theorem ties (docs/BELIEVE.md).
use Rattle.std.specs.Prelude.{ℕ, ◌+◌, List, ◌++◌, leb, length, take, drop, Option, Some, None}
use Rattle.common.specs.Pick.{pick}
use Rattle.utf8.specs.declared.FirstCharacter.{FirstCharacter}

-- what a list of bytes begins with: a character, in so many bytes, or no valid sequence
pub data LeadCharacter : Type 0 where
  valid : ℕ → ℕ → LeadCharacter
  invalid : LeadCharacter

-- what the code's answer says: the character that bytes begin with and its width, or that no valid sequence stands there
abbrev pub told_first : Option FirstCharacter → LeadCharacter
told_first (Some r) = valid r.code r.used
told_first None = invalid

-- an encoding put into a room at a place, where it fits; the room as it is where it does not
unfoldable pub put_at : ℕ → List ℕ → List ℕ → List ℕ
put_at at e o = pick (leb (at + length e) (length o)) (take at o ++ e ++ drop (at + length e) o) o

-- how many bytes of an encoding were put into a room: all, or none where it does not fit
unfoldable pub put_width : ℕ → List ℕ → List ℕ → ℕ
put_width at e o = pick (leb (at + length e) (length o)) (length e) 0
