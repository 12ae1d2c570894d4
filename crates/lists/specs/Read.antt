-- Document 01, 'Parameters': the next parameter of a reader, read as a list into lent room. Assumes nothing.
-- Definitions to be believed: no law, and nothing computed that no theorem ties (docs/BELIEVE.md).
use Rattle.std.specs.Prelude.{ℕ, List}
use Rattle.params.specs.Answer.{Read}
use Rattle.reals.specs.Answer.{Answer}
use Rattle.lists.specs.Answer.{next_by, fits_in}
use Rattle.lists.specs.Items.{list_of}

-- the next parameter of a reader, read as a list of scalars that f reads, into so much room
abbrev pub list_read : {A : Type 0} → (List ℕ → Answer A) → ℕ → List ℕ → ℕ → ℕ → Read (List A)
list_read f room s place end = next_by (list_of f) (fits_in room) s place end
