-- What a file needs, as plain numbers.
-- Assumes nothing.
-- Definitions to be believed: no law, and nothing computed that no theorem ties (docs/BELIEVE.md).
use Rattle.std.specs.Prelude.{ℕ, ◌≤◌, ◌<◌, ◌≡◌, List, [], ◌∷◌, length}
use Rattle.std.proofs.lemmas.List.Edits.{sets}
use Rattle.error.specs.Refusal.{Told, good, bad}
use Rattle.needs.specs.declared.Needs.{Needs}
use Rattle.needs.specs.Needs.{needs_of}
use Rattle.host_numbers.specs.Answers.{read_code, read_fault}
use Rattle.export_tables.specs.Tables.{read_reason}

-- how many numbers a host lends at least for what a file needs: more than are told so far
abbrev pub needs_room : ℕ
needs_room = 12

-- what a file needs: header rows, data rows, the largest id, the most numbers of a list or a grid, the longest text, and the most rows of a grid
abbrev pub need_numbers : Needs → List ℕ
need_numbers c = c.headers ∷ c.records ∷ c.max ∷ c.items ∷ c.text ∷ c.rows ∷ []

-- the lent numbers once a file's needs are told: a refusal leaves them as they were
abbrev pub needs_after : Told Needs → List ℕ → List ℕ
needs_after (good c) old = sets old 0 (need_numbers c)
needs_after (bad q) old = old

-- what a host is told, and what stands in its numbers, its reason and its place then: "16 output too short" where it lends too few
-- numbers, and nothing is set; else what the file needs, or its refusal
pub data Needing (s needs : List ℕ) (reason fault code : ℕ) (needs' : List ℕ) (reason' fault' : ℕ) : Type 0 where
  short : length needs < needs_room → code ≡ 16 → needs' ≡ needs → reason' ≡ reason → fault' ≡ fault → Needing s needs reason fault code needs' reason' fault'
  told : needs_room ≤ length needs → code ≡ read_code (needs_of s) → needs' ≡ needs_after (needs_of s) needs → reason' ≡ read_reason (needs_of s) reason → fault' ≡ read_fault (needs_of s) fault → Needing s needs reason fault code needs' reason' fault'
