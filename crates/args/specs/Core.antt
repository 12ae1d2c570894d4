-- What the contracts of the core say, by the file, the place and the end alone: the carrying reader's contracts cite these.
-- Where a reader writes to lent room of n places, its answer is by n, and what the room holds afterwards (ys) is by what it held (xs).
-- Assumes nothing.
-- Definitions to be believed: no law, and nothing computed that no theorem ties (docs/BELIEVE.md).
use Rattle.std.specs.Prelude.{ℕ, ◌≡◌, List, map, length, Float}
use Rattle.std.specs.Float.{binary64}
use Rattle.std.specs.Float.Ieee.{to_bits}
use Rattle.reals.specs.Scalar.{real_of}
use Rattle.reals.specs.Answer.{Answer}
use Rattle.params.specs.Reader.{param_of}
use Rattle.params.specs.Answer.{Read, Span, read_mapped}
use Rattle.words.specs.Words.{name_at, string_at}
use Rattle.words.specs.Room.{room_of}
use Rattle.words.specs.declared.Text.{Text}
use Rattle.lists.specs.Answer.{how_many, written}
use Rattle.lists.specs.Read.{list_read}
use Rattle.grids.specs.Grid.{Size, grid_read, how_large, numbers_of, ends_of}

-- `next_enum`: "a name between two dots, valid UTF-8"
abbrev pub next_name : List ℕ → ℕ → ℕ → Read Span
next_name s p e = read_mapped (name_at s) (param_of s p e)

-- `next_str`: "the text shown is that part of the file; otherwise a part of the lent output"
abbrev pub next_text : ℕ → List ℕ → ℕ → ℕ → Read Text
next_text n s p e = read_mapped (string_at s n) (param_of s p e)

-- the text room after `next_str`; "lent rows and output keep their bytes, as does all room beyond an answer"
abbrev pub text_room : List ℕ → List ℕ → List ℕ → ℕ → ℕ → Type 0
text_room xs ys s p e = ys ≡ room_of s xs (param_of s p e).answer

-- the next parameter as a list: "A list is `(`..`)`", whose items are read by g: how many there are
abbrev pub next_list : {A : Type 0} → (List ℕ → Answer A) → ℕ → List ℕ → ℕ → ℕ → Read ℕ
next_list g n s p e = how_many (list_read g n s p e)

-- the room of a list of numbers after the list is read
abbrev pub list_room : {A : Type 0} → (List ℕ → Answer A) → List A → List A → List ℕ → ℕ → ℕ → Type 0
list_room g xs ys s p e = ys ≡ written (list_read g (length xs) s p e).answer xs

-- the room of a list of reals after the list is read, by their bits
abbrev pub real_room : List Float → List Float → List ℕ → ℕ → ℕ → Type 0
real_room xs ys s p e = map (to_bits binary64) ys ≡ written (list_read real_of (length xs) s p e).answer (map (to_bits binary64) xs)

-- the next parameter as a grid: "Grids go to a lent list of numbers and one of row ends", whose items are read by g: how many numbers and rows
abbrev pub next_grid : {A : Type 0} → (List ℕ → Answer A) → ℕ → ℕ → List ℕ → ℕ → ℕ → Read Size
next_grid g n k s p e = how_large (grid_read g n k s p e)

-- the room of a grid's numbers after the grid is read, which is by what both rooms had
abbrev pub grid_room : {A : Type 0} → (List ℕ → Answer A) → List A → List ℕ → List A → List ℕ → ℕ → ℕ → Type 0
grid_room g xs es ys s p e = ys ≡ written (numbers_of (grid_read g (length xs) (length es) s p e).answer) xs

-- the room of a grid's reals after the grid is read, by their bits
abbrev pub real_grid_room : List Float → List ℕ → List Float → List ℕ → ℕ → ℕ → Type 0
real_grid_room xs es ys s p e = map (to_bits binary64) ys ≡ written (numbers_of (grid_read real_of (length xs) (length es) s p e).answer) (map (to_bits binary64) xs)

-- the room of a grid's row ends after the grid is read: "numbers so far"
abbrev pub ends_room : {A C : Type 0} → (List ℕ → Answer A) → List C → List ℕ → List ℕ → List ℕ → ℕ → ℕ → Type 0
ends_room g xs es ys s p e = ys ≡ written (ends_of (grid_read g (length xs) (length es) s p e).answer) es
