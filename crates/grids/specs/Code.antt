-- What the code's parts promise of a grid's text. Assumes nothing.
use Rattle.std.specs.Prelude.{ℕ, ◌≤◌, ◌≡◌, List, ◌++◌, length, take, drop}
use Rattle.error.specs.Refusal.{Told, good}
use Rattle.params.specs.Answer.{onward}
use Rattle.lists.specs.Items.{filled}
use Rattle.lists.specs.Answer.{Fate, fine, values_of}
use Rattle.grids.specs.Grid.{flat, Size, size_of}

-- the size of a grid that is read, or its refusal
abbrev pub size_told : {A : Type 0} → Told (List (List A)) → Told Size
size_told a = onward (λ g. good (size_of g)) a

-- a grid reads, and there is room for its numbers and its row ends
abbrev pub GridReady : {A : Type 0} → Fate (List (List A)) → ℕ → ℕ → Type 0
GridReady a room ends = (a ≡ fine (values_of a)) × (length (flat (values_of a)) ≤ room) × (length (values_of a) ≤ ends)

-- a lent list with these numbers in it, from a place on
abbrev pub laid_from : {A : Type 0} → ℕ → List A → List A → List A
laid_from n vs out = take n out ++ filled vs (drop n out)
