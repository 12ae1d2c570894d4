-- Document 01: "The argument reader is one thing that carries the file, its place and its end."
-- Assumes nothing.
-- Definitions to be believed: no law, and nothing computed that no theorem ties (docs/BELIEVE.md).
use Rattle.std.specs.Prelude.{ℕ, ◌≡◌, List, length}
use Rattle.std.specs.Borrow.{Bor}
use Rattle.error.specs.Refusal.{Told, good, bad, told_result}
use Rattle.params.specs.Answer.{Read, opened_of}
use Rattle.params.specs.declared.State.{State}
use Rattle.args.specs.declared.Args.{Args}
use Rattle.args.specs.declared.Opening.{Opening}

-- what a definition of the core says of the file, the place and the end that the reader carries
abbrev pub over_reader : {A : Type 0} → (List ℕ → ℕ → ℕ → A) → Args → A
over_reader f w = f w.file.now w.at.place w.at.end

-- what a relation of the core says of the file, the place and the end that the reader carries
abbrev pub SaysOfReader : (List ℕ → ℕ → ℕ → Type 0) → Args → Type 0
SaysOfReader P w = P w.file.now w.at.place w.at.end

-- the reader where an answer leaves it, over the same file
abbrev pub standing : {A : Type 0} → Args → Read A → Args
standing w a = record { file = w.file; at = record { place = a.place; end = a.end } }

-- the state of a reader that was opened; where 9 refuses it, one that has nothing to read
abbrev pub opened_at : Told State → State
opened_at (good s) = s
opened_at (bad q) = record { place = 0; end = 0 }

-- a reader is opened as the core opens one, over the slice that was passed
abbrev pub OpensReader : Bor (List ℕ) → ℕ → ℕ → Opening → Type 0
OpensReader file p e r = (told_result r.opened ≡ opened_of file.now p e) × (r.args ≡ record { file = file; at = opened_at (told_result r.opened) })

-- "forwarding to covered functions": the answer is the core's, and the reader then stands where that answer leaves it
abbrev pub Forwards : {A : Type 0} → (List ℕ → ℕ → ℕ → Read A) → Args → Args → Read A → Type 0
Forwards f w z a = (a ≡ over_reader f w) × (z ≡ standing w a)

-- a reader that writes to lent room forwards to the core, and the room then holds what the core leaves in it
abbrev pub Fills : {A C : Type 0} → (ℕ → List ℕ → ℕ → ℕ → Read A) → (List C → List C → List ℕ → ℕ → ℕ → Type 0) → Args → Args → List C → List C → Read A → Type 0
Fills f left w z xs ys a = Forwards (f (length xs)) w z a × SaysOfReader (left xs ys) w

-- a reader that writes to two lent rooms forwards to the core, and both then hold what the core leaves in them
abbrev pub FillsBoth : {A C : Type 0} → (ℕ → ℕ → List ℕ → ℕ → ℕ → Read A) → (List C → List ℕ → List C → List ℕ → ℕ → ℕ → Type 0) → (List C → List ℕ → List ℕ → List ℕ → ℕ → ℕ → Type 0) → Args → Args → List C → List C → List ℕ → List ℕ → Read A → Type 0
FillsBoth f left ends w z xs ys es ds a = Forwards (f (length xs) (length es)) w z a × (SaysOfReader (left xs es ys) w × SaysOfReader (ends xs es ds) w)
