-- What a reader that is passed to a function tells.
-- Assumes nothing.
-- Definitions to be believed: no law, and nothing computed that no theorem ties (docs/BELIEVE.md).
use Rattle.std.specs.Prelude.{ℕ, ◌≡◌, Result}
use Rattle.std.specs.Borrow.{MutBor}
use Rattle.error.specs.declared.Fault.{Fault}
use Rattle.params.specs.Answer.{Read}
use Rattle.params.specs.declared.State.{State}

-- a reader tells what `by` says of each place and end: `post` is what its calls may answer and leave, and `told` what such an answer says
abbrev pub Tells : {A B : Type 0} → (MutBor State → Result A Fault → MutBor State → Type 0) → (Result A Fault → State → Read B) → (ℕ → ℕ → Read B) → Type 0
Tells {A} post told by = (at : MutBor State) (r : Result A Fault) (to : MutBor State) → post at r to → told r to.now ≡ by at.now.place at.now.end
