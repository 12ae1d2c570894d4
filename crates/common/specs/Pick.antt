-- One of two by a test: the one way in which definitions branch on a computed answer; and what a test says.
-- Assumes nothing.
-- Definitions to be believed: no law, and nothing computed that no theorem ties (docs/BELIEVE.md).
use Rattle.std.specs.Prelude.{◌≡◌, Bool, true, false}

-- one of two by a test
abbrev pub pick : {A : Type 0} → Bool → A → A → A
pick true a b = a
pick false a b = b

-- a test is passed just where A holds
abbrev pub JustWhere : Bool → Type 0 → Type 0
JustWhere t A = (t ≡ true → A) × (A → t ≡ true)
