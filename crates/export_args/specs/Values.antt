-- What a parameter reads as, as plain numbers.
-- Assumes nothing.
-- Definitions to be believed: no law, and nothing computed that no theorem ties (docs/BELIEVE.md).
use Rattle.std.specs.Prelude.{ℕ, Option, Some, None}
use Rattle.error.specs.Refusal.{Told, good, bad}
use Rattle.scalars.specs.declared.Truth.{Truth}
use Rattle.scalars.specs.declared.Truth.TheVariants.{True, False, Unknown}

-- the value of a parameter, where one is set; or what stood there
abbrev pub given_value : {A : Type 0} → Told (Option A) → A → A
given_value (good (Some a)) old = a
given_value (good None) old = old
given_value (bad q) old = old

-- whether a parameter has a value: 1, or 0 for `$`
abbrev pub given_set : {A : Type 0} → Option A → ℕ
given_set (Some a) = 1
given_set None = 0

-- a boolean as a number: `.F.` is 0, `.T.` 1 and `.U.` 2
abbrev pub logical_number : Truth → ℕ
logical_number False = 0
logical_number True = 1
logical_number Unknown = 2
