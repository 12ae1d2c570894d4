-- Document 01, 'Units': the sixteen SI prefixes, their names and factors, and the factor of a prefix as a rule that names no search.
-- PrefixRight.antt shows that Prefix.antt computes just this. Assumes nothing.
-- Definitions to be believed: no law, and nothing computed that no theorem ties (docs/BELIEVE.md).
use Rattle.std.specs.Prelude.{ℕ, ◌^◌, ◌<◌, Bool, true, false, List, [], ◌∷◌, get_or}
use Prim.Native.String.{String}
use Rattle.common.specs.Pick.{pick}
use Rattle.nearest.specs.Nearest.{IsNearest}
use Rattle.record.specs.Form.{Spelt}

-- a prefix: its name, and its power of ten, a negative one where true
pub record Prefix : Type 0 where
  pub name : String
  pub down : Bool
  pub tens : ℕ

-- a row of the table of prefixes
abbrev pub prefix_entry : String → Bool → ℕ → Prefix
prefix_entry n d k = record { name = n; down = d; tens = k }

-- "EXA 1e18, PETA 1e15, [..] ATTO 1e-18"
abbrev pub prefixes : List Prefix
prefixes =
    prefix_entry "EXA" false 18
    ∷ prefix_entry "PETA" false 15
    ∷ prefix_entry "TERA" false 12
    ∷ prefix_entry "GIGA" false 9
    ∷ prefix_entry "MEGA" false 6
    ∷ prefix_entry "KILO" false 3
    ∷ prefix_entry "HECTO" false 2
    ∷ prefix_entry "DECA" false 1
    ∷ prefix_entry "DECI" true 1
    ∷ prefix_entry "CENTI" true 2
    ∷ prefix_entry "MILLI" true 3
    ∷ prefix_entry "MICRO" true 6
    ∷ prefix_entry "NANO" true 9
    ∷ prefix_entry "PICO" true 12
    ∷ prefix_entry "FEMTO" true 15
    ∷ prefix_entry "ATTO" true 18
    ∷ []

-- "any other 1.0": the prefix of no name, with 10 ^ 0
abbrev pub unity : Prefix
unity = prefix_entry "" false 0

-- the upper side of a prefix's power of ten as a fraction
abbrev pub ten_up : Prefix → ℕ
ten_up p = pick p.down 1 (10 ^ p.tens)

-- the lower side of a prefix's power of ten as a fraction
abbrev pub ten_down : Prefix → ℕ
ten_down p = pick p.down (10 ^ p.tens) 1

-- "Prefixes: [..]; any other 1.0", "all in either case": the nearest f64 to the power of ten of the one row that is named so
pub data PrefixForm : List ℕ → ℕ → Type 0 where
  named : {t : List ℕ} {b : ℕ} (k : ℕ) → k < 16 → Spelt t (get_or prefixes k unity).name → IsNearest (ten_up (get_or prefixes k unity)) (ten_down (get_or prefixes k unity)) b → PrefixForm t b
  other : {t : List ℕ} {b : ℕ} → ((k : ℕ) → k < 16 → Spelt t (get_or prefixes k unity).name → ⊥) → IsNearest 1 1 b → PrefixForm t b
