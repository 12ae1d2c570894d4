-- Document 01, 'Parameters', 'Scalars': what a parameter's bytes read as, and what a reader of scalars answers. Numbers are those of
-- the crate reals, parameters those of the crate params. Assumes nothing.
use Rattle.std.specs.Prelude.{ℕ, ◌-◌, ◌≤◌, ◌≡◌, Bool, not, List, [], ◌∷◌, Option, Some, None, eqb, length, take, drop, get_or}
use Rattle.common.specs.Pick.{pick}
use Rattle.record.specs.Text.{past}
use Rattle.record.specs.Word.{same_bytes, trimmed}
use Rattle.reals.specs.Scalar.{real_of}
use Rattle.reals.specs.Answer.{Answer, read, refused}
use Rattle.params.specs.Answer.{Span}
use Rattle.scalars.specs.declared.Truth.{Truth}
use Rattle.scalars.specs.declared.Truth.TheVariants.{True, False, Unknown}

-- whether a parameter is `$`: "`$` unset"
unfoldable pub is_unset : List ℕ → Bool
is_unset t = same_bytes t (36 ∷ [])

-- an answer as that of a parameter that may be unset, where one is given
abbrev pub as_given : {A : Type 0} → Answer A → Answer (Option A)
as_given (read a) = read (Some a)
as_given (refused n) = refused n

-- "`$` unset for `next_opt_ref` and `next_opt_f64`": else as f reads it
abbrev pub option_of : {A : Type 0} → (List ℕ → Answer A) → List ℕ → Answer (Option A)
option_of f t = pick (is_unset t) (read None) (as_given (f t))

-- a byte is no `(`
abbrev pub unopening : ℕ → Bool
unopening c = not (eqb c 40)

-- what stands between the first `(` and a `)` at the end, trimmed of whitespace
pub data Kernel : Type 0 where
  inside : List ℕ → Kernel
  bare : Kernel

-- what follows the first `(`: its last byte must be `)`
abbrev pub enclosed : List ℕ → Kernel
enclosed r = pick (eqb (get_or r (length r - 1) 0) 41) (inside (trimmed (take (length r - 1) r))) bare

-- the part in parentheses by the rest from the first `(`, if there is one
abbrev pub kernel_from : List ℕ → Kernel
kernel_from [] = bare
kernel_from (c ∷ r) = enclosed r

-- the part in parentheses of a text: "`KEYWORD(real)`", where the Rust takes any bytes for the keyword
unfoldable pub kernel_of : List ℕ → Kernel
kernel_of t = kernel_from (past unopening t)

-- the answer of the part in parentheses, as g reads reals; 12 without one
abbrev pub kernel_real : (List ℕ → Answer ℕ) → Kernel → Answer ℕ
kernel_real g (inside t) = g t
kernel_real g bare = refused 12

-- a measure's answer: what is no real is looked at once more by its parentheses; "real outside the class" is 13
abbrev pub measured : (List ℕ → Answer ℕ) → Answer ℕ → Kernel → Answer ℕ
measured g (read b) k = read b
measured g (refused n) k = pick (eqb n 12) (kernel_real g k) (refused n)

-- "A measure is a real or `KEYWORD(real)`.", as g reads reals
abbrev pub measure_by : (List ℕ → Answer ℕ) → List ℕ → Answer ℕ
measure_by g t = measured g (g t) (kernel_of t)

-- document 01's measure: its reals are those of document 01's class, as #101 has it
unfoldable pub measure_of : List ℕ → Answer ℕ
measure_of t = measure_by real_of t

-- what a text answers as a boolean: "`.T.` `.F.` `.U.`"
unfoldable pub truth_of : List ℕ → Answer Truth
truth_of t =
    pick (same_bytes t (46 ∷ 84 ∷ 46 ∷ [])) (read True) (pick (same_bytes t (46 ∷ 70 ∷ 46 ∷ [])) (read False) (pick (same_bytes t (46 ∷ 85 ∷ 46 ∷ [])) (read Unknown) (refused 12)))

-- what the code's answer says of the part in parentheses
abbrev pub InnerAt : List ℕ → Option Span → Type 0
InnerAt t (Some w) = (kernel_of t ≡ inside (take (w.stop - w.start) (drop w.start t))) × (w.start ≤ w.stop) × (w.stop ≤ length t)
InnerAt t None = kernel_of t ≡ bare

-- what the code's boolean says, or 12
abbrev pub told_truth : Option Truth → Answer Truth
told_truth (Some b) = read b
told_truth None = refused 12
