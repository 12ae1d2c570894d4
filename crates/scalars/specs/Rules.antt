-- Document 01, 'Parameters', 'Scalars': measures, booleans and what may be unset, as rules that name no loop. A rule speaks of a
-- parameter's bytes and of what they answer; the byte `(` is 40 and `)` is 41. Reals, integers and references are the rules of the
-- crate reals. RulesRight.antt shows that Scalars.antt computes just this, and that there is no other answer. Assumes nothing.
-- Definitions to be believed: no law, and nothing computed that no theorem ties (docs/BELIEVE.md).
use Rattle.std.specs.Prelude.{ℕ, ◌≡◌, List, [], ◌∷◌, ◌++◌, Option, Some, None}
use Rattle.record.specs.Form.{Free, Trimmed}
use Rattle.common.specs.Bytes.{bytes}
use Rattle.reals.specs.Answer.{Answer, read, refused}
use Rattle.scalars.specs.declared.Truth.{Truth}
use Rattle.scalars.specs.declared.Truth as TruthCode

-- "`KEYWORD(real)`", as the Rust decides: any bytes, or none, up to the first `(`, and a `)` at the end; u is what stands between
-- them, trimmed of whitespace
pub record Typed (t u : List ℕ) : Type 0 where
  pub keyword : List ℕ
  pub body : List ℕ
  pub shape : t ≡ keyword ++ (40 ∷ (body ++ (41 ∷ [])))
  pub first : Free 40 keyword
  pub trims : Trimmed body u

-- "A measure is a real or `KEYWORD(real)`.": what it answers, as a real does by its own rule P. Document 01's is this
-- at `RealForm`, which is document 01's class, as #101 has it
pub data MeasureForm (P : List ℕ → Answer ℕ → Type 0) : List ℕ → Answer ℕ → Type 0 where
  -- "a real": the measure has no keyword
  bare : {t : List ℕ} {a : Answer ℕ} → ((u : List ℕ) → Typed t u → ⊥) → P t a → MeasureForm P t a
  -- "or `KEYWORD(real)`": what stands in the parentheses decides
  typed : {t u : List ℕ} {a : Answer ℕ} → Typed t u → P u a → MeasureForm P t a

-- what a text answers as a boolean: "`.T.` `.F.` `.U.`", capitals only, as the Rust decides
pub data TruthForm : List ℕ → Answer Truth → Type 0 where
  true : TruthForm (bytes ".T.") (read TruthCode.TheVariants.True)
  false : TruthForm (bytes ".F.") (read TruthCode.TheVariants.False)
  unknown : TruthForm (bytes ".U.") (read TruthCode.TheVariants.Unknown)
  other : {t : List ℕ} → (t ≡ bytes ".T." → ⊥) → (t ≡ bytes ".F." → ⊥) → (t ≡ bytes ".U." → ⊥) → TruthForm t (refused 12)

-- "`$` unset for `next_opt_ref` and `next_opt_f64`": any other parameter by its own rule P
pub data OptionForm {A : Type 0} (P : List ℕ → Answer A → Type 0) : List ℕ → Answer (Option A) → Type 0 where
  unset : OptionForm P (bytes "$") (read None)
  given : {t : List ℕ} {a : A} → (t ≡ bytes "$" → ⊥) → P t (read a) → OptionForm P t (read (Some a))
  other : {t : List ℕ} {n : ℕ} → (t ≡ bytes "$" → ⊥) → P t (refused n) → OptionForm P t (refused n)
