-- A kind's name in lent memory is the kind's own.
-- Assumes nothing.
use Rattle.std.specs.Prelude.{ℕ, ◌≤◌, ◌≡◌, refl, List, length, take, drop, Option, Some, None}
use Rattle.std.proofs.Common.{sym, ◌∙◌, ap, le-leb}
use Rattle.std.proofs.Math.Seq.{take-append_seam}
use Rattle.error.specs.Refusal.{Told, good, bad}
use Rattle.record.specs.Form.{Spelt}
use Rattle.common.specs.Bytes.{bytes}
use Rattle.kinds.specs.Kind.{kind_of_keyword, kind_only}
use Rattle.kinds.specs.Rules.{name_of, NamedKind, told_kind_name, name_after}
use Rattle.kinds.specs.Rules.KindForm.{spelt}
use Rattle.kinds.specs.declared.Kind.{Kind}
use Rattle.kinds.specs.declared.Kind.TheVariants.{
  GeometricRepresentationContext,
  GlobalUnitAssignedContext,
  GlobalUncertaintyAssignedContext,
  LengthUnit,
  PlaneAngleUnit,
  SolidAngleUnit,
  SiUnit,
  ConversionBasedUnit,
  UncertaintyMeasureWithUnit,
  LengthMeasureWithUnit,
  Complex,
  Other,
}

-- the name of one of the ten kinds, which is in capitals, is spelt as the name
name_spelt : (k : Kind) → NamedKind k → Spelt (bytes (name_of k)) (name_of k)
name_spelt GeometricRepresentationContext n = refl
name_spelt GlobalUnitAssignedContext n = refl
name_spelt GlobalUncertaintyAssignedContext n = refl
name_spelt LengthUnit n = refl
name_spelt PlaneAngleUnit n = refl
name_spelt SolidAngleUnit n = refl
name_spelt SiUnit n = refl
name_spelt ConversionBasedUnit n = refl
name_spelt UncertaintyMeasureWithUnit n = refl
name_spelt LengthMeasureWithUnit n = refl
name_spelt Complex n = absurd n
name_spelt Other n = absurd n

-- the kind of a kind's name is that kind
pub name_kind : (k : Kind) → NamedKind k → kind_of_keyword (bytes (name_of k)) ≡ k
name_kind k n = kind_only (spelt k n (name_spelt k n))

-- the bytes that are written for a kind are a keyword of that kind
pub written_kind : (k : Kind) (out : List ℕ) → NamedKind k → length (bytes (name_of k)) ≤ length out → kind_of_keyword (take (length (bytes (name_of k))) (name_after (bytes (name_of k)) out)) ≡ k
written_kind k out n h = ap kind_of_keyword (rw (le-leb (length (bytes (name_of k))) (length out) h) (take-append_seam (bytes (name_of k)) (drop (length (bytes (name_of k))) out))) ∙ name_kind k n

-- the kind of the name of `Complex` is `Other`: it is no keyword of the ten
pub complex_kind : kind_of_keyword (bytes (name_of Complex)) ≡ Other
unfolding kind_of_keyword
complex_kind = refl

-- the kind of the empty name of `Other` is `Other`
pub other_kind : kind_of_keyword (bytes (name_of Other)) ≡ Other
unfolding kind_of_keyword
other_kind = refl

-- the answer of `as_str` that tells this
name_by : Told ℕ → Option ℕ
name_by (good n) = Some n
name_by (bad q) = None

-- what an answer of `as_str` tells gives back that answer
name_back_lem : (a : Option ℕ) → name_by (told_kind_name a) ≡ a
unfolding name_by
name_back_lem (Some n) = refl
name_back_lem None = refl

-- "that two allowed answers coincide is proved": `as_str` has one answer
pub kind_name_only : (a b : Option ℕ) → told_kind_name a ≡ told_kind_name b → a ≡ b
kind_name_only a b e = sym (name_back_lem a) ∙ ap name_by e ∙ name_back_lem b
