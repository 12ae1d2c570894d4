-- The kind of a keyword, computed; Rules.antt has the kinds and their names.
-- Assumes nothing.
use Rattle.std.specs.Prelude.{ℕ, ◌+◌, ◌<◌, ◌≡◌, refl, Bool, true, false, List, [], ◌∷◌, length, map, drop, ◌⊎◌, get_or}
use Rattle.std.proofs.Common.{sym, ◌∙◌, ap, subst, inl, inr, add-one, drop-cons}
use Rattle.common.specs.Pick.{pick}
use Rattle.common.specs.Compare.{clash}
use Rattle.record.specs.Byte.{upper}
use Rattle.record.specs.Word.{same_bytes, is_word}
use Rattle.record.specs.Form.{Spelt}
use Rattle.common.specs.Bytes.{bytes}
use Rattle.record.specs.FormRight.{same_is, same_self}
use Rattle.kinds.specs.Rules.{name_of, NamedKind, KindForm, spelt, other, rank_of}
use Rattle.kinds.specs.declared.Kind.{Kind}
use Rattle.kinds.specs.declared.Kind.TheVariants.{
  GeometricRepresentationContext,
  GlobalUnitAssignedContext,
  GlobalUncertaintyAssignedContext,
  LengthUnit,
  PlaneAngleUnit,
  SolidAngleUnit,
  SiUnit,
  ConversionBasedUnit,
  UncertaintyMeasureWithUnit,
  LengthMeasureWithUnit,
  Complex,
  Other,
}

-- the ten kinds that have a keyword
abbrev pub named_kinds : List Kind
named_kinds = GeometricRepresentationContext ∷ GlobalUnitAssignedContext ∷ GlobalUncertaintyAssignedContext ∷ LengthUnit ∷ PlaneAngleUnit ∷ SolidAngleUnit ∷ SiUnit ∷ ConversionBasedUnit ∷ UncertaintyMeasureWithUnit ∷ LengthMeasureWithUnit ∷ []

-- the first kind of a list whose name the text is, letters in either case; `Other` where there is none
abbrev pub kind_among : List Kind → List ℕ → Kind
kind_among [] t = Other
kind_among (k ∷ ks) t = pick (is_word t (bytes (name_of k))) k (kind_among ks t)

-- the kind of a keyword
unfoldable pub kind_of_keyword : List ℕ → Kind
kind_of_keyword t = kind_among named_kinds t

-- the search at a place of a list, by the test whether the text is the name of the kind there
module _ (ks : List Kind) (i : ℕ) (d : Kind) (t n : List ℕ) (b : Bool) (h : i < length ks) (e : n ≡ bytes (name_of (get_or ks i d))) (f : b ≡ is_word t n) where
  -- where it is, that kind is found
  pub kind_here : b ≡ true → get_or ks i d ≡ kind_among (drop i ks) t
  kind_here k = rw (drop-cons ks i d h, ← e, ← f, k) refl

  -- where it is not, the search goes on after it
  pub kind_next : b ≡ false → kind_among (drop (i + 1) ks) t ≡ kind_among (drop i ks) t
  kind_next k = rw (drop-cons ks i d h, ← e, ← f, k, add-one) refl

-- the kind at a place of the list of kinds
kind_at : ℕ → Kind
kind_at n = get_or (GeometricRepresentationContext ∷ GlobalUnitAssignedContext ∷ GlobalUncertaintyAssignedContext ∷ LengthUnit ∷ PlaneAngleUnit ∷ SolidAngleUnit ∷ SiUnit ∷ ConversionBasedUnit ∷ UncertaintyMeasureWithUnit ∷ LengthMeasureWithUnit ∷ Complex ∷ Other ∷ []) n Other

-- a kind stands at its own place
kind_back : (k : Kind) → kind_at (rank_of k) ≡ k
unfolding kind_at
kind_back GeometricRepresentationContext = refl
kind_back GlobalUnitAssignedContext = refl
kind_back GlobalUncertaintyAssignedContext = refl
kind_back LengthUnit = refl
kind_back PlaneAngleUnit = refl
kind_back SolidAngleUnit = refl
kind_back SiUnit = refl
kind_back ConversionBasedUnit = refl
kind_back UncertaintyMeasureWithUnit = refl
kind_back LengthMeasureWithUnit = refl
kind_back Complex = refl
kind_back Other = refl

-- kinds with the same place in the list of kinds are the same
pub rank_one : (a b : Kind) → rank_of a ≡ rank_of b → a ≡ b
rank_one a b e = sym (kind_back a) ∙ ap kind_at e ∙ kind_back b

-- ---- the theorems
-- the text is the name of no kind of a list, letters in either case
abbrev Unspelt : List Kind → List ℕ → Type 0
Unspelt [] t = Unit {0}
Unspelt (k ∷ ks) t = (Spelt t (name_of k) → ⊥) × Unspelt ks t

-- each kind of a list is one of the ten that have a keyword
abbrev Nameds : List Kind → Type 0
Nameds [] = Unit {0}
Nameds (k ∷ ks) = NamedKind k × Nameds ks

-- what the search in a list finds is a kind whose name the text is, or the text is the name of none and `Other` is found
found : (ks : List Kind) (t : List ℕ) → Nameds ks → (NamedKind (kind_among ks t) × Spelt t (name_of (kind_among ks t))) ⊎ (Unspelt ks t × (kind_among ks t ≡ Other))
found [] t n = inr (tt, refl)
found (k ∷ ks) t n = go (is_word t (bytes (name_of k))) refl (found ks t n.1)
  where
    go : (b : Bool) → is_word t (bytes (name_of k)) ≡ b → (NamedKind (kind_among ks t) × Spelt t (name_of (kind_among ks t))) ⊎ (Unspelt ks t × (kind_among ks t ≡ Other))
        → (NamedKind (pick b k (kind_among ks t)) × Spelt t (name_of (pick b k (kind_among ks t)))) ⊎ (Unspelt (k ∷ ks) t × (pick b k (kind_among ks t) ≡ Other))
    go true e r = inl (n.0, same_is (map upper t) (bytes (name_of k)) e)
    go false e (inl s) = inl s
    go false e (inr u) = inr ((λ s. let q : false ≡ true = sym e ∙ ap (λ (x : List ℕ). same_bytes x (bytes (name_of k))) s ∙ same_self (bytes (name_of k)) in clash (cc), u.0), u.1)

-- a text that is the name of none in the list of ten is the name of none of the ten
none_named : (t : List ℕ) → Unspelt named_kinds t → (k : Kind) → NamedKind k → Spelt t (name_of k) → ⊥
none_named t u GeometricRepresentationContext n = u.0
none_named t u GlobalUnitAssignedContext n = u.1.0
none_named t u GlobalUncertaintyAssignedContext n = u.1.1.0
none_named t u LengthUnit n = u.1.1.1.0
none_named t u PlaneAngleUnit n = u.1.1.1.1.0
none_named t u SolidAngleUnit n = u.1.1.1.1.1.0
none_named t u SiUnit n = u.1.1.1.1.1.1.0
none_named t u ConversionBasedUnit n = u.1.1.1.1.1.1.1.0
none_named t u UncertaintyMeasureWithUnit n = u.1.1.1.1.1.1.1.1.0
none_named t u LengthMeasureWithUnit n = u.1.1.1.1.1.1.1.1.1.0
none_named t u Complex n = absurd n
none_named t u Other n = absurd n

-- each kind in the list of ten is one of the ten that have a keyword
all_named : Nameds named_kinds
all_named = (tt, (tt, (tt, (tt, (tt, (tt, (tt, (tt, (tt, (tt, tt))))))))))

-- the kind that is computed is that of the keyword by the rule
pub kind_is : (t : List ℕ) → KindForm t (kind_of_keyword t)
unfolding kind_of_keyword
kind_is t = go (found named_kinds t all_named)
  where
    go : (NamedKind (kind_among named_kinds t) × Spelt t (name_of (kind_among named_kinds t))) ⊎ (Unspelt named_kinds t × (kind_among named_kinds t ≡ Other)) → KindForm t (kind_among named_kinds t)
    go (inl s) = spelt (kind_among named_kinds t) s.0 s.1
    go (inr u) = subst (λ (k : Kind). KindForm t k) (sym u.1) (other (none_named t u.0))

-- the search for a kind by a text that is already in capitals
abbrev kind_by : List Kind → List ℕ → Kind
kind_by [] u = Other
kind_by (k ∷ ks) u = pick (same_bytes u (bytes (name_of k))) k (kind_by ks u)

-- the search by a text in capitals finds each of the ten kinds by its name
by_name : (k : Kind) → NamedKind k → kind_by named_kinds (bytes (name_of k)) ≡ k
by_name GeometricRepresentationContext n = refl
by_name GlobalUnitAssignedContext n = refl
by_name GlobalUncertaintyAssignedContext n = refl
by_name LengthUnit n = refl
by_name PlaneAngleUnit n = refl
by_name SolidAngleUnit n = refl
by_name SiUnit n = refl
by_name ConversionBasedUnit n = refl
by_name UncertaintyMeasureWithUnit n = refl
by_name LengthMeasureWithUnit n = refl
by_name Complex n = absurd n
by_name Other n = absurd n

-- the kind of a keyword by the rule is the one that is computed
pub kind_only : {t : List ℕ} {k : Kind} → KindForm t k → kind_of_keyword t ≡ k
unfolding kind_of_keyword
kind_only {t} (spelt k n s) = ap (λ (u : List ℕ). kind_by named_kinds u) s ∙ by_name k n
kind_only {t} (other h) = go (found named_kinds t all_named)
  where
    go : (NamedKind (kind_among named_kinds t) × Spelt t (name_of (kind_among named_kinds t))) ⊎ (Unspelt named_kinds t × (kind_among named_kinds t ≡ Other)) → kind_among named_kinds t ≡ Other
    go (inl s) = absurd (h (kind_among named_kinds t) s.0 s.1)
    go (inr u) = u.1
