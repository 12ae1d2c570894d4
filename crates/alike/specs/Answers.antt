-- What a record declares as a unit context depends only on its bytes and on those of the records that it names: in two files with alike
-- records and alike lookups it is the same, bit for bit, or the same refusal. Nothing is asked but of ids that bytes name. Assumes nothing.
use Rattle.std.specs.Prelude.{ℕ, ◌≡◌, true, Option, None, Some}
use Rattle.std.proofs.Math.Path.{refl, subst}
use Rattle.std.proofs.Common.{ap}
use mathlib.Core.List.{List, [], ◌∷◌}
use Rattle.common.specs.Compare.{clash}
use Rattle.error.specs.Refusal.{Told, good, bad}
use Rattle.reals.specs.Scalar.{reference_of, whole_of}
use Rattle.kinds.specs.declared.Kind.{Kind}
use Rattle.kinds.specs.declared.Kind.TheVariants.{GeometricRepresentationContext, GlobalUnitAssignedContext, GlobalUncertaintyAssignedContext, UncertaintyMeasureWithUnit}
use Rattle.params.specs.Answer.{Span, onward}
use Rattle.scalars.specs.Scalars.{measure_of}
use Rattle.scalars.specs.Answer.{next_of}
use Rattle.lists.specs.Items.{list_of}
use Rattle.lists.specs.Answer.{next_by}
use Rattle.factors.specs.SeenRecords.{good_by, same_kind, UnitPart, SeenRecord, self_or}
use Rattle.factors.specs.Each.{Each}
use Rattle.factors.specs.EachLaws.{each_nil, each_head, each_less}
use Rattle.factors.specs.Unit.{option_by}
use Rattle.factors.specs.Factor.{length_of, angle_of}
use Rattle.units.specs.declared.role.Role.{Role}
use Rattle.units.specs.declared.role.Role.TheVariants.{Length as length_role, Angle as angle_role, Solid as solid_role}
use Rattle.units.specs.Answer.{Units, defaults, role_by, with_length, with_angle, with_tolerance, is_read, reads_integer, is_context, refs_in, uncertain_by, uncertainty_of, uncertainty_by}
use Rattle.units.specs.Units.{role_of, first_role, by_role, unit_of, unit_by, units_by, tolerance_by, listed_units, listed_tolerance, context_of}
use Rattle.alike.specs.Readers.{next_shift, list_shift}
use Rattle.alike.specs.Alike.{BothTold, BothOption, BothList, SameTold, AlikeSpan, AlikePart, AlikeRecord, AlikeFind, both_pick, both_on, both_by, same_on, same_on_read, same_by, self_alike}
use Rattle.alike.specs.SameBytesRead.{read_first, refs_first}
use Rattle.alike.specs.Factors.{unread_alike, number_alike, found_alike, length_alike, angle_alike}

-- of two answers that are the same both read, or neither does
reads_alike : {A : Type 0} (x y : Told A) → SameTold x y → is_read x ≡ is_read y
reads_alike (good a) (good b) h = refl
reads_alike (good a) (bad q) h = absurd h
reads_alike (bad q) (good b) h = absurd h
reads_alike (bad q) (bad q') h = refl

-- the uncertainty of two answers that are the same is the same, or there is none in either
uncertain_alike : (x y : Told ℕ) → SameTold x y → SameTold (uncertain_by x) (uncertain_by y)
uncertain_alike (good v) (good w) h = ap Some h
uncertain_alike (good v) (bad q) h = absurd h
uncertain_alike (bad q) (good w) h = absurd h
uncertain_alike (bad q) (bad q') h = unread_alike q q' h

-- ---- arguments and parts
module _ (Named : ℕ → Type 0) (s s' : List ℕ) where
  -- the first parameter of alike arguments reads as an integer in both, or in neither
  integer_alike : (x y : Option Span) → BothOption (AlikeSpan Named s s') x y → reads_integer s x ≡ reads_integer s' y
  integer_alike None None h = refl
  integer_alike None (Some r) h = absurd h
  integer_alike (Some r) None h = absurd h
  integer_alike (Some r) (Some r') h = reads_alike (next_of whole_of s r.start r.stop).answer (next_of whole_of s' r'.start r'.stop).answer (read_first h (next_of whole_of) (λ s a z m n. next_shift s a z m n whole_of))

  -- the references that alike arguments list are the same
  pub refs_alike : (x y : Option Span) → BothOption (AlikeSpan Named s s') x y → SameTold (refs_in s x) (refs_in s' y)
  unfolding refs_in
  refs_alike None None h = refl
  refs_alike None (Some r) h = absurd h
  refs_alike (Some r) None h = absurd h
  refs_alike (Some r) (Some r') h = read_first h (next_by (list_of reference_of) (λ vs. true)) (λ s a z m n. list_shift s a z m n (list_of reference_of) (λ vs. true))

  -- the references that alike arguments list are ids that matter
  refs_named : (x y : Option Span) → BothOption (AlikeSpan Named s s') x y → (vs : List ℕ) → refs_in s x ≡ good vs → Each Named vs
  unfolding refs_in
  refs_named None None h vs e = let d : [] ≡ vs = cc in subst (Each Named) d (each_nil Named)
  refs_named None (Some r) h vs e = absurd h
  refs_named (Some r) None h vs e = absurd h
  refs_named (Some r) (Some r') h vs e = refs_first h (λ vs. true) vs e

  -- of alike parts, the first that gives a role gives the same
  first_role_alike : (ps ps' : List UnitPart) → BothList (AlikePart Named s s') ps ps' → first_role ps ≡ first_role ps'
  first_role_alike [] [] h = refl
  first_role_alike [] (p ∷ ps) h = absurd h
  first_role_alike (p ∷ ps) [] h = absurd h
  first_role_alike (p ∷ ps) (p' ∷ ps') ((e, r), h) = rw (← e) (ap (λ (x : Option Role). option_by x Some (role_by p.kind)) (first_role_alike ps ps' h))

module _ {Named : ℕ → Type 0} {s s' : List ℕ} where
  -- ---- records
  module _ {t t' : SeenRecord} (h : AlikeRecord Named s s' t t') where
    -- two alike records have the same role as units
    pub role_alike : SameTold (role_of t) (role_of t')
    role_alike = both_by (BothList (AlikePart Named s s')) (λ a b. a ≡ b) first_role first_role t.parts t'.parts h.parts (first_role_alike Named s s')

    -- two alike records are both unit contexts, or neither is, or both have the same fault
    pub is_context_alike : SameTold (is_context s t) (is_context s' t')
    unfolding is_context
    is_context_alike =
        both_by (BothOption (AlikeSpan Named s s')) (λ a b. a ≡ b) (reads_integer s) (reads_integer s')
        (self_or GeometricRepresentationContext t) (self_or GeometricRepresentationContext t') (self_alike Named s s' t t' h GeometricRepresentationContext) (integer_alike Named s s')

    -- the references that two alike records or their parts of a kind list are the same
    listed_alike : (k : Kind) → SameTold (onward (refs_in s) (self_or k t)) (onward (refs_in s') (self_or k t'))
    listed_alike k = both_on (BothOption (AlikeSpan Named s s')) (λ a b. a ≡ b) (refs_in s) (refs_in s') (self_or k t) (self_or k t') (self_alike Named s s' t t' h k) (refs_alike Named s s')

    -- the references that a record or its part of a kind lists are ids that matter
    listed_named : (k : Kind) (vs : List ℕ) → onward (refs_in s) (self_or k t) ≡ good vs → Each Named vs
    listed_named k = go (self_or k t) (self_or k t') (self_alike Named s s' t t' h k)
      where
        go : (x y : Told (Option Span)) → BothTold (BothOption (AlikeSpan Named s s')) x y → (vs : List ℕ) → onward (refs_in s) x ≡ good vs → Each Named vs
        go (good x) (good y) l vs e = refs_named Named s s' x y l vs e
        go (good x) (bad q) l vs e = absurd l
        go (bad q) y l vs e = clash (cc)

    -- two alike records give the same uncertainty
    uncertainty_of_alike : (find find' : ℕ → Told (Option SeenRecord)) → SameTold (uncertainty_of s t) (uncertainty_of s' t')
    uncertainty_of_alike find find' = rw (← h.kind) (both_pick (λ a b. a ≡ b) (same_kind t.kind UncertaintyMeasureWithUnit)
        (uncertain_by (next_of measure_of s t.run.start t.run.stop).answer) (good None) (uncertain_by (next_of measure_of s' t'.run.start t'.run.stop).answer) (good None)
        (uncertain_alike (next_of measure_of s t.run.start t.run.stop).answer (next_of measure_of s' t'.run.start t'.run.stop).answer (number_alike h.run)) refl)

  -- ---- records and lookups
  module _ {find find' : ℕ → Told (Option SeenRecord)} (finds : AlikeFind Named s s' find find') where
    -- two alike records add the same unit to the units of a list
    unit_of_alike : (u : Units) (t t' : SeenRecord) → AlikeRecord Named s s' t t' → SameTold (unit_of s find u t) (unit_of s' find' u t')
    unit_of_alike u t t' h = same_on (by_role s find u t) (by_role s' find' u t') (role_of t) (role_of t') (role_alike h) go
      where
        go : (x : Option Role) → SameTold (by_role s find u t x) (by_role s' find' u t' x)
        go None = refl
        go (Some length_role) = same_by (with_length u) (length_of s find 16 t) (length_of s' find' 16 t') (length_alike finds 16 t t' h)
        go (Some angle_role) = same_by (with_angle u) (angle_of s find t) (angle_of s' find' t') (angle_alike finds t t' h)
        go (Some solid_role) = refl

    -- a unit, by an id that matters, adds the same to the units of a list
    pub unit_alike : (u : Units) (i : ℕ) → Named i → SameTold (unit_by s find u i) (unit_by s' find' u i)
    unfolding unit_by
    unit_alike u i n = found_alike finds (good u) (unit_of s find u) (unit_of s' find' u) i n (unit_of_alike u)

    -- the units of a list of ids that matter are the same
    pub units_alike : (u : Units) (is : List ℕ) → Each Named is → SameTold (units_by s find u is) (units_by s' find' u is)
    unfolding units_by
    units_alike u [] n = refl
    units_alike u (i ∷ is) n =
        same_on (λ v. units_by s find v is) (λ v. units_by s' find' v is) (unit_by s find u i) (unit_by s' find' u i) (unit_alike u i (each_head Named i is n)) (λ v. units_alike v is (each_less Named i is n))

    -- the uncertainty by an id that matters is the same
    pub uncertainty_alike : (i : ℕ) → Named i → SameTold (uncertainty_by s find i) (uncertainty_by s' find' i)
    unfolding uncertainty_by
    uncertainty_alike i n = found_alike finds (good None) (uncertainty_of s) (uncertainty_of s') i n (λ t t' h. uncertainty_of_alike h find find')

    -- the tolerance of a list of ids that matter is the same
    pub tolerance_alike : (is : List ℕ) → Each Named is → SameTold (tolerance_by s find is) (tolerance_by s' find' is)
    unfolding tolerance_by
    tolerance_alike [] n = refl
    tolerance_alike (i ∷ is) n =
        same_on (option_by (tolerance_by s find is) good) (option_by (tolerance_by s' find' is) good) (uncertainty_by s find i) (uncertainty_by s' find' i) (uncertainty_alike i (each_head Named i is n)) (go (tolerance_alike is (each_less Named i is n)))
      where
        go : SameTold (tolerance_by s find is) (tolerance_by s' find' is) → (x : Option ℕ) → SameTold (option_by (tolerance_by s find is) good x) (option_by (tolerance_by s' find' is) good x)
        go k None = k
        go k (Some v) = refl

    module _ {t t' : SeenRecord} (h : AlikeRecord Named s s' t t') where
      -- two alike records list the same units
      pub listed_units_alike : SameTold (listed_units s find t) (listed_units s' find' t')
      unfolding listed_units
      listed_units_alike = same_on_read (units_by s find defaults) (units_by s' find' defaults) (onward (refs_in s) (self_or GlobalUnitAssignedContext t)) (onward (refs_in s') (self_or GlobalUnitAssignedContext t')) (listed_alike h GlobalUnitAssignedContext)
          (λ is e. units_alike defaults is (listed_named h GlobalUnitAssignedContext is e))

      -- two alike records list the same tolerance
      pub listed_tolerance_alike : SameTold (listed_tolerance s find t) (listed_tolerance s' find' t')
      unfolding listed_tolerance
      listed_tolerance_alike = same_on_read (tolerance_by s find) (tolerance_by s' find') (onward (refs_in s) (self_or GlobalUncertaintyAssignedContext t)) (onward (refs_in s') (self_or GlobalUncertaintyAssignedContext t')) (listed_alike h GlobalUncertaintyAssignedContext)
          (λ is e. tolerance_alike is (listed_named h GlobalUncertaintyAssignedContext is e))

      -- two alike records declare the same as unit contexts
      pub context_alike : SameTold (context_of s find t) (context_of s' find' t')
      unfolding context_of
      context_alike = same_on (λ u. good_by (with_tolerance u) (listed_tolerance s find t)) (λ u. good_by (with_tolerance u) (listed_tolerance s' find' t'))
          (listed_units s find t) (listed_units s' find' t') listed_units_alike (λ u. same_by (with_tolerance u) (listed_tolerance s find t) (listed_tolerance s' find' t') listed_tolerance_alike)
