-- The factor of a unit depends only on the bytes of the records that it meets: in two files with alike records and alike lookups it is
-- the same, or the same refusal. Nothing is asked but of ids that these bytes name. Assumes nothing.
use Prim.Native.Nat.{ℕ, zero, suc}
use Prim.Native.String.{String}
use Rattle.std.specs.Prelude.{◌≡◌, Bool, true, false, List, [], eqb, Option, None, Some}
use Rattle.std.proofs.Math.Path.{refl}
use Rattle.std.proofs.Common.{◌∙◌, ap, subst}
use Rattle.common.specs.Pick.{pick}
use Rattle.common.specs.Compare.{clash}
use Rattle.error.specs.Refusal.{Refusal, refusal, Told, good, bad}
use Rattle.record.specs.Word.{is_word}
use Rattle.common.specs.Bytes.{bytes}
use Rattle.nearest.specs.Product.{product}
use Rattle.reals.specs.Scalar.{reference_of}
use Rattle.prefixes.specs.Prefix.{factor_of}
use Rattle.prefixes.specs.Length.{length_factor_of}
use Rattle.kinds.specs.declared.Kind.TheVariants.{SiUnit, ConversionBasedUnit, LengthMeasureWithUnit, Complex}
use Rattle.params.specs.Skips.{skip_of}
use Rattle.params.specs.Answer.{Span, onward}
use Rattle.scalars.specs.Scalars.{measure_of}
use Rattle.scalars.specs.Answer.{next_of}
use Rattle.factors.specs.SeenRecords.{good_by, same_kind, SeenRecord, first_unit_part, self_or}
use Rattle.factors.specs.Factor.{
  unread_of,
  read_or,
  or_none,
  Chain,
  known,
  leads,
  conversion_of,
  si_or_conversion,
  link_of,
  chained,
  base_of,
  measure_at,
  measure_in,
  length_of,
  angle_number,
  angle_of,
}
use Rattle.factors.specs.Unit.{
  prefix_in,
  unit_in,
  factor_if_named,
  si_length,
  si_angle,
  measure_ref,
  option_by,
  scaled_by,
  measure_run,
}
use Rattle.alike.specs.Readers.{skip_shift, next_shift}
use Rattle.alike.specs.Alike.{
  SameRefusal,
  BothTold,
  BothOption,
  SameTold,
  AlikeSpan,
  AlikeRecord,
  AlikeFind,
  same_refl,
  both_pick,
  both_on,
  both_on_option,
  same_on,
  same_on_read,
  same_by,
  part_alike,
  self_alike,
}
use Rattle.alike.specs.SameBytesRead.{read_first, read_second, ref_second, name_first, name_second}

-- ---- answers put together
-- two refused numbers with the same refusal refuse alike, or give no factor alike
pub unread_alike : (q q' : Refusal) → SameRefusal q q' → SameTold (unread_of (bad q)) (unread_of (bad q'))
unread_alike q q' h = subst (λ (n : ℕ). SameTold (unread_of (bad q)) (pick (eqb n 13) (bad q') (good None))) h.0 (go (eqb q.number 13))
  where
    go : (b : Bool) → SameTold {A = Option ℕ} (pick b (bad q) (good None)) (pick b (bad q') (good None))
    go true = h
    go false = refl

-- two numbers that are the same are read on alike, or refuse or give no factor alike
pub read_or_alike : (x y : Told ℕ) (k l : ℕ → Told (Option ℕ)) → SameTold x y → ((v : ℕ) → SameTold (k v) (l v)) → SameTold (read_or x k) (read_or y l)
read_or_alike (good v) (good w) k l h g = rw (← h) (g v)
read_or_alike (good v) (bad q) k l h g = absurd h
read_or_alike (bad q) (good w) k l h g = absurd h
read_or_alike (bad q) (bad q') k l h g = unread_alike q q' h

-- two bases that are the same are read on alike, or give no factor alike
or_none_alike : (x y : Told ℕ) (k l : ℕ → Told (Option ℕ)) → SameTold x y → ((v : ℕ) → x ≡ good v → SameTold (k v) (l v)) → SameTold (or_none x k) (or_none y l)
or_none_alike (good v) (good w) k l h g = rw (← h) (g v refl)
or_none_alike (good v) (bad q) k l h g = absurd h
or_none_alike (bad q) (good w) k l h g = absurd h
or_none_alike (bad q) (bad q') k l h g = refl

-- two units of a chain: the same factor, or the same measure, whose id matters
abbrev SameChain : (ℕ → Type 0) → Chain → Chain → Type 0
SameChain Named (known f) (known g) = f ≡ g
SameChain Named (known f) (leads j) = ⊥
SameChain Named (leads i) (known g) = ⊥
SameChain Named (leads i) (leads j) = (i ≡ j) × Named i

module _ {Named : ℕ → Type 0} {s s' : List ℕ} where
  -- ---- arguments
  module _ {r r' : Span} (h : AlikeSpan Named s s' r r') where
    -- the factor of a named unit is the same for alike arguments
    named_alike : (name : String) (f : List ℕ → ℕ) → factor_if_named name s r (f (prefix_in s r)) ≡ factor_if_named name s' r' (f (prefix_in s' r'))
    named_alike name f =
        ap (λ (t : List ℕ). pick (is_word t (bytes name)) (Some (f (prefix_in s r))) None) (name_second h (bytes name))
        ∙ ap (λ (t : List ℕ). pick (is_word (unit_in name s' r') (bytes name)) (Some (f t)) None) (name_first h [])

    -- an SI unit's length factor is the same for alike arguments
    pub si_length_alike : si_length s r ≡ si_length s' r'
    unfolding si_length
    si_length_alike = named_alike "METRE" length_factor_of

    -- an SI unit's angle factor is the same for alike arguments
    pub si_angle_alike : si_angle s r ≡ si_angle s' r'
    unfolding si_angle
    si_angle_alike = named_alike "RADIAN" factor_of

    -- a measure's reference is the same for alike arguments
    pub ref_alike : SameTold (measure_ref s r) (measure_ref s' r')
    unfolding measure_ref skip_of
    ref_alike = same_on
        (λ u. (next_of reference_of s (skip_of s r.start r.stop).place r.stop).answer) (λ u. (next_of reference_of s' (skip_of s' r'.start r'.stop).place r'.stop).answer)
        (skip_of s r.start r.stop).answer (skip_of s' r'.start r'.stop).answer
        (read_first h skip_of skip_shift) (λ u. read_second h (next_of reference_of) (λ s a z m n. next_shift s a z m n reference_of))

    -- a measure's reference in alike arguments is one of the ids that matter
    ref_named : (k : ℕ) → measure_ref s r ≡ good k → Named k
    unfolding measure_ref skip_of
    ref_named k e = go (skip_of s r.start r.stop).answer e
      where
        go : (x : Told (Unit {0})) → onward (λ u. (next_of reference_of s (skip_of s r.start r.stop).place r.stop).answer) x ≡ good k → Named k
        go (good u) e = ref_second h k e
        go (bad q) e = clash (cc)

    -- the first parameter of alike arguments is the same as a measure's number
    pub number_alike : SameTold (next_of measure_of s r.start r.stop).answer (next_of measure_of s' r'.start r'.stop).answer
    number_alike = read_first h (next_of measure_of) (λ s a z k l. next_shift s a z k l measure_of)

  -- ---- records
  module _ {t t' : SeenRecord} (h : AlikeRecord Named s s' t t') where
    -- the arguments of two alike records as measures are alike
    pub run_alike : BothTold (BothOption (AlikeSpan Named s s')) (measure_run t) (measure_run t')
    run_alike = rw (← h.kind) (both_pick (BothOption (AlikeSpan Named s s')) (same_kind t.kind Complex)
        (good_by (first_unit_part LengthMeasureWithUnit) t.parts) (good (Some t.run)) (good_by (first_unit_part LengthMeasureWithUnit) t'.parts) (good (Some t'.run))
        (part_alike Named s s' t t' h LengthMeasureWithUnit) h.run)

    -- what two alike records give, by an SI part before a conversion, is alike
    pub by_alike : {A : Type 0} (R : A → A → Type 0) (si si' conversion conversion' : Span → Told A) (neither : A) → R neither neither
        → ((r r' : Span) → AlikeSpan Named s s' r r' → BothTold R (si r) (si' r')) → ((r r' : Span) → AlikeSpan Named s s' r r' → BothTold R (conversion r) (conversion' r'))
        → BothTold R (si_or_conversion si conversion neither t) (si_or_conversion si' conversion' neither t')
    by_alike R si si' conversion conversion' neither n f g =
        both_on_option (AlikeSpan Named s s') R
        (onward (option_by (good neither) conversion) (self_or ConversionBasedUnit t)) (onward (option_by (good neither) conversion') (self_or ConversionBasedUnit t')) si si'
        (self_or SiUnit t) (self_or SiUnit t') (self_alike Named s s' t t' h SiUnit)
        (both_on_option (AlikeSpan Named s s') R (good neither) (good neither) conversion conversion'
        (self_or ConversionBasedUnit t) (self_or ConversionBasedUnit t') (self_alike Named s s' t t' h ConversionBasedUnit) n g)
        f

    -- two alike records give the same as a unit of a chain
    pub link_alike : (left : ℕ) → BothTold (SameChain Named) (link_of s left t) (link_of s' left t')
    unfolding link_of
    link_alike left = by_alike (SameChain Named) (λ r. good (known (si_length s r))) (λ r. good (known (si_length s' r))) (conversion_of s left t.run.start) (conversion_of s' left t'.run.start) (known None) refl
        (λ r r' k. si_length_alike k)
        (λ r r' k. both_pick (SameChain Named) (eqb left 0) (bad (refusal 15 0 t.run.start)) (good_by leads (measure_ref s r)) (bad (refusal 15 0 t'.run.start)) (good_by leads (measure_ref s' r'))
        (refl, refl) (go (measure_ref s r) (measure_ref s' r') (ref_alike k) (ref_named k)))
      where
        go : (x y : Told ℕ) → SameTold x y → ((i : ℕ) → x ≡ good i → Named i) → BothTold (SameChain Named) (good_by leads x) (good_by leads y)
        go (good i) (good j) e n = (e, n i refl)
        go (good i) (bad q) e n = absurd e
        go (bad q) (good j) e n = absurd e
        go (bad q) (bad q') e n = e

  -- ---- records and lookups
  module _ {find find' : ℕ → Told (Option SeenRecord)} (finds : AlikeFind Named s s' find find') where
    -- what is made of the records found for an id that matters, or of none, is the same
    pub found_alike : {A : Type 0} (other : Told A) (f g : SeenRecord → Told A) (i : ℕ) → Named i → ((t t' : SeenRecord) → AlikeRecord Named s s' t t' → SameTold (f t) (g t')) → SameTold (onward (option_by other f) (find i)) (onward (option_by other g) (find' i))
    found_alike other f g i n k = both_on_option (AlikeRecord Named s s') (λ a b. a ≡ b) other other f g (find i) (find' i) (finds.found i n) (same_refl other) k

    module _ (k l : SeenRecord → Told (Option ℕ)) (units : (t t' : SeenRecord) → AlikeRecord Named s s' t t' → SameTold (k t) (l t')) where
      -- a measure's number and then its base give the same for alike arguments, where k and l give a unit's factor
      measure_at_alike : (r r' : Span) → AlikeSpan Named s s' r r' → SameTold (measure_at s find k r) (measure_at s' find' l r')
      unfolding next_of
      measure_at_alike r r' h =
          read_or_alike (next_of measure_of s r.start r.stop).answer (next_of measure_of s' r'.start r'.stop).answer
          (λ v. base_of s find k v (next_of measure_of s r.start r.stop).place r.stop) (λ v. base_of s' find' l v (next_of measure_of s' r'.start r'.stop).place r'.stop) (number_alike h)
          (λ v. or_none_alike
          (next_of reference_of s (next_of measure_of s r.start r.stop).place r.stop).answer (next_of reference_of s' (next_of measure_of s' r'.start r'.stop).place r'.stop).answer
          (λ b. onward (option_by (good None) (λ t. scaled_by v (k t))) (find b)) (λ b. onward (option_by (good None) (λ t. scaled_by v (l t))) (find' b))
          (read_second h (next_of reference_of) (λ s a z m n. next_shift s a z m n reference_of))
          (λ b d. found_alike (good None) (λ t. scaled_by v (k t)) (λ t. scaled_by v (l t)) b (ref_second h b d) (λ t t' e. same_by (option_by None (λ f. Some (product v f))) (k t) (l t') (units t t' e))))

      -- the factor of a measure, by an id that matters, is the same
      pub measure_alike : (i : ℕ) → Named i → SameTold (measure_in s find k i) (measure_in s' find' l i)
      unfolding measure_in
      measure_alike i n = found_alike (good None) (λ t. onward (option_by (good None) (measure_at s find k)) (measure_run t)) (λ t. onward (option_by (good None) (measure_at s' find' l)) (measure_run t)) i n
          (λ t t' h. both_on_option (AlikeSpan Named s s') (λ a b. a ≡ b) (good None) (good None) (measure_at s find k) (measure_at s' find' l) (measure_run t) (measure_run t') (run_alike h) refl measure_at_alike)

    -- two units of a chain that are the same lead on the same way
    chained_alike : (k l : ℕ → Told (Option ℕ)) → ((i : ℕ) → Named i → SameTold (k i) (l i)) → (c d : Chain) → SameChain Named c d → SameTold (chained k c) (chained l d)
    chained_alike k l h (known f) (known g) e = e
    chained_alike k l h (known f) (leads j) e = absurd e
    chained_alike k l h (leads i) (known g) e = absurd e
    chained_alike k l h (leads i) (leads j) (e, n) = rw (← e) (h i n)

    -- two alike length units have the same factor
    pub length_alike : (n : ℕ) (t t' : SeenRecord) → AlikeRecord Named s s' t t' → SameTold (length_of s find n t) (length_of s' find' n t')
    unfolding length_of
    length_alike zero t t' h =
        both_on (SameChain Named) (λ a b. a ≡ b) (chained (λ i. good None)) (chained (λ i. good None)) (link_of s zero t) (link_of s' zero t') (link_alike h zero) (chained_alike (λ i. good None) (λ i. good None) (λ i k. refl))
    length_alike (suc n) t t' h =
        both_on (SameChain Named) (λ a b. a ≡ b) (chained (measure_in s find (λ b. length_of s find n b))) (chained (measure_in s' find' (λ b. length_of s' find' n b))) (link_of s (suc n) t) (link_of s' (suc n) t') (link_alike h (suc n))
        (chained_alike (measure_in s find (λ b. length_of s find n b)) (measure_in s' find' (λ b. length_of s' find' n b)) (measure_alike (λ b. length_of s find n b) (λ b. length_of s' find' n b) (length_alike n)))

    -- an angle's number, by an id that matters, is the same
    pub number_in_alike : (i : ℕ) → Named i → SameTold (angle_number s find i) (angle_number s' find' i)
    unfolding angle_number
    number_in_alike i n = found_alike (good None) (λ t. read_or (next_of measure_of s t.run.start t.run.stop).answer (λ v. good (Some v))) (λ t. read_or (next_of measure_of s' t.run.start t.run.stop).answer (λ v. good (Some v))) i n
        (λ t t' h. read_or_alike (next_of measure_of s t.run.start t.run.stop).answer (next_of measure_of s' t'.run.start t'.run.stop).answer (λ v. good (Some v)) (λ v. good (Some v)) (number_alike h.run) (λ v. refl))

    -- two alike angle units have the same factor
    pub angle_alike : (t t' : SeenRecord) → AlikeRecord Named s s' t t' → SameTold (angle_of s find t) (angle_of s' find' t')
    unfolding angle_of
    angle_alike t t' h = by_alike h (λ a b. a ≡ b) (λ r. good (si_angle s r)) (λ r. good (si_angle s' r)) (λ r. onward (angle_number s find) (measure_ref s r)) (λ r. onward (angle_number s' find') (measure_ref s' r)) None refl
        (λ r r' k. si_angle_alike k)
        (λ r r' k. same_on_read (angle_number s find) (angle_number s' find') (measure_ref s r) (measure_ref s' r') (ref_alike k) (λ i e. number_in_alike i (ref_named k i e)))
