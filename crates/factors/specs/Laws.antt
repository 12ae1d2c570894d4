-- Laws for the code: each way out of a function, over plain variables. Assumes nothing.
use Prim.Native.Nat.{ℕ, zero, suc, ◌-◌, ◌≤◌}
use Rattle.std.specs.Prelude.{◌≡◌, Bool, true, false, List, [], ◌∷◌, map, eqb, length, take, drop, Option, Some, None, Result, Ok, Err, option_map}
use Rattle.std.proofs.Math.Path.{refl, ap}
use Rattle.std.proofs.Math.Option.{Option as Found, none, some}
use Rattle.std.proofs.Common.{sym, ◌∙◌, subst, le-ltb}
use native.Mathlib.Omega.{arith}
use Rattle.common.specs.Pick.{pick}
use Rattle.common.specs.Compare.{clash}
use Rattle.common.specs.Tests.{bounds}
use Rattle.error.specs.Refusal.{Refusal, refusal, Told, good, bad, told, told_result}
use Rattle.error.specs.declared.Fault.{Fault}
use Rattle.error.specs.declared.Fault.TheVariants.{NoMarker, TooLong, OpenComment, OpenString, NoEnd, OpenParen, BadRecord, NoRow, OutOfFile, NoParameter, OpenLiteral, WrongType, OutsideClass, NoRecord, TooDeep, TooShort}
use Rattle.record.specs.Word.{is_word}
use Rattle.common.specs.Bytes.{bytes}
use Rattle.statement.specs.Rows.{Row, HeaderRow}
use Rattle.statement.specs.declared.Range.{Range}
use Rattle.kinds.specs.Kind.{kind_of_keyword, kind_is}
use Rattle.kinds.specs.Rules.{rank_of, NamedKind, KindForm}
use Rattle.kinds.specs.declared.Kind.{Kind}
use Rattle.kinds.specs.declared.Kind.TheVariants.{GeometricRepresentationContext, GlobalUnitAssignedContext, GlobalUncertaintyAssignedContext, LengthUnit, PlaneAngleUnit, SolidAngleUnit, SiUnit, ConversionBasedUnit, UncertaintyMeasureWithUnit, LengthMeasureWithUnit, Complex, Other}
use Rattle.params.specs.ParameterEnd.{cut_of, started}
use Rattle.params.specs.Answer.{ParamEnd, stops_before, literal_open, Read, reading, Span, span, reader_in_file, onward, told_read}
use Rattle.params.specs.declared.State.{State}
use Rattle.params.specs.Reader.{bounded, param_begun, param_of}
use Rattle.params.specs.Skips.{skip_of}
use Rattle.scalars.specs.Scalars.{measure_of}
use Rattle.scalars.specs.Answer.{next_of}
use Rattle.reals.specs.Scalar.{reference_of}
use Rattle.reals.specs.Answer.{Answer}
use Rattle.prefixes.specs.Prefix.{factor_of}
use Rattle.prefixes.specs.Length.{length_factor_of}
use Rattle.words.specs.Places.{SpanIn, ToldIn, name_in_lem}
use Rattle.parts.specs.Part.{part_of, parts_of, first_kind}
use Rattle.parts.specs.Rules.{part_is_kind}
use Rattle.index.specs.Search.{searched}
use Rattle.index.specs.declared.Ids.{Ids}
use Rattle.lookup.specs.Lookup.{span_fine, span_in, kind_in, row_found, row_for}
use Rattle.lookup.specs.Lookup as Lookup
use Rattle.factors.specs.SeenRecords.{good_by, same_kind, unit_part_of, SeenRecord, seen_record_at, seen_record_of, find_of, first_unit_part, self_or}
use Rattle.factors.specs.Factor.{unread_of, read_or, number_or_none, Chain, known, leads, conversion_of, si_or_conversion, link_of, chained, base_of, measure_at, measure_in, length_of, angle_number, angle_of}
use Rattle.factors.specs.Unit.{name_or, next_unit_name, prefix_in, factor_if_named, si_length, si_angle, measure_ref, option_by, scaled_by, measure_run}
use Rattle.factors.specs.Answer.{span_of}
use Rattle.factors.specs.Code.{run_of, range_of, seen_unit, NameIn, prefix_for}
use Rattle.factors.specs.declared.UnitArgs.{UnitArgs}
use Rattle.factors.specs.declared.UnitArgs.TheVariants.{Si, Conversion}

-- ---- a record's arguments
-- a refusal is the same, of whichever type the answer would have been
pub same_bad : {A B : Type 0} {q r : Refusal} → ◌≡◌ {A = Told A} (bad q) (bad r) → ◌≡◌ {A = Told B} (bad q) (bad r)
same_bad {q} {r} h = let e : q ≡ r = cc in ap bad e

-- a span that was given lies in the file
pub span_good : (n a z : ℕ) {p : Lookup.FileSpan} → good p ≡ span_in n a z → (span_fine n a z ≡ true) × (p ≡ Lookup.file_span a z)
span_good n a z {p} = go (span_fine n a z)
  where
    go : (b : Bool) → good p ≡ pick b (good (Lookup.file_span a z)) (bad (refusal 9 0 0)) → (b ≡ true) × (p ≡ Lookup.file_span a z)
    go true h = (refl, cc)
    go false h = clash (cc)

-- of a row whose arguments do not lie in the file nothing is read
pub seen_record_out : {A : Type 0} (k : SeenRecord → Told A) (s : List ℕ) (w : Row) {q : Refusal} → bad q ≡ span_in (length s) w.arg_start w.arg_end → bad q ≡ onward k (seen_record_of s w)
seen_record_out k s w {q} = go (span_fine (length s) w.arg_start w.arg_end)
  where
    go : (b : Bool) → bad q ≡ pick b (good (Lookup.file_span w.arg_start w.arg_end)) (bad (refusal 9 0 0)) → bad q ≡ onward k (pick b (good (seen_record_at s w)) (bad (refusal 9 0 0)))
    go true h = clash (cc)
    go false h = same_bad h

-- the arguments of the first part of a kind, by its row and by its part
first_run : (s : List ℕ) (k : Kind) (ps : List HeaderRow) → run_of (good (first_kind s k ps)) ≡ good (first_unit_part k (map (unit_part_of s) ps))
first_run s k [] = refl
first_run s k (p ∷ ps) = go (part_is_kind s k p) (first_kind s k ps) (first_unit_part k (map (unit_part_of s) ps)) (first_run s k ps)
  where
    go : (b : Bool) (x : Found HeaderRow) (y : Option Span) → run_of (good x) ≡ good y → run_of (good (pick b (some p) x)) ≡ good (pick b (Some (span p.arg_start p.arg_end)) y)
    go true x y h = refl
    go false x y h = h

-- `complex_part` gives the arguments of the first part of the kind
part_run : (s : List ℕ) (a z c : ℕ) (k : Kind) → span_fine (length s) a z ≡ true → run_of (part_of s a z c k) ≡ good_by (first_unit_part k) (pick (eqb c 1) (good_by (map (unit_part_of s)) (parts_of s a z)) (good []))
part_run s a z c k h =
    let (l, m) = bounds a z (length s) h in
    rw (le-ltb (length s) z m, le-ltb z a l) (go (eqb c 1) (parts_of s a z))
  where
    by : (x : Told (List HeaderRow)) → run_of (good_by (first_kind s k) x) ≡ good_by (first_unit_part k) (good_by (map (unit_part_of s)) x)
    by (good ps) = first_run s k ps
    by (bad q) = refl

    go : (b : Bool) (x : Told (List HeaderRow)) → run_of (pick b (good_by (first_kind s k) x) (good none)) ≡ good_by (first_unit_part k) (pick b (good_by (map (unit_part_of s)) x) (good []))
    go true x = by x
    go false x = refl

module _ (s : List ℕ) (w : Row) {p : Lookup.FileSpan} (given : good p ≡ span_in (length s) w.arg_start w.arg_end) where
  -- the arguments of a record of the kind itself are its own
  pub self_own : (k : Kind) → same_kind (kind_in s w) k ≡ true → good (Some (span p.start p.end)) ≡ onward (self_or k) (seen_record_of s w)
  self_own k e = let (f, g) = span_good (length s) w.arg_start w.arg_end given in rw (g, f, e) refl

  -- the arguments of a record of another kind are those of its first part of the kind
  pub self_part : (k : Kind) → same_kind (kind_in s w) k ≡ false → run_of (part_of s p.start p.end w.complex k) ≡ onward (self_or k) (seen_record_of s w)
  self_part k e = let (f, g) = span_good (length s) w.arg_start w.arg_end given in
      rw (g, f, e) (part_run s w.arg_start w.arg_end w.complex k f)

  -- the arguments of a complex measure are those of its first LENGTH_MEASURE_WITH_UNIT part
  pub measure_part : eqb w.complex 1 ≡ true → run_of (part_of s p.start p.end 1 LengthMeasureWithUnit) ≡ onward measure_run (seen_record_of s w)
  measure_part e = let (f, g) = span_good (length s) w.arg_start w.arg_end given in
      rw (g, f, e) (part_run s w.arg_start w.arg_end 1 LengthMeasureWithUnit f)

-- none of the named kinds is that of a complex record
named_simple : (k : Kind) → NamedKind k → eqb (rank_of k) 10 ≡ false
named_simple GeometricRepresentationContext n = refl
named_simple GlobalUnitAssignedContext n = refl
named_simple GlobalUncertaintyAssignedContext n = refl
named_simple LengthUnit n = refl
named_simple PlaneAngleUnit n = refl
named_simple SolidAngleUnit n = refl
named_simple SiUnit n = refl
named_simple ConversionBasedUnit n = refl
named_simple UncertaintyMeasureWithUnit n = refl
named_simple LengthMeasureWithUnit n = refl
named_simple Complex n = absurd n
named_simple Other n = absurd n

-- no keyword is of the kind of a complex record
word_simple : {t : List ℕ} {k : Kind} → KindForm t k → eqb (rank_of k) 10 ≡ false
word_simple (KindForm.spelt k n m) = named_simple k n
word_simple (KindForm.other m) = refl

-- a row that is not marked is of no complex record
kind_simple : (s : List ℕ) (w : Row) → eqb w.complex 1 ≡ false → same_kind (kind_in s w) Complex ≡ false
kind_simple s w e = rw e (go (span_fine (length s) w.key_start w.key_end))
  where
    go : (b : Bool) → eqb (rank_of (pick b (kind_of_keyword (Lookup.bytes_between s w.key_start w.key_end)) Other)) 10 ≡ false
    go true = word_simple (kind_is (Lookup.bytes_between s w.key_start w.key_end))
    go false = refl

-- a simple measure has its own arguments
pub measure_own : (s : List ℕ) (w : Row) {p : Lookup.FileSpan} → good p ≡ span_in (length s) w.arg_start w.arg_end → eqb w.complex 1 ≡ false → good (Some (span p.start p.end)) ≡ onward measure_run (seen_record_of s w)
measure_own s w h e = let (f, g) = span_good (length s) w.arg_start w.arg_end h in rw (g, f, kind_simple s w e) refl

-- ---- where the reader reads up to
-- what a parameter's cut gives leaves the reader's end as it is
bounded_end : (xs : List ℕ) (e : ℕ) (ys : List ℕ) (c : ParamEnd) → (bounded xs e ys c).end ≡ e
bounded_end xs e ys (stops_before a b) = refl
bounded_end xs e ys (literal_open o) = refl

-- a parameter from its first byte on leaves the reader's end as it is
begun_end : (xs : List ℕ) (e : ℕ) (ys : List ℕ) → (param_begun xs e ys).end ≡ e
begun_end xs e [] = refl
begun_end xs e (c ∷ r) = bounded_end xs e (c ∷ r) (cut_of (c ∷ r))

-- a parameter that is cut leaves the reader's end as it is
param_end : (s : List ℕ) (p e : ℕ) → (param_of s p e).end ≡ e
unfolding param_of
param_end s p e = go (reader_in_file (length s) p e) (param_begun (take e s) e (started (drop p (take e s)))) (begun_end (take e s) e (started (drop p (take e s))))
  where
    go : (b : Bool) (r : Read Span) → r.end ≡ e → (pick b r (reading (bad (refusal 9 0 0)) p e)).end ≡ e
    go true r h = h
    go false r h = refl

-- what is read of a parameter leaves the reader's end as it is
pub next_end : {A : Type 0} (f : List ℕ → Answer A) (s : List ℕ) (p e : ℕ) → (next_of f s p e).end ≡ e
unfolding next_of
next_end f s p e = param_end s p e

-- a parameter that is skipped leaves the reader's end as it is
skip_end : (s : List ℕ) (p e : ℕ) → (skip_of s p e).end ≡ e
unfolding skip_of
skip_end s p e = param_end s p e

-- ---- what a reader's answer tells, by its parts
module _ {A : Type 0} (t : State) where
  -- its value or refusal
  told_answer : (r : Result A Fault) → (told_read r t).answer ≡ told_result r
  told_answer (Ok a) = refl
  told_answer (Err f) = refl

  -- where the reader then stands
  told_place : (r : Result A Fault) → (told_read r t).place ≡ t.place
  told_place (Ok a) = refl
  told_place (Err f) = refl

  -- up to where it reads
  told_end : (r : Result A Fault) → (told_read r t).end ≡ t.end
  told_end (Ok a) = refl
  told_end (Err f) = refl

-- ---- SI units
-- a name that was read lies in the file
pub names_in : (s : List ℕ) (p e : ℕ) (r : Result Span Fault) (t : State) → told_read r t ≡ next_unit_name s p e → NameIn (length s) r
names_in s p e r t h = go r (sym (told_answer t r) ∙ ap (λ (x : Read Span). x.answer) h)
  where
    go : (r : Result Span Fault) → told_result r ≡ (next_unit_name s p e).answer → NameIn (length s) r
    go (Ok a) k = let P : Told Span → Type 0 = ToldIn (length s) (SpanIn (length s)) in subst P (sym k) (name_in_lem s p e)
    go (Err f) k = tt

module _ (s : List ℕ) (a z : ℕ) (name : List ℕ) (first second : Result Span Fault) (o t u : State) (begins : o ≡ record { place = a; end = z }) (from : told_read first t ≡ next_unit_name s o.place o.end) (two : told_read second u ≡ next_unit_name s t.place t.end) where
  -- the first name is read from the arguments' start
  one : told_read first t ≡ next_unit_name s a z
  one = from ∙ ap (λ (v : State). next_unit_name s v.place v.end) begins

  -- the second name is read from where the reader stands after the first
  second_is : told_result second ≡ (next_unit_name s (next_unit_name s a z).place z).answer
  second_is =
      let f : t.place ≡ (next_unit_name s a z).place = sym (told_place t first) ∙ ap (λ (x : Read Span). x.place) one in
      let g : t.end ≡ z = sym (told_end t first) ∙ ap (λ (x : Read Span). x.end) one ∙ param_end s a z in
      sym (told_answer u second) ∙ ap (λ (x : Read Span). x.answer) two ∙ ap (λ (x : ℕ). (next_unit_name s x t.end).answer) f ∙ ap (λ (x : ℕ). (next_unit_name s (next_unit_name s a z).place x).answer) g

  -- a unit of another name has no prefix
  pub prefix_other : is_word (name_or name s (told_result second)) name ≡ false → None ≡ prefix_for s (span a z) name
  prefix_other h = let k = ap (λ (x : Told Span). is_word (name_or name s x) name) (sym second_is) ∙ h in rw k refl

  -- a unit of the name has the first parameter for its prefix
  pub prefix_named : is_word (name_or name s (told_result second)) name ≡ true → Some (name_or [] s (told_result first)) ≡ prefix_for s (span a z) name
  prefix_named h =
      let k = ap (λ (x : Told Span). is_word (name_or name s x) name) (sym second_is) ∙ h in
      rw k (ap (λ (x : Told Span). Some (name_or [] s x)) (sym (told_answer t first) ∙ ap (λ (x : Read Span). x.answer) one))

module _ (s : List ℕ) (r : Span) where
  -- an SI length unit has the length factor of its prefix
  pub length_prefix : option_map length_factor_of (prefix_for s r (bytes "METRE")) ≡ si_length s r
  unfolding si_length
  length_prefix = go (is_word (name_or (bytes "METRE") s (next_unit_name s (next_unit_name s r.start r.stop).place r.stop).answer) (bytes "METRE"))
    where
      go : (b : Bool) → option_map length_factor_of (pick b (Some (prefix_in s r)) None) ≡ pick b (Some (length_factor_of (prefix_in s r))) None
      go true = refl
      go false = refl

  -- an SI angle unit has the factor of its prefix
  pub angle_prefix : option_map factor_of (prefix_for s r (bytes "RADIAN")) ≡ si_angle s r
  unfolding si_angle
  angle_prefix = go (is_word (name_or (bytes "RADIAN") s (next_unit_name s (next_unit_name s r.start r.stop).place r.stop).answer) (bytes "RADIAN"))
    where
      go : (b : Bool) → option_map factor_of (pick b (Some (prefix_in s r)) None) ≡ pick b (Some (factor_of (prefix_in s r))) None
      go true = refl
      go false = refl

-- ---- conversion units
module _ (s : List ℕ) (a z : ℕ) (o : State) (begins : o ≡ record { place = a; end = z }) where
  -- a conversion unit whose name cannot be skipped: what refuses it refuses the measure's reference
  pub ref_refused : {q : Refusal} {p e : ℕ} → reading (bad q) p e ≡ skip_of s o.place o.end → bad q ≡ measure_ref s (span a z)
  unfolding measure_ref
  ref_refused {q} {p} {e} h = let g : reading (bad q) p e ≡ skip_of s a z = h ∙ ap (λ (v : State). skip_of s v.place v.end) begins in rw (← g) refl

  -- behind a conversion unit's name stands the measure's reference
  pub ref_past : (u : Unit {0}) (t : State) (r : Result ℕ Fault) (v : State) → told_read (Ok u) t ≡ skip_of s o.place o.end → told_read r v ≡ next_of reference_of s t.place t.end → told_result r ≡ measure_ref s (span a z)
  unfolding measure_ref
  ref_past u t r v h k =
      let g : told_read (Ok u) t ≡ skip_of s a z = h ∙ ap (λ (v : State). skip_of s v.place v.end) begins in
      let l : t.end ≡ z = ap (λ (r : Read (Unit {0})). r.end) g ∙ skip_end s a z in
      rw (← g) (sym (told_answer v r) ∙ ap (λ (r : Read ℕ). r.answer) (k ∙ ap (λ (y : ℕ). next_of reference_of s t.place y) l))

module _ (s : List ℕ) (left start : ℕ) (r : Span) where
  -- a conversion unit where none is left is 15
  pub conversion_deep : left ≡ 0 → bad (refusal 15 0 start) ≡ conversion_of s left start r
  conversion_deep h = rw h refl

  -- a conversion unit whose measure's reference is refused, where one is left, is refused
  pub conversion_refused : {q : Refusal} → eqb left 0 ≡ false → bad q ≡ measure_ref s r → bad q ≡ conversion_of s left start r
  conversion_refused h k = rw (h, ← k) refl

  -- a conversion unit whose measure's reference reads, where one is left, leads to that measure
  pub conversion_leads : {i : ℕ} → eqb left 0 ≡ false → good i ≡ measure_ref s r → good (leads i) ≡ conversion_of s left start r
  conversion_leads h k = rw (h, ← k) refl

-- ---- an SI part goes before a conversion
module _ {A : Type 0} (si : Span → Told A) (conversion : SeenRecord → Span → Told A) (neither : A) where
  -- what is made of a unit by its SI part or its conversion
  abbrev By : Told SeenRecord → Told A
  By x = onward (λ t. si_or_conversion si (conversion t) neither t) x

  -- a unit with a fault in its parts is refused
  unit_refused : {q : Refusal} (x : Told SeenRecord) → bad q ≡ onward (self_or SiUnit) x → bad q ≡ By x
  unit_refused (good t) h = rw (← h) refl
  unit_refused {q} (bad r) h = let e : q ≡ r = cc in ap bad e

  -- of an SI unit its arguments decide
  unit_si : {r : Span} {y : Told A} (x : Told SeenRecord) → good (Some r) ≡ onward (self_or SiUnit) x → y ≡ si r → y ≡ By x
  unit_si (good t) h e = rw (← h) e
  unit_si (bad r) h e = clash (cc)

  -- a unit with neither an SI part nor a conversion gives what stands for neither
  unit_neither : (x : Told SeenRecord) → good None ≡ onward (self_or SiUnit) x → good None ≡ onward (self_or ConversionBasedUnit) x → good neither ≡ By x
  unit_neither (good t) h k = rw (← h, ← k) refl
  unit_neither (bad r) h k = clash (cc)

  -- a unit with a fault that is met only when a conversion part is sought is refused
  unit_late : {q : Refusal} (x : Told SeenRecord) → good None ≡ onward (self_or SiUnit) x → bad q ≡ onward (self_or ConversionBasedUnit) x → bad q ≡ By x
  unit_late (good t) h k = rw (← h, ← k) refl
  unit_late (bad r) h k = clash (cc)

-- ---- what a record is as a unit
-- a unit with a fault in its parts is refused
pub seen_refused : {q : Refusal} (x : Told SeenRecord) → bad q ≡ onward (self_or SiUnit) x → bad q ≡ onward seen_unit x
unfolding seen_unit
seen_refused x h = unit_refused (λ r. good (Some (Si (range_of r)))) (λ t r. good (Some (Conversion (range_of r)))) None x h

-- a record that has an SI part is an SI unit
pub seen_si : (r : Range) (x : Told SeenRecord) → good (Some (span_of r)) ≡ onward (self_or SiUnit) x → good (Some (Si r)) ≡ onward seen_unit x
unfolding seen_unit
seen_si r x h = unit_si (λ r. good (Some (Si (range_of r)))) (λ t r. good (Some (Conversion (range_of r)))) None x h refl

-- a unit with a fault that is met only when a conversion part is sought is refused
pub seen_late : {q : Refusal} (x : Told SeenRecord) → good None ≡ onward (self_or SiUnit) x → bad q ≡ onward (self_or ConversionBasedUnit) x → bad q ≡ onward seen_unit x
unfolding seen_unit
seen_late x h k = unit_late (λ r. good (Some (Si (range_of r)))) (λ t r. good (Some (Conversion (range_of r)))) None x h k

-- a record that has no SI part is a conversion unit where it has that part
pub seen_other : (o : Option Range) (x : Told SeenRecord) → good None ≡ onward (self_or SiUnit) x → good (option_map span_of o) ≡ onward (self_or ConversionBasedUnit) x → good (option_map Conversion o) ≡ onward seen_unit x
unfolding seen_unit
seen_other None x h k = unit_neither (λ r. good (Some (Si (range_of r)))) (λ t r. good (Some (Conversion (range_of r)))) None x h k
seen_other (Some r) (good t) h k = rw (← h, ← k) refl
seen_other (Some r) (bad q) h k = clash (cc)

module _ {A : Type 0} (si : Span → Told A) (conversion : SeenRecord → Span → Told A) (neither : A) where
  -- a unit that is refused is refused, whatever is made of one
  by_refused : {q : Refusal} (x : Told SeenRecord) → bad q ≡ onward seen_unit x → bad q ≡ By si conversion neither x
  unfolding seen_unit
  by_refused (bad r) h = same_bad h
  by_refused {q} (good t) h = go (self_or SiUnit t) (self_or ConversionBasedUnit t) h
    where
      go : (a b : Told (Option Span)) → bad q ≡ onward (option_by (onward (option_by (good None) (λ r. good (Some (Conversion (range_of r))))) b) (λ r. good (Some (Si (range_of r))))) a → bad q ≡ onward (option_by (onward (option_by (good neither) (conversion t)) b) si) a
      go (bad r) b k = same_bad k
      go (good (Some r)) b k = clash (cc)
      go (good None) (bad r) k = same_bad k
      go (good None) (good None) k = clash (cc)
      go (good None) (good (Some r)) k = clash (cc)

  -- of a record that is no unit what stands for neither is made
  by_neither : (x : Told SeenRecord) → good None ≡ onward seen_unit x → good neither ≡ By si conversion neither x
  unfolding seen_unit
  by_neither (bad r) h = clash (cc)
  by_neither (good t) h = go (self_or SiUnit t) (self_or ConversionBasedUnit t) h
    where
      go : (a b : Told (Option Span)) → good None ≡ onward (option_by (onward (option_by (good None) (λ r. good (Some (Conversion (range_of r))))) b) (λ r. good (Some (Si (range_of r))))) a → good neither ≡ onward (option_by (onward (option_by (good neither) (conversion t)) b) si) a
      go (bad r) b k = clash (cc)
      go (good (Some r)) b k = clash (cc)
      go (good None) (bad r) k = clash (cc)
      go (good None) (good None) k = refl
      go (good None) (good (Some r)) k = clash (cc)

  -- of an SI unit its arguments decide
  by_si : (r : Range) {y : Told A} (x : Told SeenRecord) → good (Some (Si r)) ≡ onward seen_unit x → y ≡ si (span_of r) → y ≡ By si conversion neither x
  unfolding seen_unit
  by_si r (bad q) h e = clash (cc)
  by_si r {y} (good t) h e = go (self_or SiUnit t) (self_or ConversionBasedUnit t) h
    where
      go : (a b : Told (Option Span)) → good (Some (Si r)) ≡ onward (option_by (onward (option_by (good None) (λ r. good (Some (Conversion (range_of r))))) b) (λ r. good (Some (Si (range_of r))))) a → y ≡ onward (option_by (onward (option_by (good neither) (conversion t)) b) si) a
      go (bad q) b k = clash (cc)
      go (good (Some p)) b k = let g : r ≡ range_of p = cc in e ∙ ap (λ (v : Range). si (span_of v)) g
      go (good None) (bad q) k = clash (cc)
      go (good None) (good None) k = clash (cc)
      go (good None) (good (Some p)) k = clash (cc)

  -- of a conversion unit its arguments decide
  by_conversion : (r : Range) {y : Told A} (s : List ℕ) (w : Row) → good (Some (Conversion r)) ≡ onward seen_unit (seen_record_of s w) → y ≡ conversion (seen_record_at s w) (span_of r) → y ≡ By si conversion neither (seen_record_of s w)
  unfolding seen_unit
  by_conversion r {y} s w h e = whole (span_fine (length s) w.arg_start w.arg_end) h
    where
      t : SeenRecord
      t = seen_record_at s w

      go : (a b : Told (Option Span)) → good (Some (Conversion r)) ≡ onward (option_by (onward (option_by (good None) (λ r. good (Some (Conversion (range_of r))))) b) (λ r. good (Some (Si (range_of r))))) a → y ≡ onward (option_by (onward (option_by (good neither) (conversion t)) b) si) a
      go (bad q) b k = clash (cc)
      go (good (Some p)) b k = clash (cc)
      go (good None) (bad q) k = clash (cc)
      go (good None) (good None) k = clash (cc)
      go (good None) (good (Some p)) k = let g : r ≡ range_of p = cc in e ∙ ap (λ (v : Range). conversion t (span_of v)) g

      whole : (b : Bool) → good (Some (Conversion r)) ≡ onward seen_unit (pick b (good t) (bad (refusal 9 0 0))) → y ≡ By si conversion neither (pick b (good t) (bad (refusal 9 0 0)))
      whole true k = go (self_or SiUnit t) (self_or ConversionBasedUnit t) k
      whole false k = clash (cc)

-- ---- a length unit
module _ (s : List ℕ) (find : ℕ → Told (Option SeenRecord)) where
  -- what a measure gives to which a unit leads, where so many conversion units are left
  further : ℕ → ℕ → Told (Option ℕ)
  further zero i = good None
  further (suc n) i = measure_in s find (λ b. length_of s find n b) i

  -- a length unit's factor, by its link of the chain
  by_link : (left : ℕ) (x : Told SeenRecord) {y : Told Chain} → y ≡ onward (link_of s left) x → onward (chained (further left)) y ≡ onward (length_of s find left) x
  unfolding length_of further
  by_link zero (good t) h = ap (onward (chained (further zero))) h
  by_link zero (bad q) h = ap (onward (chained (further zero))) h
  by_link (suc n) (good t) h = ap (onward (chained (further (suc n)))) h
  by_link (suc n) (bad q) h = ap (onward (chained (further (suc n)))) h

  module _ (left : ℕ) where
    -- a length unit with a fault in its parts is refused
    pub length_refused : {q : Refusal} (x : Told SeenRecord) → bad q ≡ onward seen_unit x → bad q ≡ onward (length_of s find left) x
    unfolding link_of
    length_refused x h = by_link left x (by_refused (λ r. good (known (si_length s r))) (λ t. conversion_of s left t.run.start) (known None) x h)

    -- a length unit with neither an SI part nor a conversion has no factor
    pub length_neither : (x : Told SeenRecord) → good None ≡ onward seen_unit x → good None ≡ onward (length_of s find left) x
    unfolding link_of
    length_neither x h = by_link left x (by_neither (λ r. good (known (si_length s r))) (λ t. conversion_of s left t.run.start) (known None) x h)

    -- an SI length unit has its factor
    pub length_si : (r : Range) {f : Option ℕ} (x : Told SeenRecord) → good (Some (Si r)) ≡ onward seen_unit x → f ≡ si_length s (span_of r) → good f ≡ onward (length_of s find left) x
    unfolding link_of
    length_si r x h e = by_link left x (by_si (λ r. good (known (si_length s r))) (λ t. conversion_of s left t.run.start) (known None) r x h (ap (λ (o : Option ℕ). good (known o)) e))

    module _ (r : Range) (w : Row) (h : good (Some (Conversion r)) ≡ onward seen_unit (seen_record_of s w)) where
      -- a conversion unit of length, by its arguments
      converted : {y : Told Chain} → y ≡ conversion_of s left w.arg_start (span_of r) → onward (chained (further left)) y ≡ onward (length_of s find left) (seen_record_of s w)
      unfolding link_of
      converted e = by_link left (seen_record_of s w) (by_conversion (λ r. good (known (si_length s r))) (λ t. conversion_of s left t.run.start) (known None) r s w h e)

      -- a conversion unit where none is left is 15
      pub length_deep : left ≡ 0 → bad (refusal 15 0 w.arg_start) ≡ onward (length_of s find left) (seen_record_of s w)
      length_deep e = converted (conversion_deep s left w.arg_start (span_of r) e)

      -- a conversion unit whose measure's reference is refused, where one is left, is refused
      pub length_unnamed : {q : Refusal} → eqb left 0 ≡ false → bad q ≡ measure_ref s (span_of r) → bad q ≡ onward (length_of s find left) (seen_record_of s w)
      length_unnamed e k = converted (conversion_refused s left w.arg_start (span_of r) e k)

      -- a conversion unit leads to a measure, and has the factor that this gives
      pub length_leads : {i : ℕ} → eqb left 0 ≡ false → good i ≡ measure_ref s (span_of r) → measure_in s find (length_of s find (left - 1)) i ≡ onward (length_of s find left) (seen_record_of s w)
      unfolding further
      length_leads {i} e k = go left e (converted (conversion_leads s left w.arg_start (span_of r) e k))
        where
          go : (n : ℕ) → eqb n 0 ≡ false → {x : Told (Option ℕ)} → further n i ≡ x → measure_in s find (length_of s find (n - 1)) i ≡ x
          go zero e l = clash (cc)
          go (suc n) e l = let j : suc n - 1 ≡ n = omega arith in rw j l

-- ---- an angle unit
module _ (s : List ℕ) (find : ℕ → Told (Option SeenRecord)) where
  -- an angle unit with a fault in its parts is refused
  pub angle_refused : {q : Refusal} (x : Told SeenRecord) → bad q ≡ onward seen_unit x → bad q ≡ onward (angle_of s find) x
  unfolding angle_of
  angle_refused x h = by_refused (λ r. good (si_angle s r)) (λ t r. onward (angle_number s find) (measure_ref s r)) None x h

  -- an angle unit with neither an SI part nor a conversion has no factor
  pub angle_neither : (x : Told SeenRecord) → good None ≡ onward seen_unit x → good None ≡ onward (angle_of s find) x
  unfolding angle_of
  angle_neither x h = by_neither (λ r. good (si_angle s r)) (λ t r. onward (angle_number s find) (measure_ref s r)) None x h

  -- an SI angle unit has its factor
  pub angle_si : (r : Range) {f : Option ℕ} (x : Told SeenRecord) → good (Some (Si r)) ≡ onward seen_unit x → f ≡ si_angle s (span_of r) → good f ≡ onward (angle_of s find) x
  unfolding angle_of
  angle_si r x h e = by_si (λ r. good (si_angle s r)) (λ t r. onward (angle_number s find) (measure_ref s r)) None r x h (ap good e)

  -- a conversion unit of angle has the measure's number
  pub angle_conversion : (r : Range) {y : Told (Option ℕ)} (w : Row) → good (Some (Conversion r)) ≡ onward seen_unit (seen_record_of s w) → y ≡ onward (angle_number s find) (measure_ref s (span_of r)) → y ≡ onward (angle_of s find) (seen_record_of s w)
  unfolding angle_of
  angle_conversion r w h e = by_conversion (λ r. good (si_angle s r)) (λ t r. onward (angle_number s find) (measure_ref s r)) None r s w h e

-- ---- the chain of conversion units
-- a length unit on a chain on which no conversion unit is left leads to no measure
link_ends : (s : List ℕ) {i : ℕ} (x : Told SeenRecord) → good (leads i) ≡ onward (link_of s 0) x → ⊥
unfolding link_of
link_ends s (bad r) h = clash (cc)
link_ends s {i} (good t) h = go (self_or SiUnit t) (self_or ConversionBasedUnit t) h
  where
    go : (x y : Told (Option Span)) → good (leads i) ≡ onward (option_by (onward (option_by (good (known None)) (conversion_of s 0 t.run.start)) y) (λ r. good (known (si_length s r)))) x → ⊥
    go (bad q) y k = clash (cc)
    go (good (Some r)) y k = clash (cc)
    go (good None) (bad q) k = clash (cc)
    go (good None) (good None) k = clash (cc)
    go (good None) (good (Some r)) k = clash (cc)

-- a factor that is known goes on unchanged along the chain
known_on : (k : ℕ → Told (Option ℕ)) (x : Told (Option ℕ)) (y : Told Chain) → good_by known x ≡ y → x ≡ onward (chained k) y
known_on k (good f) y h = subst (λ (u : Told Chain). good f ≡ onward (chained k) u) h refl
known_on k (bad q) y h = subst (λ (u : Told Chain). bad q ≡ onward (chained k) u) h refl

module _ (s : List ℕ) (find : ℕ → Told (Option SeenRecord)) where
  -- a length unit whose factor is known has it at the chain's end
  pub chain_known : (left : ℕ) (t : Told SeenRecord) (x : Told (Option ℕ)) → good_by known x ≡ onward (link_of s left) t → x ≡ onward (length_of s find left) t
  unfolding length_of
  chain_known left (bad r) (good f) h = clash (cc)
  chain_known left (bad r) (bad q) h = same_bad h
  chain_known zero (good t) x h = known_on (λ i. good None) x (link_of s zero t) h
  chain_known (suc n) (good t) x h = known_on (measure_in s find (λ b. length_of s find n b)) x (link_of s (suc n) t) h

  -- a length unit that leads to a measure has the factor that the measure gives
  pub chain_leads : (left : ℕ) (t : Told SeenRecord) {i : ℕ} {x : Told (Option ℕ)} → good (leads i) ≡ onward (link_of s left) t → x ≡ measure_in s find (length_of s find (left - 1)) i → x ≡ onward (length_of s find left) t
  unfolding length_of
  chain_leads zero t h e = absurd (link_ends s t h)
  chain_leads (suc n) (bad r) h e = clash (cc)
  chain_leads (suc n) (good t) h e = let k : suc n - 1 ≡ n = omega arith in rw (← h) (rw k at e)

-- where a length unit leads to a measure, one conversion unit is left for it
pub chain_left : (s : List ℕ) (left : ℕ) (t : Told SeenRecord) {i : ℕ} → good (leads i) ≡ onward (link_of s left) t → 1 ≤ left
chain_left s zero t h = absurd (link_ends s t h)
chain_left s (suc n) t h = omega arith

-- ---- records by their ids
module _ (s rows slots : List ℕ) (ids : Ids) (i : ℕ) where
  -- where no row has the id there is no record
  pub find_none : None ≡ row_found rows (searched rows slots ids i) → find_of s (row_for rows slots ids) i ≡ good None
  unfolding find_of
  find_none h = rw (← h) refl

  -- where a row has the id the record is that row's
  pub find_row : {w : Row} → Some w ≡ row_found rows (searched rows slots ids i) → find_of s (row_for rows slots ids) i ≡ good_by Some (seen_record_of s w)
  unfolding find_of
  find_row h = rw (← h) refl

-- ---- measures
module _ (s : List ℕ) (find : ℕ → Told (Option SeenRecord)) (k : SeenRecord → Told (Option ℕ)) (i : ℕ) where
  -- a measure's record: "a missing record [..] gives no factor"
  pub measure_missing : find i ≡ good None → good None ≡ measure_in s find k i
  unfolding measure_in
  measure_missing h = rw h refl

  -- a measure with a fault in its parts is refused
  pub measure_refused : (t : Told SeenRecord) {q : Refusal} → find i ≡ good_by Some t → bad q ≡ onward measure_run t → bad q ≡ measure_in s find k i
  unfolding measure_in
  measure_refused (good t) h e = rw (h, ← e) refl
  measure_refused (bad r) h e = rw h (same_bad e)

  -- a measure without arguments: "nor does a complex length measure lacking a LENGTH_MEASURE_WITH_UNIT part"
  pub measure_none : (t : Told SeenRecord) → find i ≡ good_by Some t → good None ≡ onward measure_run t → good None ≡ measure_in s find k i
  unfolding measure_in
  measure_none (good t) h e = rw (h, ← e) refl
  measure_none (bad r) h e = clash (cc)

  -- a measure that has arguments gives what these say
  pub measure_some : (t : Told SeenRecord) {r : Span} → find i ≡ good_by Some t → good (Some r) ≡ onward measure_run t → measure_in s find k i ≡ measure_at s find k r
  unfolding measure_in
  measure_some (good t) h e = rw (h, ← e) refl
  measure_some (bad r) h e = clash (cc)

-- an unreadable number gives no factor or refuses, whatever would follow
number_unread : (k : ℕ → Told (Option ℕ)) (x : Told ℕ) {y : Told (Option ℕ)} → y ≡ number_or_none x → ((v : ℕ) → y ≡ good (Some v) → ⊥) → y ≡ read_or x k
number_unread k (good v) h n = absurd (n v h)
number_unread k (bad q) h n = h

-- a number that reads is what follows it
number_read : (k : ℕ → Told (Option ℕ)) (x : Told ℕ) (v : ℕ) → good (Some v) ≡ number_or_none x → read_or x k ≡ k v
number_read k (good w) v h = let e : v ≡ w = cc in ap k (sym e)
number_read k (bad q) v h = go (eqb q.number 13) h
  where
    go : (b : Bool) → good (Some v) ≡ pick b (bad q) (good None) → pick b (bad q) (good None) ≡ k v
    go true l = clash (cc)
    go false l = clash (cc)

-- a refusal other than 13 leaves a number unread
pub fault_unread : (f : Fault) → ((p : ℕ) → f ≡ OutsideClass p → ⊥) → unread_of (bad (told f)) ≡ good None
fault_unread NoMarker h = refl
fault_unread TooLong h = refl
fault_unread (OpenComment p) h = refl
fault_unread (OpenString p) h = refl
fault_unread (NoEnd p) h = refl
fault_unread (OpenParen p) h = refl
fault_unread (BadRecord r p) h = refl
fault_unread (NoRow p) h = refl
fault_unread OutOfFile h = refl
fault_unread (NoParameter p) h = refl
fault_unread (OpenLiteral p) h = refl
fault_unread (WrongType p) h = refl
fault_unread (OutsideClass p) h = absurd (h p refl)
fault_unread NoRecord h = refl
fault_unread (TooDeep p) h = refl
fault_unread (TooShort p) h = refl

-- a refusal with 13 refuses
pub fault_outside : (f : Fault) (p : ℕ) → f ≡ OutsideClass p → bad (told f) ≡ unread_of (bad (told f))
fault_outside f p h = rw h refl

module _ (s : List ℕ) (find : ℕ → Told (Option SeenRecord)) (k : SeenRecord → Told (Option ℕ)) (r : Span) (o : State) (begins : o ≡ record { place = r.start; end = r.stop }) where
  -- the number that is read first in a measure's arguments
  first_number : Read ℕ
  first_number = next_of measure_of s r.start r.stop

  -- a reader at the arguments' start reads that number
  numbered : next_of measure_of s o.place o.end ≡ first_number
  unfolding first_number
  numbered = ap (λ (v : State). next_of measure_of s v.place v.end) begins

  -- a measure whose number is refused is refused
  pub at_refused : {q : Refusal} → bad q ≡ number_or_none (next_of measure_of s o.place o.end).answer → bad q ≡ measure_at s find k r
  unfolding first_number
  at_refused h = number_unread _ first_number.answer (h ∙ ap (λ (x : Read ℕ). number_or_none x.answer) numbered) (λ v e. clash (cc))

  -- a measure without a number has no factor
  pub at_unread : good None ≡ number_or_none (next_of measure_of s o.place o.end).answer → good None ≡ measure_at s find k r
  unfolding first_number
  at_unread h = number_unread _ first_number.answer (h ∙ ap (λ (x : Read ℕ). number_or_none x.answer) numbered) (λ v e. clash (cc))

  -- a measure whose number reads gives what its base does
  pub at_read : (v : ℕ) (t : State) → good (Some v) ≡ number_or_none (next_of measure_of s o.place o.end).answer → (t.place ≡ (next_of measure_of s o.place o.end).place) × (t.end ≡ o.end) → base_of s find k v t.place t.end ≡ measure_at s find k r
  unfolding first_number
  at_read v t h (f, g) =
      let l : t.place ≡ first_number.place = f ∙ ap (λ (x : Read ℕ). x.place) numbered in
      let m : t.end ≡ r.stop = g ∙ ap (λ (x : State). x.end) begins in
      ap (λ (y : ℕ). base_of s find k v y t.end) l ∙ ap (λ (y : ℕ). base_of s find k v first_number.place y) m
      ∙ sym (number_read _ first_number.answer v (h ∙ ap (λ (x : Read ℕ). number_or_none x.answer) numbered))

module _ (s : List ℕ) (find : ℕ → Told (Option SeenRecord)) (k : SeenRecord → Told (Option ℕ)) (v p e : ℕ) where
  -- a measure with "an unreadable [..] base" has no factor
  pub base_unread : {q : Refusal} {o f : ℕ} → reading (bad q) o f ≡ next_of reference_of s p e → good None ≡ base_of s find k v p e
  base_unread h = rw (← h) refl

  -- a measure whose base has no record has no factor
  pub base_missing : {b o f : ℕ} → reading (good b) o f ≡ next_of reference_of s p e → find b ≡ good None → good None ≡ base_of s find k v p e
  base_missing h g = rw (← h, g) refl

  -- a measure whose base has a record: "value times base factor"
  pub base_row : {b o f : ℕ} (t : Told SeenRecord) {x : Told (Option ℕ)} → reading (good b) o f ≡ next_of reference_of s p e → find b ≡ good_by Some t → x ≡ onward k t → scaled_by v x ≡ base_of s find k v p e
  base_row (good t) h g l = rw (← h, g, ← l) refl
  base_row (bad r) h g l = rw (← h, g, l) refl

-- ---- angles
module _ (s : List ℕ) (find : ℕ → Told (Option SeenRecord)) (i : ℕ) where
  -- an angle's measure: "a missing record [..] gives no factor"
  pub number_missing : find i ≡ good None → good None ≡ angle_number s find i
  unfolding angle_number
  number_missing h = rw h refl

  -- an angle's measure whose arguments do not lie in the file is refused
  pub number_out : (w : Row) {q : Refusal} → find i ≡ good_by Some (seen_record_of s w) → bad q ≡ span_in (length s) w.arg_start w.arg_end → bad q ≡ angle_number s find i
  unfolding angle_number
  number_out w {q} h e = rw h (go (seen_record_of s w) (seen_record_out (λ t. good t) s w e))
    where
      go : (x : Told SeenRecord) → bad q ≡ onward (λ t. good t) x → bad q ≡ onward (option_by (good None) (λ t. number_or_none (next_of measure_of s t.run.start t.run.stop).answer)) (good_by Some x)
      go (good t) l = clash (cc)
      go (bad r) l = same_bad l

  -- "An angle's conversion gives the measure's number alone."
  pub number_alone : (w : Row) {p : Range} → find i ≡ good_by Some (seen_record_of s w) → good p ≡ span_in (length s) w.arg_start w.arg_end → number_or_none (next_of measure_of s p.start p.end).answer ≡ angle_number s find i
  unfolding angle_number
  number_alone w h e =
      let (f, l) = span_good (length s) w.arg_start w.arg_end e in
      rw (h, f, l) refl
