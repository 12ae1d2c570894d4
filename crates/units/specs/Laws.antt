-- Laws for the code: each way out of a function, over plain variables. Assumes nothing.
use Prim.Native.Nat.{ℕ, zero, suc, ◌+◌, ◌-◌, ◌≤◌, ◌<◌, min}
use Rattle.std.specs.Prelude.{◌≡◌, Bool, ◌&&◌, List, [], ◌∷◌, map, eqb, ltb, ℤ, take, drop, get_or, Option, Some, None, Result, Ok, Err, is_ok}
use Rattle.std.proofs.Math.Path.{refl, sym, ap}
use Rattle.std.proofs.Common.{◌∙◌, subst, arith, length-drop, take-take, drop-drop, length-take-le}
use Rattle.std.proofs.Math.Bool.{true, false}
use Rattle.std.proofs.Math.Option.{none, some}
use Rattle.std.specs.Option.{option_or}
use Rattle.std.proofs.Math.Numerals.{add-one}
use borrow.Author.Tests.{le-leb, le-ltb, lt-ltb, ltb-true}
use Rattle.std.specs.Float.{binary64}
use Rattle.std.specs.Float.Ieee.{to_bits, of_bits, size}
use Rattle.std.proofs.Math.ListN.{length}
use Rattle.common.specs.Pick.{pick}
use Rattle.common.specs.Compare.{clash}
use Rattle.common.specs.Tests.{bounds}
use Rattle.error.specs.Refusal.{Refusal, refusal, Told, good, bad}
use Rattle.error.specs.declared.Fault.{Fault}
use Rattle.nearest.specs.Near.{near, near_units}
use Rattle.table.specs.Table.{table_rows, row_numbers}
use Rattle.statement.specs.Rows.{Row, HeaderRow, header_row_of}
use Rattle.statement.specs.declared.HeaderSpan.{HeaderSpan}
use Rattle.kinds.specs.declared.Kind.{Kind}
use Rattle.kinds.specs.declared.Kind.TheVariants.{GeometricRepresentationContext, GlobalUnitAssignedContext, GlobalUncertaintyAssignedContext, LengthUnit, PlaneAngleUnit, SolidAngleUnit, SiUnit, ConversionBasedUnit, UncertaintyMeasureWithUnit, LengthMeasureWithUnit, Complex, Other}
use Rattle.params.specs.Reader.{param_of}
use Rattle.params.specs.Answer.{Read, reading, Span, span, onward, told_read}
use Rattle.params.specs.declared.State.{State}
use Rattle.statement.specs.declared.Range.{Range}
use Rattle.scalars.specs.Scalars.{measure_of}
use Rattle.scalars.specs.Answer as Scalars
use Rattle.reals.specs.Scalar.{whole_of, reference_of}
use Rattle.parts.specs.Part.{next_part_of, parts_by, parts_from, parts_of}
use Rattle.parts.specs.Rules.{part_before}
use Rattle.parts.specs.Laws.{next_ahead}
use Rattle.lists.specs.declared.Item.{Item}
use Rattle.lists.specs.Answer.{Fate, fine, faulty, shifted, fated, mute, as_fate, roomed, next_by, values_of}
use Rattle.lists.specs.Items.{items_from, is_blank, items_by, Body, inside, bare, body_of, listed, list_by, ItemAt}
use Rattle.lists.specs.Laws.{item_in}
use Rattle.lists.specs.ReadLaws.{count_mute}
use Rattle.lists.specs.Fill.{fill_bad, fill_last, fill_more, fill_head}
use Rattle.lookup.specs.Lookup.{bytes_between, span_in, kind_in, row_in}
use Rattle.lookup.specs.Lookup as Lookup
use Rattle.factors.specs.SeenRecords.{good_by, same_kind, unit_part_of, SeenRecord, seen_record_of, self_or}
use Rattle.factors.specs.Factor.{length_of, angle_of, number_or_none}
use Rattle.factors.specs.Unit.{option_by}
use Rattle.factors.specs.Laws.{span_good, same_bad}
use Rattle.units.specs.Answer as unit
use Rattle.units.specs.Answer.{Units, length_role, angle_role, solid_role, role_by, with_length, with_angle, is_read, reads_integer, is_context, defaults, with_tolerance, uncertain_by, refs_in, uncertainty_of, uncertainty_by}
use Rattle.units.specs.Units.{role_of, first_role, unit_of, unit_by, units_by, tolerance_by, listed_units, listed_tolerance, context_of, decided_or, context_or_later, resolve_of}
use Rattle.units.specs.Code.{kind_at, context_or, deciding, seen_records_from, ids_of, ReadsAll, RefsTo}

-- ---- what is assumed
-- 1.0 is the f64 nearest to 1
pub one_bits : to_bits binary64 (of_bits binary64 4607182418800017408) ≡ near 1 1
unfolding to_bits of_bits near near_units size
one_bits = refl

-- 1e-3 is the f64 nearest to a thousandth
pub thousandth_bits : to_bits binary64 (of_bits binary64 4562254508917369340) ≡ near 1 1000
unfolding to_bits of_bits near near_units size
thousandth_bits = refl

-- ---- roles, the parts read one by one
-- a kind that is none of the three gives no role
pub role_other : (k : Kind) → (k ≡ LengthUnit → ⊥) → (k ≡ PlaneAngleUnit → ⊥) → (k ≡ SolidAngleUnit → ⊥) → None ≡ role_by k
role_other GeometricRepresentationContext a b c = refl
role_other GlobalUnitAssignedContext a b c = refl
role_other GlobalUncertaintyAssignedContext a b c = refl
role_other LengthUnit a b c = absurd (a refl)
role_other PlaneAngleUnit a b c = absurd (b refl)
role_other SolidAngleUnit a b c = absurd (c refl)
role_other SiUnit a b c = refl
role_other ConversionBasedUnit a b c = refl
role_other UncertaintyMeasureWithUnit a b c = refl
role_other LengthMeasureWithUnit a b c = refl
role_other Complex a b c = refl
role_other Other a b c = refl

-- the role of the first part that gives one
abbrev pub role_among : List ℕ → List HeaderRow → Option unit.Role
role_among s ps = first_role (map (unit_part_of s) ps)

-- the role that was found before, or another
abbrev pub role_or : Option unit.Role → Option unit.Role → Option unit.Role
role_or got r = option_by r Some got

-- where the reading of parts stands at the place i: so many steps are enough, and what was found and what is left give the answer
pub record RoleSeeking (s : List ℕ) (start end i : ℕ) (got : Option unit.Role) : Type 0 where
  pub steps : ℕ
  pub enough : length s < steps + i
  pub inside : i ≤ length s
  pub gives : good_by (λ ps. role_or got (role_among s ps)) (parts_from steps s i end) ≡ good_by (role_among s) (parts_of s start end)

-- the library's choice of the first role of two is that
pub or_is : (got r : Option unit.Role) → option_or got r ≡ role_or got r
or_is None r = refl
or_is (Some g) r = refl

-- a role that was found goes before a further part's, and that before the role of the parts after it
more_found : (got r rest : Option unit.Role) → role_or (role_or got r) rest ≡ role_or got (role_or r rest)
more_found None r rest = refl
more_found (Some g) r rest = refl

-- without further parts the role is the one that was found
last_found : (got : Option unit.Role) → got ≡ role_or got None
last_found None = refl
last_found (Some g) = refl

module _ (s : List ℕ) (start end : ℕ) where
  -- before the first part is read no role is found
  pub role_seek_starts : start ≤ length s → RoleSeeking s start end start None
  role_seek_starts h = record { steps = suc (length s); enough = omega arith; inside = h; gives = unfound (parts_of s start end) }
    where
      unfound : (x : Told (List HeaderRow)) → good_by (λ ps. role_or None (role_among s ps)) x ≡ good_by (role_among s) x
      unfound (good ps) = refl
      unfound (bad q) = refl

  module _ (i : ℕ) (got : Option unit.Role) (f : RoleSeeking s start end i got) where
    -- the steps that are left after one part
    later : (n : ℕ) × (suc n ≡ f.steps) × (good_by (λ ps. role_or got (role_among s ps)) (parts_by (next_part_of s i end) (λ p. parts_from n s (p.arg_end + 1) end)) ≡ good_by (role_among s) (parts_of s start end))
    unfolding parts_from
    later = go f.steps f.enough f.gives
      where
        go : (n : ℕ) → length s < n + i → good_by (λ ps. role_or got (role_among s ps)) (parts_from n s i end) ≡ good_by (role_among s) (parts_of s start end)
            → (m : ℕ) × (suc m ≡ n) × (good_by (λ ps. role_or got (role_among s ps)) (parts_by (next_part_of s i end) (λ p. parts_from m s (p.arg_end + 1) end)) ≡ good_by (role_among s) (parts_of s start end))
        go zero l e = let w = f.inside in absurd (omega arith)
        go (suc m) l e = (m, refl, e)

    -- no part is left: the role that was found is the answer
    pub role_seek_over : next_part_of s i end ≡ good none → good got ≡ good_by (role_among s) (parts_of s start end)
    role_seek_over e = ap good (last_found got) ∙ (rw e at later.2)

    -- a fault in the parts refuses the role
    pub role_seek_refused : (q : Refusal) → next_part_of s i end ≡ bad q → bad q ≡ good_by (role_among s) (parts_of s start end)
    role_seek_refused q e = rw e at later.2

    -- after a part that is read the reading goes on behind it, with the role found before or else that part's
    pub role_seek_goes : (p : HeaderSpan) → next_part_of s i end ≡ good (some (header_row_of p)) → RoleSeeking s start end (p.args.end + 1) (role_or got (role_by (kind_at s (header_row_of p))))
    role_seek_goes p e =
        let (n, c, g) = later in
        let (a, b, d, h) = next_ahead s i end (header_row_of p) e in
        let w = f.enough in
        record {
          steps = n;
          enough = omega arith;
          inside = omega arith;
          gives = by (kind_is a b) (parts_from n s (p.args.end + 1) end) ∙ (rw e at g);
        }
      where
        kind_is : (header_row_of p).key_start ≤ (header_row_of p).key_end → (header_row_of p).key_end ≤ length s → kind_at s (header_row_of p) ≡ (unit_part_of s (header_row_of p)).kind
        kind_is a b = rw (le-leb (header_row_of p).key_start (header_row_of p).key_end a, le-leb (header_row_of p).key_end (length s) b) refl

        by : kind_at s (header_row_of p) ≡ (unit_part_of s (header_row_of p)).kind → (x : Told (List HeaderRow)) → good_by (λ ps. role_or (role_or got (role_by (kind_at s (header_row_of p)))) (role_among s ps)) x
            ≡ good_by (λ ps. role_or got (role_among s ps)) (part_before (header_row_of p) x)
        by k (good ps) = ap good (more_found got (role_by (kind_at s (header_row_of p))) (role_among s ps) ∙ ap (λ (y : Kind). role_or got (role_or (role_by y) (role_among s ps))) k)
        by k (bad q) = refl

-- ---- records
-- a span that was given begins in the file
pub span_starts : (n a z : ℕ) {p : Lookup.FileSpan} → good p ≡ span_in n a z → p.start ≤ n
span_starts n a z h = let (f, g) = span_good n a z h in let (l, m) = bounds a z n f in rw g (omega (arith, l, m))

module _ (s : List ℕ) (w : Row) {p : Lookup.FileSpan} (given : good p ≡ span_in (length s) w.arg_start w.arg_end) where
  -- the role of a simple record: "a simple record gives no factor there"
  pub role_simple : eqb w.complex 1 ≡ false → good None ≡ onward role_of (seen_record_of s w)
  role_simple e = let (f, g) = span_good (length s) w.arg_start w.arg_end given in rw (f, e) refl

  -- a complex record's role, by its parts
  pub role_parts : {x : Told (Option unit.Role)} → eqb w.complex 1 ≡ true → x ≡ good_by (role_among s) (parts_of s p.start p.end) → x ≡ onward role_of (seen_record_of s w)
  role_parts e h = let (f, g) = span_good (length s) w.arg_start w.arg_end given in rw (f, e) ((rw g at h) ∙ go (parts_of s w.arg_start w.arg_end))
    where
      go : (x : Told (List HeaderRow)) → good_by (role_among s) x ≡ good_by first_role (good_by (map (unit_part_of s)) x)
      go (good ps) = refl
      go (bad q) = refl

-- ---- contexts
module _ (s : List ℕ) where
  -- whether a record is a context, by its arguments
  pub context_is : (x : Told SeenRecord) {y : Told (Option Span)} → y ≡ onward (self_or GeometricRepresentationContext) x → good_by (reads_integer s) y ≡ onward (is_context s) x
  unfolding is_context
  context_is (good t) h = ap (good_by (reads_integer s)) h
  context_is (bad q) h = ap (good_by (reads_integer s)) h

  -- whether a record is a context, by whether its first parameter reads
  pub whole_reads : (a z : ℕ) (o : State) → o ≡ record { place = a; end = z } → (r : Result ℤ Fault) (t : State) (b : Bool) → told_read r t ≡ Scalars.next_of whole_of s o.place o.end → b ≡ is_ok r → good b ≡ good_by (reads_integer s) (good (Some (span a z)))
  whole_reads a z o e r t b h k = ap good (k ∙ same r) ∙ ap (λ (y : Read ℤ). good (is_read y.answer)) h ∙ ap (λ (v : State). good (is_read (Scalars.next_of whole_of s v.place v.end).answer)) e
    where
      same : (r : Result ℤ Fault) → is_ok r ≡ is_read (told_read r t).answer
      same (Ok z) = refl
      same (Err f) = refl

-- ---- listed units
module _ (s : List ℕ) (find : ℕ → Told (Option SeenRecord)) (u : Units) where
  -- a listed unit whose id no record has changes nothing
  pub unit_missing : (i : ℕ) → find i ≡ good None → good u ≡ unit_by s find u i
  unfolding unit_by
  unit_missing i h = rw h refl

  -- a listed unit by the record that has its id
  pub unit_row : (i : ℕ) (t : Told SeenRecord) {x : Told Units} → find i ≡ good_by Some t → x ≡ onward (unit_of s find u) t → x ≡ unit_by s find u i
  unfolding unit_by
  unit_row i (good t) h e = rw h e
  unit_row i (bad r) h e = rw h e

  -- a listed unit with a fault in its parts is refused
  pub role_refused : (t : Told SeenRecord) {q : Refusal} → bad q ≡ onward role_of t → bad q ≡ onward (unit_of s find u) t
  role_refused (good t) h = rw (← h) refl
  role_refused (bad r) h = same_bad h

  -- a listed unit that has none of the roles changes nothing
  pub role_none : (t : Told SeenRecord) → good None ≡ onward role_of t → good u ≡ onward (unit_of s find u) t
  role_none (good t) h = rw (← h) refl
  role_none (bad r) h = clash (cc)

  -- a listed unit of solid angle changes nothing
  pub role_solid : (t : Told SeenRecord) → good (Some solid_role) ≡ onward role_of t → good u ≡ onward (unit_of s find u) t
  role_solid (good t) h = rw (← h) refl
  role_solid (bad r) h = clash (cc)

  -- a listed unit of length sets the length by its factor
  pub role_length : (t : Told SeenRecord) {x : Told Units} {y : Told (Option ℕ)} → good (Some length_role) ≡ onward role_of t → x ≡ good_by (with_length u) y → y ≡ onward (length_of s find 16) t → x ≡ onward (unit_of s find u) t
  role_length (good t) h e k = rw (← h) (e ∙ ap (good_by (with_length u)) k)
  role_length (bad r) h e k = clash (cc)

  -- a listed unit of angle sets the angle by its factor
  pub role_angle : (t : Told SeenRecord) {x : Told Units} {y : Told (Option ℕ)} → good (Some angle_role) ≡ onward role_of t → x ≡ good_by (with_angle u) y → y ≡ onward (angle_of s find) t → x ≡ onward (unit_of s find u) t
  role_angle (good t) h e k = rw (← h) (e ∙ ap (good_by (with_angle u)) k)
  role_angle (bad r) h e k = clash (cc)

  -- a listed unit that is refused refuses the list
  pub units_bad : (i : ℕ) (l : List ℕ) {q : Refusal} → bad q ≡ unit_by s find u i → bad q ≡ units_by s find u (i ∷ l)
  unfolding units_by
  units_bad i l h = rw (← h) refl

  -- after a listed unit that is not refused the rest of the list is gone through
  pub units_more : (i : ℕ) {v : Units} → good v ≡ unit_by s find u i → (l : List ℕ) → units_by s find v l ≡ units_by s find u (i ∷ l)
  unfolding units_by
  units_more i h l = rw (← h) refl

  -- the values after the last listed unit are the list's
  pub units_last : (i : ℕ) {v : Units} → good v ≡ unit_by s find u i → good v ≡ units_by s find u (i ∷ [])
  unfolding units_by
  units_last i h = rw (← h) refl

-- ---- listed uncertainties
module _ (s : List ℕ) (find : ℕ → Told (Option SeenRecord)) where
  -- a listed uncertainty whose id no record has is none
  pub uncertain_missing : (i : ℕ) → find i ≡ good None → good None ≡ uncertainty_by s find i
  unfolding uncertainty_by
  uncertain_missing i h = rw h refl

  -- a listed uncertainty by the record that has its id
  pub uncertain_row : (i : ℕ) (t : Told SeenRecord) {x : Told (Option ℕ)} → find i ≡ good_by Some t → x ≡ onward (uncertainty_of s) t → x ≡ uncertainty_by s find i
  unfolding uncertainty_by
  uncertain_row i (good t) h e = rw h e
  uncertain_row i (bad r) h e = rw h e

  module _ (w : Row) {p : Lookup.FileSpan} (given : good p ≡ span_in (length s) w.arg_start w.arg_end) where
    -- a listed uncertainty whose record is of another kind is none
    pub uncertain_other : same_kind (kind_in s w) UncertaintyMeasureWithUnit ≡ false → good None ≡ onward (uncertainty_of s) (seen_record_of s w)
    uncertain_other e = let (f, g) = span_good (length s) w.arg_start w.arg_end given in rw (f, e) refl

    -- a listed uncertainty whose record is of the kind, by its measure
    pub uncertain_own : same_kind (kind_in s w) UncertaintyMeasureWithUnit ≡ true → number_or_none (Scalars.next_of measure_of s p.start p.end).answer ≡ onward (uncertainty_of s) (seen_record_of s w)
    uncertain_own e = let (f, g) = span_good (length s) w.arg_start w.arg_end given in rw (f, g, e) (own (Scalars.next_of measure_of s w.arg_start w.arg_end).answer)
      where
        own : (x : Told ℕ) → number_or_none x ≡ uncertain_by x
        own (good v) = refl
        own (bad q) = refl

  -- the tolerance is a listed uncertainty: "the first [..] that reads"
  pub tolerance_is : (i : ℕ) (l : List ℕ) {v : ℕ} → good (Some v) ≡ uncertainty_by s find i → good v ≡ tolerance_by s find (i ∷ l)
  unfolding tolerance_by
  tolerance_is i l h = rw (← h) refl

  -- a listed uncertainty that is refused refuses the tolerance
  pub tolerance_bad : (i : ℕ) (l : List ℕ) {q : Refusal} → bad q ≡ uncertainty_by s find i → bad q ≡ tolerance_by s find (i ∷ l)
  unfolding tolerance_by
  tolerance_bad i l h = rw (← h) refl

  -- after a listed uncertainty that is none the next one is asked
  pub tolerance_more : (i : ℕ) → good None ≡ uncertainty_by s find i → (l : List ℕ) → tolerance_by s find l ≡ tolerance_by s find (i ∷ l)
  unfolding tolerance_by
  tolerance_more i h l = rw (← h) refl

  -- where the last listed uncertainty is none: "else 1e-3"
  pub tolerance_last : (i : ℕ) → good None ≡ uncertainty_by s find i → good (near 1 1000) ≡ tolerance_by s find (i ∷ [])
  unfolding tolerance_by
  tolerance_last i h = rw (← h) refl

-- ---- lists of references
-- a list that has both parentheses, and its inside
body_full : (t b : List ℕ) → body_of t ≡ inside b → (2 ≤ length t) × (b ≡ take (length t - 1 - 1) (drop 1 t))
unfolding body_of
body_full [] b e = clash (cc)
body_full (c ∷ []) b e = go (eqb c 40) e
  where
    go : (k : Bool) → pick (k && eqb 0 41) (inside (take (0 - 1) [])) bare ≡ inside b → (2 ≤ 1) × (b ≡ take (1 - 1 - 1) [])
    go true f = clash (cc)
    go false f = clash (cc)
body_full (c ∷ (d ∷ r)) b e = go (eqb c 40 && eqb (get_or (d ∷ r) (length (d ∷ r) - 1) 0) 41) e
  where
    go : (k : Bool) → pick k (inside (take (length (d ∷ r) - 1) (d ∷ r))) bare ≡ inside b → (2 ≤ length (c ∷ (d ∷ r))) × (b ≡ take (length (c ∷ (d ∷ r)) - 1 - 1) (d ∷ r))
    go true f =
        let g : take (length (d ∷ r) - 1) (d ∷ r) ≡ b = cc in
        let m : length (d ∷ r) - 1 ≡ length (c ∷ (d ∷ r)) - 1 - 1 = omega arith in
        (omega arith, sym g ∙ ap (λ (k : ℕ). take k (d ∷ r)) m)
    go false f = clash (cc)

-- the items of a list that is not empty are those of its inside
full_list : {A : Type 0} (g : List ℕ → Fate A) (t : List ℕ) (vs : List A) → list_by g t ≡ fine vs → (length vs ≡ 0 → ⊥)
    → (2 ≤ length t) × (items_from (suc (length (take (length t - 1 - 1) (drop 1 t)))) g 0 (take (length t - 1 - 1) (drop 1 t)) ≡ fine vs)
unfolding list_by items_by
full_list {A} g t vs h k = go (body_of t) refl h
  where
    unshift : (x : Fate (List A)) → shifted 1 x ≡ fine vs → x ≡ fine vs
    unshift (fine ws) f = f
    unshift (faulty n o) f = clash (cc)

    by : (b : List ℕ) (j : Bool) → shifted 1 (pick j (fine []) (items_from (suc (length b)) g 0 b)) ≡ fine vs → items_from (suc (length b)) g 0 b ≡ fine vs
    by b true f = let e : [] ≡ vs = cc in absurd (k (ap length (sym e)))
    by b false f = unshift (items_from (suc (length b)) g 0 b) f

    go : (x : Body) → body_of t ≡ x → listed g x ≡ fine vs → (2 ≤ length t) × (items_from (suc (length (take (length t - 1 - 1) (drop 1 t)))) g 0 (take (length t - 1 - 1) (drop 1 t)) ≡ fine vs)
    go bare e f = clash (cc)
    go (inside b) e f = let (n, m) = body_full t b e in (n, subst (λ (y : List ℕ). items_from (suc (length y)) g 0 y ≡ fine vs) m (by b (is_blank b) f))

-- the first m + 1 bytes of a list, without its first one, are the first m bytes of the rest
one_in : (m : ℕ) (l : List ℕ) → 1 ≤ length l → drop 1 (take (suc m) l) ≡ take m (drop 1 l)
one_in m [] h = absurd (omega arith)
one_in m (c ∷ l) h = refl

-- the inside of a text of the file is a part of the file
inside_cut : (s : List ℕ) (x y : ℕ) → x ≤ y → y ≤ length s → 2 ≤ y - x → take (y - x - 1 - 1) (drop 1 (bytes_between s x y)) ≡ bytes_between s (x + 1) (y - 1)
inside_cut s x y h k l =
    let m : y - x ≡ suc (y - x - 1) = omega arith in
    let n : 1 ≤ length (drop x s) = simp length-drop (omega arith) in
    let d : drop 1 (bytes_between s x y) ≡ take (y - x - 1) (drop (x + 1) s) = ap (λ (j : ℕ). drop 1 (take j (drop x s))) m ∙ one_in (y - x - 1) (drop x s) n ∙ ap (take (y - x - 1)) (drop-drop 1 x s) in
    let e : y - x - 1 - 1 ≡ y - 1 - (x + 1) = omega arith in
    ap (take (y - x - 1 - 1)) d ∙ take-take (y - x - 1 - 1) (y - x - 1) (drop (x + 1) s) (omega arith) ∙ ap (λ (j : ℕ). take j (drop (x + 1) s)) e

-- how long a part of the file is
pub bytes_between_length : (s : List ℕ) (x y : ℕ) → x ≤ y → y ≤ length s → length (bytes_between s x y) ≡ y - x
bytes_between_length s x y h k = length-take-le (y - x) (drop x s) (simp length-drop (omega arith))

-- where the count of a list is a refusal, the list is refused so
count_bad : {A : Type 0} (x : Fate (List A)) {n o : ℕ} → faulty n o ≡ fated length x → x ≡ faulty n o
count_bad (fine vs) h = clash (cc)
count_bad (faulty m p) {n} {o} h = let a : n ≡ m = cc in let b : o ≡ p = cc in ap (λ (j : ℕ). faulty j p) (sym a) ∙ ap (λ (j : ℕ). faulty n j) (sym b)

-- where a list's items were counted, it reads, and they are so many
count_fine : {A : Type 0} (x : Fate (List A)) {n : ℕ} → fine n ≡ fated length x → (vs : List A) × (x ≡ fine vs) × (n ≡ length vs)
count_fine (fine vs) h = (vs, refl, cc)
count_fine (faulty m p) h = clash (cc)

-- the code's reader of a reference in a list
abbrev pub refer : List ℕ → Fate ℕ
refer u = as_fate (reference_of u)

-- without arguments there are no references
pub refs_none : (s : List ℕ) → refs_in s None ≡ good []
unfolding refs_in
refs_none s = refl

module _ (s : List ℕ) (a z : ℕ) where
  -- where no parameter can be cut the references are refused
  pub refs_uncut : {q : Refusal} {p e : ℕ} → reading (bad q) p e ≡ param_of s a z → refs_in s (Some (span a z)) ≡ bad q
  unfolding refs_in next_by
  refs_uncut h = rw (← h) refl

  module _ (x y p e : ℕ) (given : reading (good (span x y)) p e ≡ param_of s a z) where
    -- the references are those of the parameter's text
    refs_cut : refs_in s (Some (span a z)) ≡ roomed (λ vs. true) x (list_by refer (bytes_between s x y))
    unfolding refs_in next_by
    refs_cut = rw (← given) refl

    -- a list of references that does not read is refused
    pub refs_bad : {n o : ℕ} → faulty n o ≡ fated length (list_by (λ u. mute (refer u)) (bytes_between s x y)) → refs_in s (Some (span a z)) ≡ bad (refusal n 0 (x + o))
    refs_bad h = refs_cut ∙ ap (roomed (λ vs. true) x) (count_bad (list_by refer (bytes_between s x y)) (h ∙ count_mute refer (bytes_between s x y)))

    -- a list of references without items gives none
    pub refs_empty : {n : ℕ} → fine n ≡ fated length (list_by (λ u. mute (refer u)) (bytes_between s x y)) → n ≡ 0 → refs_in s (Some (span a z)) ≡ good []
    refs_empty {n} h k =
        let (vs, f, l) = count_fine (list_by refer (bytes_between s x y)) (h ∙ count_mute refer (bytes_between s x y)) in
        refs_cut ∙ ap (roomed (λ vs. true) x) (f ∙ ap fine (nothing vs (sym l ∙ k)))
      where
        nothing : (vs : List ℕ) → length vs ≡ 0 → vs ≡ []
        nothing [] j = refl
        nothing (v ∷ vs) j = absurd (omega (arith, j))

    -- a list of references with items gives those of its inside
    pub refs_full : {n : ℕ} → x ≤ y → y ≤ length s → fine n ≡ fated length (list_by (λ u. mute (refer u)) (bytes_between s x y)) → (n ≡ 0 → ⊥)
        → (2 ≤ y - x) × (ReadsAll (bytes_between s (x + 1) (y - 1)) × (refs_in s (Some (span a z)) ≡ good (ids_of (bytes_between s (x + 1) (y - 1)))))
    refs_full {n} o r h k =
        let (vs, f, l) = count_fine (list_by refer (bytes_between s x y)) (h ∙ count_mute refer (bytes_between s x y)) in
        let (m, q) = full_list refer (bytes_between s x y) vs f (λ j. k (l ∙ j)) in
        let w = bytes_between_length s x y o r in
        let two : 2 ≤ y - x = omega (arith, w, m) in
        let c : take (length (bytes_between s x y) - 1 - 1) (drop 1 (bytes_between s x y)) ≡ bytes_between s (x + 1) (y - 1) = ap (λ (j : ℕ). take (j - 1 - 1) (drop 1 (bytes_between s x y))) w ∙ inside_cut s x y o r two in
        let i : items_from (suc (length (bytes_between s (x + 1) (y - 1)))) refer 0 (bytes_between s (x + 1) (y - 1)) ≡ fine vs = subst (λ (b : List ℕ). items_from (suc (length b)) refer 0 b ≡ fine vs) c q in
        let v : vs ≡ ids_of (bytes_between s (x + 1) (y - 1)) = sym (ap values_of i) in
        (two, (i ∙ ap fine v, refs_cut ∙ ap (roomed (λ vs. true) x) f ∙ ap good v))

-- ---- the references of a list's inside, one after another
-- where the reading of references stands at the place i: so many were passed, and what is left of them gives the answer
pub record RefsReading {A : Type 0} (b : List ℕ) (left : List ℕ → Told A) (all : Told A) (i : ℕ) : Type 0 where
  pub passed : ℕ
  pub few : passed ≤ i
  pub within : i ≤ length b
  pub rest : items_from (suc (length b) - passed) refer i (drop i b) ≡ fine (drop passed (ids_of b))
  pub gives : left (drop passed (ids_of b)) ≡ all

-- before the first reference is read none is passed
pub refs_reading_starts : {A : Type 0} (b : List ℕ) (left : List ℕ → Told A) (all : Told A) → ReadsAll b → left (ids_of b) ≡ all → RefsReading b left all 0
refs_reading_starts b left all h e = let m : suc (length b) - 0 ≡ suc (length b) = omega arith in record {
  passed = 0;
  few = omega arith;
  within = omega arith;
  rest = ap (λ (n : ℕ). items_from n refer 0 b) m ∙ h;
  gives = e;
}

module _ {A : Type 0} (b : List ℕ) (left : List ℕ → Told A) (all : Told A) (i : ℕ) (f : RefsReading b left all i) (r : Item) (found : ItemAt b (min i (length b)) r) where
  -- the item that was found is the one from i on
  here : ItemAt b i r
  here = item_in b i r f.within found

  -- at most as many references were passed as there are bytes
  few_enough : f.passed ≤ length b
  few_enough = omega (arith, f.few, f.within)

  -- no item of a list whose references all read is bad
  pub refs_reading_bad : (k o : ℕ) → faulty k o ≡ refer (take (r.stop - r.start) (drop r.start b)) → ⊥
  refs_reading_bad k o e = fill_bad refer b i f.passed r here few_enough (ids_of b) f.rest k o e

  module _ (v : ℕ) (e : fine v ≡ refer (take (r.stop - r.start) (drop r.start b))) where
    -- a reference stands at the place, and those after it give the answer with it
    pub refs_reading_here : (l : List ℕ) × (left (v ∷ l) ≡ all)
    refs_reading_here = let (l, k) = fill_head refer b i f.passed r here few_enough (ids_of b) f.rest v e in (l, ap left (sym k) ∙ f.gives)

    -- a reference that stands last gives the answer alone
    pub refs_reading_last : r.bound ≡ length b → left (v ∷ []) ≡ all
    refs_reading_last k = ap left (sym (fill_last refer b i f.passed r here few_enough (ids_of b) f.rest v e k)) ∙ f.gives

    -- after a reference that is not the last the reading goes on behind its comma
    pub refs_reading_goes : (left' : List ℕ → Told A) → ((l : List ℕ) → left' l ≡ left (v ∷ l)) → r.bound < length b → RefsReading b left' all (r.bound + 1)
    refs_reading_goes left' g k =
        let (q, s) = fill_more refer b i f.passed r here few_enough (ids_of b) f.rest v e k in
        record {
          passed = f.passed + 1;
          few = omega (arith, f.few, here.above);
          within = omega arith;
          rest = s;
          gives = g (drop (f.passed + 1) (ids_of b)) ∙ ap left (sym q) ∙ f.gives;
        }

-- where the code finds no references there are none
pub refs_nothing : (s : List ℕ) (x : Told (List ℕ)) (o : Option Range) → RefsTo s x (Ok o) → o ≡ None → x ≡ good []
refs_nothing s x o h e = subst (λ (p : Option Range). RefsTo s x (Ok p)) e h

-- where the code gives a list's inside the references are those in it
pub refs_inside : (s : List ℕ) (x : Told (List ℕ)) (o : Option Range) (r : Range) → RefsTo s x (Ok o) → o ≡ Some r
    → (r.start ≤ r.end) × ((r.end ≤ length s) × (ReadsAll (bytes_between s r.start r.end) × (x ≡ good (ids_of (bytes_between s r.start r.end)))))
refs_inside s x o r h e = subst (λ (p : Option Range). RefsTo s x (Ok p)) e h

-- ---- contexts, by their lists
module _ (s : List ℕ) (find : ℕ → Told (Option SeenRecord)) where
  -- where no unit is listed the units stay
  pub units_none : (u : Units) → good u ≡ units_by s find u []
  unfolding units_by
  units_none u = refl

  -- where no uncertainty is listed the tolerance is 1e-3
  pub tolerance_none : good (near 1 1000) ≡ tolerance_by s find []
  unfolding tolerance_by
  tolerance_none = refl

  -- the units that a context lists, by its arguments
  pub listed_units_is : (x : Told SeenRecord) → onward (units_by s find defaults) (onward (refs_in s) (onward (self_or GlobalUnitAssignedContext) x)) ≡ onward (listed_units s find) x
  unfolding listed_units
  listed_units_is (good t) = refl
  listed_units_is (bad q) = refl

  -- the tolerance that a context lists, by its arguments
  pub listed_tolerance_is : (x : Told SeenRecord) → onward (tolerance_by s find) (onward (refs_in s) (onward (self_or GlobalUncertaintyAssignedContext) x)) ≡ onward (listed_tolerance s find) x
  unfolding listed_tolerance
  listed_tolerance_is (good t) = refl
  listed_tolerance_is (bad q) = refl

  -- a context whose listed units are refused is refused
  pub context_refused : (x : Told SeenRecord) {q : Refusal} → bad q ≡ onward (listed_units s find) x → bad q ≡ onward (context_of s find) x
  unfolding context_of
  context_refused (good t) h = rw (← h) refl
  context_refused (bad r) h = h

  -- a context whose tolerance is refused is refused
  pub context_late : (x : Told SeenRecord) {u : Units} {q : Refusal} → good u ≡ onward (listed_units s find) x → bad q ≡ onward (listed_tolerance s find) x → bad q ≡ onward (context_of s find) x
  unfolding context_of
  context_late (good t) h e = rw (← h, ← e) refl
  context_late (bad r) h e = clash (cc)

  -- a context whose units and tolerance read has both
  pub context_both : (x : Told SeenRecord) {u : Units} {v : ℕ} → good u ≡ onward (listed_units s find) x → good v ≡ onward (listed_tolerance s find) x → good (with_tolerance u v) ≡ onward (context_of s find) x
  unfolding context_of
  context_both (good t) h e = rw (← h, ← e) refl
  context_both (bad r) h e = clash (cc)

  -- a record with a fault in its parts is refused as a context
  pub or_refused : (x : Told SeenRecord) {q : Refusal} → bad q ≡ onward (is_context s) x → bad q ≡ onward (context_or s find) x
  unfolding context_or
  or_refused (good t) h = rw (← h) refl
  or_refused (bad r) h = same_bad h

  -- a record that is no context has the default values
  pub or_other : (x : Told SeenRecord) → good false ≡ onward (is_context s) x → good defaults ≡ onward (context_or s find) x
  unfolding context_or
  or_other (good t) h = rw (← h) refl
  or_other (bad r) h = clash (cc)

  -- a record that is a context has its units
  pub or_context : (x : Told SeenRecord) {y : Told Units} → good true ≡ onward (is_context s) x → y ≡ onward (context_of s find) x → y ≡ onward (context_or s find) x
  unfolding context_or
  or_context (good t) h e = rw (← h) e
  or_context (bad r) h e = clash (cc)

  -- ---- the records in file order
  -- a record that decides gives the answer
  pub record_last : (k : Unit {0} → Told Units) (t : Told SeenRecord) (x : Told Units) → x ≡ onward (context_or s find) t → deciding x ≡ true → x ≡ onward (context_or_later s find k) t
  unfolding context_or
  record_last k (bad r) x h d = h
  record_last k (good t) x h d = go (is_context s t) (context_of s find t) h
    where
      go : (c : Told Bool) (y : Told Units) → x ≡ onward (λ c. pick c y (good defaults)) c → x ≡ onward (λ c. pick c (onward (decided_or s find k) y) (k tt)) c
      go (bad q) y e = e
      go (good false) y e = clash (cc (sym d ∙ ap deciding e))
      go (good true) (bad q) e = e
      go (good true) (good u) e = let r : u.resolved ≡ true = sym (ap deciding e) ∙ d in e ∙ ap (λ (b : Bool). pick b (good u) (k tt)) (sym r)

  -- a record that does not decide leaves it to those after it
  pub record_next : (k : Unit {0} → Told Units) (t : Told SeenRecord) (x : Told Units) → x ≡ onward (context_or s find) t → deciding x ≡ false → k tt ≡ onward (context_or_later s find k) t
  unfolding context_or
  record_next k (bad r) x h d = clash (cc (sym d ∙ ap deciding h))
  record_next k (good t) x h d = go (is_context s t) (context_of s find t) h
    where
      go : (c : Told Bool) (y : Told Units) → x ≡ onward (λ c. pick c y (good defaults)) c → k tt ≡ onward (λ c. pick c (onward (decided_or s find k) y) (k tt)) c
      go (bad q) y e = clash (cc (sym d ∙ ap deciding e))
      go (good false) y e = refl
      go (good true) (bad q) e = clash (cc (sym d ∙ ap deciding e))
      go (good true) (good u) e = let r : u.resolved ≡ false = sym (ap deciding e) ∙ d in rw r refl

  module _ (rows : List ℕ) (records : ℕ) where
    -- where the search for a deciding record stands at row k: what is left gives the answer
    pub record Resolving (k : ℕ) : Type 0 where
      pub most : k ≤ table_rows rows records
      pub gives : resolve_of s find (seen_records_from s (row_numbers rows) (table_rows rows records - k) k) ≡ resolve_of s find (seen_records_from s (row_numbers rows) (table_rows rows records) 0)

    -- before the first row is looked at, all records are left to give the answer
    pub resolve_starts : Resolving 0
    resolve_starts = let m : table_rows rows records - 0 ≡ table_rows rows records = omega arith in record {
      most = omega arith;
      gives = ap (λ (n : ℕ). resolve_of s find (seen_records_from s (row_numbers rows) n 0)) m;
    }

    -- a row of the table is given by its number
    pub row_given : (k : ℕ) {w : Row} → k < table_rows rows records → w ≡ row_numbers rows k → Some w ≡ row_in rows records k
    row_given k h e = rw (lt-ltb k (table_rows rows records) h) (ap Some e)

    -- past the table no row is given
    pub row_past : (k : ℕ) → table_rows rows records ≤ k → None ≡ row_in rows records k
    row_past k h = rw (le-ltb k (table_rows rows records) h) refl

    -- a row that was given is one of the table
    pub row_there : (k : ℕ) {w : Row} → Some w ≡ row_in rows records k → (k < table_rows rows records) × (row_numbers rows k ≡ w)
    row_there k {w} h = go (ltb k (table_rows rows records)) refl h
      where
        go : (b : Bool) → ltb k (table_rows rows records) ≡ b → Some w ≡ pick b (Some (row_numbers rows k)) None → (k < table_rows rows records) × (row_numbers rows k ≡ w)
        go true e f = (ltb-true k (table_rows rows records) e, cc)
        go false e f = clash (cc)

    module _ (k : ℕ) (f : Resolving k) where
      -- where no row is left, the default values are the answer
      pub resolve_over : None ≡ row_in rows records k → good defaults ≡ resolve_of s find (seen_records_from s (row_numbers rows) (table_rows rows records) 0)
      unfolding resolve_of seen_records_from
      resolve_over h = go (table_rows rows records - k) refl f.gives
        where
          go : (n : ℕ) → table_rows rows records - k ≡ n → resolve_of s find (seen_records_from s (row_numbers rows) n k) ≡ resolve_of s find (seen_records_from s (row_numbers rows) (table_rows rows records) 0) → good defaults ≡ resolve_of s find (seen_records_from s (row_numbers rows) (table_rows rows records) 0)
          go zero e g = g
          go (suc n) e g = let l = lt-ltb k (table_rows rows records) (omega (arith, e)) in clash (cc (rw l at h))

      module _ {w : Row} (row : Some w ≡ row_in rows records k) where
        -- the answer is the one by the record of row k and those after it
        step : onward (context_or_later s find (λ u. resolve_of s find (seen_records_from s (row_numbers rows) (table_rows rows records - (k + 1)) (k + 1)))) (seen_record_of s w) ≡ resolve_of s find (seen_records_from s (row_numbers rows) (table_rows rows records) 0)
        unfolding resolve_of seen_records_from
        step =
            let (l, e) = row_there k row in
            let m : table_rows rows records - k ≡ suc (table_rows rows records - (k + 1)) = omega (arith, l) in
            let n : k + 1 ≡ suc k = add-one k in
            ap (λ (j : ℕ). onward (context_or_later s find (λ u. resolve_of s find (seen_records_from s (row_numbers rows) (table_rows rows records - (k + 1)) j))) (seen_record_of s w)) n
            ∙ ap (λ (y : Row). onward (context_or_later s find (λ u. resolve_of s find (seen_records_from s (row_numbers rows) (table_rows rows records - (k + 1)) (suc k)))) (seen_record_of s y)) (sym e)
            ∙ ap (λ (j : ℕ). resolve_of s find (seen_records_from s (row_numbers rows) j k)) (sym m) ∙ f.gives

        -- where the record of row k decides, it gives the answer
        pub resolve_last : {x : Told Units} → x ≡ onward (context_or s find) (seen_record_of s w) → deciding x ≡ true → x ≡ resolve_of s find (seen_records_from s (row_numbers rows) (table_rows rows records) 0)
        resolve_last {x} h d = record_last (λ u. resolve_of s find (seen_records_from s (row_numbers rows) (table_rows rows records - (k + 1)) (k + 1))) (seen_record_of s w) x h d ∙ step

        -- where the record of row k does not decide, the search goes on at the next row
        pub resolve_goes : {x : Told Units} → x ≡ onward (context_or s find) (seen_record_of s w) → deciding x ≡ false → Resolving (k + 1)
        resolve_goes {x} h d = let (l, e) = row_there k row in record {
          most = omega (arith, l);
          gives = record_next (λ u. resolve_of s find (seen_records_from s (row_numbers rows) (table_rows rows records - (k + 1)) (k + 1))) (seen_record_of s w) x h d ∙ step;
        }
