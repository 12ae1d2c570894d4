-- "The seventeenth conversion unit on one chain is 15": 15 is given just where sixteen steps lead from a length unit to one more
-- conversion unit, at the start of that unit's arguments. Nothing else that refuses a factor has this number, where the lookup and the
-- records' parts do not have it; those of a file do not. Assumes nothing.
use Prim.Native.Nat.{ℕ, zero, suc, ◌+◌, ◌-◌}
use Rattle.std.specs.Prelude.{◌≡◌, refl, Bool, true, false, List, [], map, eqb, length, take, drop, Option, Some, None}
use Rattle.std.proofs.Math.Path.{sym, ap, subst}
use Rattle.std.proofs.Common.{◌∙◌, inl, inr, arith}
use Rattle.common.specs.Pick.{pick}
use Rattle.common.specs.Compare.{clash}
use Rattle.error.specs.Refusal.{Refusal, refusal, Told, good, bad}
use Rattle.statement.specs.Rows.{Row, HeaderRow}
use Rattle.kinds.specs.declared.Kind.{Kind}
use Rattle.kinds.specs.declared.Kind.TheVariants.{SiUnit, LengthMeasureWithUnit}
use Rattle.kinds.specs.declared.Kind.TheVariants as Kinds
use Rattle.reals.specs.Scalar.{reference_of}
use Rattle.reals.specs.Answer.{Answer}
use Rattle.reals.specs.Form.{ReferenceForm}
use Rattle.reals.specs.WholeRight.{reference_is}
use Rattle.params.specs.Reader.{param_of}
use Rattle.params.specs.Skips.{skip_of}
use Rattle.params.specs.Answer.{Read, Span, onward}
use Rattle.params.specs.Rules.{NextParamForm}
use Rattle.params.specs.RulesRight.{param_next_is}
use Rattle.scalars.specs.Answer.{next_of, answered, scalar_at}
use Rattle.parts.specs.Part.{parts_of}
use Rattle.parts.specs.Places.{FaultIn, AnswerIn, AllIn, parts_placed}
use Rattle.index.specs.Search.{searched}
use Rattle.index.specs.declared.Ids.{Ids}
use Rattle.lookup.specs.Lookup.{span_fine, row_found, row_for}
use Rattle.factors.specs.SeenRecords.{good_by, same_kind, UnitPart, unit_part_of, SeenRecord, unit_parts_of, seen_record_at, seen_record_of, seen_record_found, find_of, first_unit_part, self_or}
use Rattle.factors.specs.Factor.{length_of}
use Rattle.factors.specs.Unit.{measure_ref, scaled_by, measure_run}
use Rattle.factors.specs.Rules.{Based, chain_ends, base, MeasureBaseForm, LengthForm, Follows}
use Rattle.factors.specs.RulesRight.{length_form_only, length_form_is}

-- an answer that is not refused with 15
abbrev pub Shallow : {A : Type 0} → Told A → Type 0
Shallow (good a) = Unit {0}
Shallow (bad q) = q.number ≡ 15 → ⊥

-- a record that was looked up, where neither the lookup nor a fault in the record's parts has the number 15
abbrev pub FoundShallow : Told (Option SeenRecord) → Type 0
FoundShallow (good None) = Unit {0}
FoundShallow (good (Some t)) = Shallow t.parts
FoundShallow (bad q) = q.number ≡ 15 → ⊥

-- ---- what refuses with another number
-- the arguments of a record, or of its first part of a kind, are not refused with 15, where the record's parts are not
self_shallow : (k : Kind) (t : SeenRecord) → Shallow t.parts → Shallow (self_or k t)
self_shallow k t h = go (same_kind t.kind k) t.parts h
  where
    go : (b : Bool) (ps : Told (List UnitPart)) → Shallow ps → Shallow (pick b (good (Some t.run)) (good_by (first_unit_part k) ps))
    go true ps h = tt
    go false (good ps) h = tt
    go false (bad q) h = h

-- the arguments of a measure are not refused with 15, where its parts are not
run_shallow : (t : SeenRecord) → Shallow t.parts → Shallow (measure_run t)
run_shallow t h = go (same_kind t.kind Kinds.Complex) t.parts h
  where
    go : (b : Bool) (ps : Told (List UnitPart)) → Shallow ps → Shallow (pick b (good_by (first_unit_part LengthMeasureWithUnit) ps) (good (Some t.run)))
    go true (good ps) h = tt
    go true (bad q) h = h
    go false ps h = tt

-- a parameter is refused with 9, 10 or 11, and not with 15
param_shallow : (s : List ℕ) (p e : ℕ) → Shallow (param_of s p e).answer
param_shallow s p e = go (param_of s p e) (param_next_is s p e)
  where
    go : (x : Read Span) → NextParamForm s p e x → Shallow x.answer
    go _ (NextParamForm.outside h) = λ z. absurd (omega (arith, z))
    go _ (NextParamForm.none h k) = λ z. absurd (omega (arith, z))
    go _ (NextParamForm.comma h a b c d f) = tt
    go _ (NextParamForm.last h a b c d f) = tt
    go _ (NextParamForm.unclosed h a b c d) = λ z. absurd (omega (arith, z))

-- a reference is refused with 12, and not with 15
reference_shallow : (s : List ℕ) (a : Span) → Shallow (scalar_at reference_of s a)
reference_shallow s a = go (reference_of (take (a.stop - a.start) (drop a.start s))) (reference_is (take (a.stop - a.start) (drop a.start s)))
  where
    go : {t : List ℕ} (x : Answer ℕ) → ReferenceForm t x → Shallow (answered a.start x)
    go _ (ReferenceForm.reference ds i) = tt
    go _ (ReferenceForm.other h) = λ z. absurd (omega (arith, z))

-- an answer that is read on is not refused with 15, where neither of the two is
on_shallow : {A B : Type 0} (f : A → Told B) (x : Told A) → Shallow x → ((a : A) → Shallow (f a)) → Shallow (onward f x)
on_shallow f (good a) h k = k a
on_shallow f (bad q) h k = h

-- the measure's reference is not refused with 15
ref_shallow : (s : List ℕ) (r : Span) → Shallow (measure_ref s r)
unfolding measure_ref next_of skip_of
ref_shallow s r =
    on_shallow (λ u. (next_of reference_of s (skip_of s r.start r.stop).place r.stop).answer) (skip_of s r.start r.stop).answer
    (on_shallow (λ a. good tt) (param_of s r.start r.stop).answer (param_shallow s r.start r.stop) (λ a. tt))
    (λ u. on_shallow (scalar_at reference_of s) (param_of s (skip_of s r.start r.stop).place r.stop).answer (param_shallow s (skip_of s r.start r.stop).place r.stop) (reference_shallow s))

-- where the factor times a measure's number is refused, the factor is
scaled_bad : (v : ℕ) (a : Told (Option ℕ)) (q : Refusal) → scaled_by v a ≡ bad q → a ≡ bad q
scaled_bad v (good o) q e = clash (cc)
scaled_bad v (bad r) q e = e

-- what a measure leads to is not refused with 15, nor are its base unit's parts
BasedShallow : Based → Type 0
BasedShallow (chain_ends a) = Shallow a
BasedShallow (base v u) = Shallow u.parts

module _ (s : List ℕ) (find : ℕ → Told (Option SeenRecord)) where
  -- ---- sixteen steps
  -- the seventeenth conversion unit on a chain refuses, whatever comes after it
  follows_deep : (n k : ℕ) (t : SeenRecord) (p : ℕ) → k + n ≡ 16 → Follows s find n t p → LengthForm s find k t (bad (refusal 15 0 p))
  follows_deep zero k t p h f = subst (λ (x : SeenRecord). LengthForm s find k x (bad (refusal 15 0 p))) (sym f.links) (subst (λ (j : ℕ). LengthForm s find k f.unit (bad (refusal 15 0 j))) (sym f.place) (LengthForm.deep (omega arith) f.converts))
  follows_deep (suc n) k t p h f =
      let (u, (st, l)) = f.links in
      LengthForm.conversion {k = k} {v = st.number} {a = bad (refusal 15 0 p)} (omega arith) st.converts st.names st.leads (follows_deep n (suc k) u p (omega arith) (record { unit = f.unit; run = f.run; links = l; converts = f.converts; place = f.place }))

  -- "The seventeenth conversion unit on one chain is 15, before its name", at "the unit record's argument start"
  pub too_deep_is : {t : SeenRecord} {p : ℕ} → Follows s find 16 t p → length_of s find 16 t ≡ bad (refusal 15 0 p)
  too_deep_is {t} {p} f = sym (length_form_only s find (follows_deep 16 0 t p refl f))

  module _ (finds : (i : ℕ) → FoundShallow (find i)) where
    -- what a measure of the file leads to is not refused with 15, nor are its base unit's parts
    measure_shallow : {i : ℕ} {b : Based} → MeasureBaseForm s find i b → BasedShallow b
    unfolding BasedShallow
    measure_shallow (MeasureBaseForm.leads {b} h n e u) = subst FoundShallow u (finds b)
    measure_shallow (MeasureBaseForm.missing f) = tt
    measure_shallow (MeasureBaseForm.lacking f h) = tt
    measure_shallow (MeasureBaseForm.unreadable h n d) = tt
    measure_shallow (MeasureBaseForm.unbased h n b) = tt
    measure_shallow (MeasureBaseForm.baseless h n b u) = tt
    measure_shallow (MeasureBaseForm.classless h n d) = λ z. absurd (omega (arith, d, z))
    measure_shallow {i} (MeasureBaseForm.faulty {m} f h) = subst Shallow h (run_shallow m (subst FoundShallow f (finds i)))
    measure_shallow {i} (MeasureBaseForm.lost f) = subst FoundShallow f (finds i)
    measure_shallow (MeasureBaseForm.base_lost {b} h n e u) = subst FoundShallow u (finds b)

    -- where 15 is given, the steps that are left lead to one more conversion unit
    deep_follows : {k : ℕ} {t : SeenRecord} {a : Told (Option ℕ)} → LengthForm s find k t a → Shallow t.parts → (q : Refusal) → a ≡ bad q → q.number ≡ 15 → (n : ℕ) → k + n ≡ 16
        → (q ≡ refusal 15 0 q.place) × Follows s find n t q.place
    unfolding BasedShallow
    deep_follows (LengthForm.si e) h q c d n l = clash (cc)
    deep_follows (LengthForm.neither e f) h q c d n l = clash (cc)
    deep_follows (LengthForm.conversion m e f g x) h q c d zero l = absurd (omega arith)
    deep_follows (LengthForm.conversion {i} {v} {u} {r} {a} m e f g x) h q c d (suc n) l =
        let (w, y) = deep_follows x (measure_shallow g) q (scaled_bad v a q c) d n (omega arith) in
        (w, record { unit = y.unit; run = y.run; links = (u, (record { run = r; converts = e; measure = i; names = f; number = v; leads = g }, y.links)); converts = y.converts; place = y.place })
    deep_follows (LengthForm.stops m e f g) h q c d n l = absurd (subst Shallow c (measure_shallow g) d)
    deep_follows {t = t} (LengthForm.deep {r} m e) h q c d zero l =
        let w : refusal 15 0 t.run.start ≡ q = cc in
        let z : t.run.start ≡ q.place = ap (λ (x : Refusal). x.place) w in
        (sym w ∙ ap (refusal 15 0) z, record { unit = t; run = r; links = refl; converts = e; place = sym z })
    deep_follows (LengthForm.deep m e) h q c d (suc n) l = absurd (omega arith)
    deep_follows (LengthForm.unnamed {r} {q = o} m e f) h q c d n l = absurd (subst Shallow c (subst (λ (x : Told ℕ). Shallow x) f (ref_shallow s r)) d)
    deep_follows {t = t} (LengthForm.faulty e) h q c d n l = absurd (subst Shallow c (subst (λ (x : Told (Option Span)). Shallow x) e (self_shallow SiUnit t h)) d)

    -- a length unit is refused with 15 only where sixteen steps lead to one more conversion unit
    pub too_deep_only : {t : SeenRecord} {q : Refusal} → Shallow t.parts → length_of s find 16 t ≡ bad q → q.number ≡ 15 → (q ≡ refusal 15 0 q.place) × Follows s find 16 t q.place
    too_deep_only {t} {q} h e d = deep_follows (length_form_is s find t) h q e d 16 refl

-- ---- the records of a file
-- a fault in parts is 3, 4, 6 or 9, and not 15
fault_shallow : (n : ℕ) (q : Refusal) → FaultIn n q → q.number ≡ 15 → ⊥
fault_shallow n q (inl h, l) z = absurd (omega (arith, h, z))
fault_shallow n q (inr (inl h), l) z = absurd (omega (arith, h, z))
fault_shallow n q (inr (inr (inl h)), l) z = absurd (omega (arith, h, z))
fault_shallow n q (inr (inr (inr h)), l) z = absurd (omega (arith, h, z))

-- the parts of a row are not refused with 15
pieces_shallow : (s : List ℕ) (w : Row) → Shallow (unit_parts_of s w)
pieces_shallow s w = go (eqb w.complex 1) (parts_of s w.arg_start w.arg_end) (parts_placed s w.arg_start w.arg_end)
  where
    go : (b : Bool) (x : Told (List HeaderRow)) → AnswerIn (length s) (AllIn (length s) w.arg_start) x → Shallow (pick b (good_by (map (unit_part_of s)) x) (good []))
    go false x h = tt
    go true (good ps) h = tt
    go true (bad q) h = fault_shallow (length s) q h

-- the parts of a row's record are not refused with 15
pub seen_record_shallow : (s : List ℕ) (w : Row) {t : SeenRecord} → seen_record_of s w ≡ good t → Shallow t.parts
seen_record_shallow s w {t} = go (span_fine (length s) w.arg_start w.arg_end)
  where
    go : (b : Bool) → pick b (good (seen_record_at s w)) (bad (refusal 9 0 0)) ≡ good t → Shallow t.parts
    go true e = let z : seen_record_at s w ≡ t = cc in subst (λ (x : SeenRecord). Shallow x.parts) z (pieces_shallow s w)
    go false e = clash (cc)

-- the record of an id and its parts are not refused with 15, whatever the lent tables hold
pub find_shallow : (s rows slots : List ℕ) (ids : Ids) (i : ℕ) → FoundShallow (find_of s (row_for rows slots ids) i)
unfolding find_of
find_shallow s rows slots ids i = go (row_found rows (searched rows slots ids i))
  where
    one : (w : Row) (b : Bool) → FoundShallow (good_by Some (pick b (good (seen_record_at s w)) (bad (refusal 9 0 0))))
    one w true = pieces_shallow s w
    one w false = λ z. absurd (omega (arith, z))

    go : (x : Option Row) → FoundShallow (seen_record_found s x)
    go None = tt
    go (Some w) = one w (span_fine (length s) w.arg_start w.arg_end)

-- of a file's length unit: 15 is given only where the seventeenth conversion unit on a chain is met
pub file_too_deep : (s rows slots : List ℕ) (ids : Ids) (w : Row) {t : SeenRecord} {q : Refusal} → seen_record_of s w ≡ good t → length_of s (find_of s (row_for rows slots ids)) 16 t ≡ bad q → q.number ≡ 15
    → (q ≡ refusal 15 0 q.place) × Follows s (find_of s (row_for rows slots ids)) 16 t q.place
file_too_deep s rows slots ids w h e d = too_deep_only s (find_of s (row_for rows slots ids)) (find_shallow s rows slots ids) (seen_record_shallow s w h) e d
