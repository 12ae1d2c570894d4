-- Rules.antt and what Factor.antt computes are one: the factor that is computed is so, and nothing else is. Assumes nothing.
use Rattle.std.specs.Prelude.{ℕ, zero, suc, ◌+◌, ◌-◌, ◌<◌, ◌≡◌, ◌⊎◌, Bool, true, false, List, ◌∷◌, eqb, Option, Some, None}
use Rattle.std.proofs.Math.Path.{refl, ap}
use Rattle.std.proofs.Common.{sym, ◌∙◌, inl, inr, arith}
use borrow.Author.Tests.{eqb-true, eqb-false, eq-eqb, ne_eqb}
use Rattle.common.specs.Pick.{pick}
use Rattle.common.specs.Compare.{clash}
use Rattle.error.specs.Refusal.{Refusal, refusal, Told, good, bad}
use Rattle.record.specs.FormRight.Parts.{sole}
use Rattle.kinds.specs.declared.Kind.{Kind}
use Rattle.kinds.specs.declared.Kind.TheVariants.{SiUnit, ConversionBasedUnit}
use Rattle.params.specs.Answer.{Span}
use Rattle.factors.specs.Each.{Each, IsFirst}
use Rattle.factors.specs.EachLaws.{first_comes, first_never, first_decides}
use Rattle.factors.specs.SeenRecords.{good_by, same_kind, UnitPart, SeenRecord, first_unit_part, self_or}
use Rattle.factors.specs.Factor.{leads, link_of, measure_in, length_of, angle_number, angle_of}
use Rattle.factors.specs.Unit.{si_length, measure_ref, scaled_by, measure_run}
use Rattle.factors.specs.Laws.{chain_known, chain_leads}
use Rattle.factors.specs.Rules.{OfKind, UnitPartForm, Converts, measure_number_at, base_at, Based, chain_ends, base, HasMeasure, MeasureBaseForm, LengthForm, AngleForm}

-- ---- the first part of a kind
module _ (k : Kind) where
  -- a part of another kind in front does not change which is the first of the kind
  piece_on : (p : UnitPart) (ps : List UnitPart) → same_kind p.kind k ≡ false → first_unit_part k ps ≡ first_unit_part k (p ∷ ps)
  piece_on p ps e = rw e refl

  -- a part of the kind in front is the first of the kind
  piece_here : (p : UnitPart) (ps : List UnitPart) (r : Span) → OfKind k p r → Some r ≡ first_unit_part k (p ∷ ps)
  piece_here p ps r (e, f) = rw (e, f) refl

  -- the first part by the rules is the one that is computed
  pub unit_part_form_only : {ps : List UnitPart} {o : Option Span} → UnitPartForm k ps o → o ≡ first_unit_part k ps
  unit_part_form_only {ps} (UnitPartForm.part {r} h) = first_decides (λ p. same_kind p.kind k ≡ false) (OfKind k) Some (first_unit_part k) piece_on piece_here ps r h
  unit_part_form_only {ps} (UnitPartForm.without h) = first_never (λ p. same_kind p.kind k ≡ false) (OfKind k) Some (first_unit_part k) piece_on piece_here ps h

  -- the first part of a kind that is computed is the one by the rules
  pub unit_part_form_is : (ps : List UnitPart) → UnitPartForm k ps (first_unit_part k ps)
  unit_part_form_is ps = sole (UnitPartForm k ps) (λ o. unit_part_form_only) (go (first_comes (λ p. same_kind p.kind k ≡ false) (OfKind k) (λ p. by p (same_kind p.kind k) refl) ps))
    where
      by : (p : UnitPart) (b : Bool) → same_kind p.kind k ≡ b → (same_kind p.kind k ≡ false) ⊎ ((r : Span) × OfKind k p r)
      by p true e = inr (p.run, (e, refl))
      by p false e = inl e

      go : Each (λ p. same_kind p.kind k ≡ false) ps ⊎ ((r : Span) × IsFirst (λ p. same_kind p.kind k ≡ false) (OfKind k) ps r) → (o : Option Span) × UnitPartForm k ps o
      go (inl h) = (_, UnitPartForm.without h)
      go (inr (r, h)) = (_, UnitPartForm.part h)

-- where a record has no part of one kind, its parts have no fault
no_fault : (a b : Kind) (t : SeenRecord) → self_or a t ≡ good None → (o : Option Span) × (self_or b t ≡ good o)
no_fault a b t e = go (same_kind t.kind a) (same_kind t.kind b) t.parts e
  where
    go : (x y : Bool) (ps : Told (List UnitPart)) → pick x (good (Some t.run)) (good_by (first_unit_part a) ps) ≡ good None → (o : Option Span) × (pick y (good (Some t.run)) (good_by (first_unit_part b) ps) ≡ good o)
    go true y ps e = clash (cc)
    go false true ps e = (_, refl)
    go false false (good ps) e = (_, refl)
    go false false (bad q) e = clash (cc)

-- the factor that a measure leads to, where k gives the factor of its base unit
based_by : (SeenRecord → Told (Option ℕ)) → Based → Told (Option ℕ)
based_by k (chain_ends a) = a
based_by k (base v u) = scaled_by v (k u)

module _ (s : List ℕ) (find : ℕ → Told (Option SeenRecord)) where
  -- ---- a measure
  -- a measure by the rules gives what is computed
  measure_only : (k : SeenRecord → Told (Option ℕ)) {i : ℕ} {b : Based} → MeasureBaseForm s find i b → based_by k b ≡ measure_in s find k i
  unfolding measure_in based_by
  measure_only k (MeasureBaseForm.leads (m, (f, h)) n b u) = rw (f, h, n, b, u) refl
  measure_only k (MeasureBaseForm.missing f) = rw f refl
  measure_only k (MeasureBaseForm.lacking f h) = rw (f, h) refl
  measure_only k (MeasureBaseForm.unreadable {q} (m, (f, h)) n d) = rw (f, h, n, ne_eqb q.number 13 d) refl
  measure_only k (MeasureBaseForm.unbased (m, (f, h)) n b) = rw (f, h, n, b) refl
  measure_only k (MeasureBaseForm.baseless (m, (f, h)) n b u) = rw (f, h, n, b, u) refl
  measure_only k (MeasureBaseForm.classless {q} (m, (f, h)) n d) = rw (f, h, n, eq-eqb q.number 13 d) refl
  measure_only k (MeasureBaseForm.faulty f h) = rw (f, h) refl
  measure_only k (MeasureBaseForm.lost f) = rw f refl
  measure_only k (MeasureBaseForm.base_lost (m, (f, h)) n b u) = rw (f, h, n, b, u) refl

  -- every id has a measure by the rules
  measure_comes : (i : ℕ) → (b : Based) × MeasureBaseForm s find i b
  measure_comes i = found (find i) refl
    where
      based : {r : Span} {v b : ℕ} → HasMeasure s find i r → measure_number_at s r ≡ good v → base_at s r ≡ good b → (x : Told (Option SeenRecord)) → find b ≡ x → (b : Based) × MeasureBaseForm s find i b
      based h n b (good None) u = (_, MeasureBaseForm.baseless h n b u)
      based h n b (good (Some t)) u = (_, MeasureBaseForm.leads h n b u)
      based h n b (bad q) u = (_, MeasureBaseForm.base_lost h n b u)

      number : {r : Span} {v : ℕ} → HasMeasure s find i r → measure_number_at s r ≡ good v → (x : Told ℕ) → base_at s r ≡ x → (b : Based) × MeasureBaseForm s find i b
      number h n (good b) e = based h n e (find b) refl
      number h n (bad q) e = (_, MeasureBaseForm.unbased h n e)

      refused : {r : Span} {q : Refusal} → HasMeasure s find i r → measure_number_at s r ≡ bad q → (b : Bool) → eqb q.number 13 ≡ b → (b : Based) × MeasureBaseForm s find i b
      refused {q = q} h n true e = (_, MeasureBaseForm.classless h n (eqb-true q.number 13 e))
      refused {q = q} h n false e = (_, MeasureBaseForm.unreadable h n (eqb-false q.number 13 e))

      args : {r : Span} → HasMeasure s find i r → (x : Told ℕ) → measure_number_at s r ≡ x → (b : Based) × MeasureBaseForm s find i b
      args {r} h (good v) n = number h n (base_at s r) refl
      args h (bad q) n = refused h n (eqb q.number 13) refl

      measure : (m : SeenRecord) → find i ≡ good (Some m) → (x : Told (Option Span)) → measure_run m ≡ x → (b : Based) × MeasureBaseForm s find i b
      measure m f (good None) h = (_, MeasureBaseForm.lacking f h)
      measure m f (good (Some r)) h = args (m, (f, h)) (measure_number_at s r) refl
      measure m f (bad q) h = (_, MeasureBaseForm.faulty f h)

      found : (x : Told (Option SeenRecord)) → find i ≡ x → (b : Based) × MeasureBaseForm s find i b
      found (good None) f = (_, MeasureBaseForm.missing f)
      found (good (Some m)) f = measure m f (measure_run m) refl
      found (bad q) f = (_, MeasureBaseForm.lost f)

  -- ---- a length unit
  -- a conversion unit of length leads to its measure, where some are left
  link_leads : (n : ℕ) (t : SeenRecord) (r : Span) → (n ≡ 0 → ⊥) → Converts t r → link_of s n t ≡ good_by leads (measure_ref s r)
  unfolding link_of
  link_leads n t r d (e, f) = rw (e, f, ne_eqb n 0 d) refl

  -- a length unit's factor by the rules is the one that is computed, where those before the unit and those left are sixteen
  length_steps : {k : ℕ} {t : SeenRecord} {a : Told (Option ℕ)} → LengthForm s find k t a → (n : ℕ) → k + n ≡ 16 → a ≡ length_of s find n t
  unfolding link_of based_by
  length_steps {t = t} (LengthForm.si {r} e) n h = chain_known s find n (good t) (good (si_length s r)) (rw e refl)
  length_steps {t = t} (LengthForm.neither e f) n h = chain_known s find n (good t) (good None) (rw (e, f) refl)
  length_steps {t = t} (LengthForm.faulty {q} e) n h = chain_known s find n (good t) (bad q) (rw e refl)
  length_steps {t = t} (LengthForm.deep d (e, f)) n h = chain_known s find n (good t) (bad (refusal 15 0 t.run.start)) (rw (e, f, eq-eqb n 0 (omega arith)) refl)
  length_steps {t = t} (LengthForm.unnamed {r} {q} l c m) n h = chain_known s find n (good t) (bad q) (sym (link_leads n t r (λ z. absurd (omega arith)) c ∙ ap (good_by leads) m))
  length_steps {t = t} (LengthForm.stops {r} l c m g) n h =
      chain_leads s find n (good t) (sym (link_leads n t r (λ z. absurd (omega arith)) c ∙ ap (good_by leads) m)) (measure_only (length_of s find (n - 1)) g)
  length_steps {t = t} (LengthForm.conversion {v} {u} {r} l c m g f) n h =
      chain_leads s find n (good t) (sym (link_leads n t r (λ z. absurd (omega arith)) c ∙ ap (good_by leads) m)) (ap (scaled_by v) (length_steps f (n - 1) (omega arith)) ∙ measure_only (length_of s find (n - 1)) g)

  -- a length unit has a factor by the rules, where its base unit would have one
  length_comes : (k : ℕ) → (k ≡ 16) ⊎ ((k < 16) × ((u : SeenRecord) → (a : Told (Option ℕ)) × LengthForm s find (suc k) u a)) → (t : SeenRecord) → (a : Told (Option ℕ)) × LengthForm s find k t a
  length_comes k next t = by (self_or SiUnit t) refl
    where
      measured : (r : Span) (i : ℕ) → k < 16 → ((u : SeenRecord) → (a : Told (Option ℕ)) × LengthForm s find (suc k) u a) → Converts t r → measure_ref s r ≡ good i → (b : Based) → MeasureBaseForm s find i b → (a : Told (Option ℕ)) × LengthForm s find k t a
      measured r i l on c m (chain_ends a) g = (_, LengthForm.stops l c m g)
      measured r i l on c m (base v u) g = let (a, f) = on u in (_, LengthForm.conversion l c m g f)

      named : (r : Span) → k < 16 → ((u : SeenRecord) → (a : Told (Option ℕ)) × LengthForm s find (suc k) u a) → Converts t r → (x : Told ℕ) → measure_ref s r ≡ x → (a : Told (Option ℕ)) × LengthForm s find k t a
      named r l on c (good i) m = let (b, g) = measure_comes i in measured r i l on c m b g
      named r l on c (bad q) m = (_, LengthForm.unnamed l c m)

      converts : (r : Span) → Converts t r → (k ≡ 16) ⊎ ((k < 16) × ((u : SeenRecord) → (a : Told (Option ℕ)) × LengthForm s find (suc k) u a)) → (a : Told (Option ℕ)) × LengthForm s find k t a
      converts r c (inl d) = (_, LengthForm.deep d c)
      converts r c (inr (l, on)) = named r l on c (measure_ref s r) refl

      other : self_or SiUnit t ≡ good None → (o : Option Span) → self_or ConversionBasedUnit t ≡ good o → (a : Told (Option ℕ)) × LengthForm s find k t a
      other e None f = (_, LengthForm.neither e f)
      other e (Some r) f = converts r (e, f) next

      by : (x : Told (Option Span)) → self_or SiUnit t ≡ x → (a : Told (Option ℕ)) × LengthForm s find k t a
      by (bad q) e = (_, LengthForm.faulty e)
      by (good (Some r)) e = (_, LengthForm.si e)
      by (good None) e = let (o, f) = no_fault SiUnit ConversionBasedUnit t e in other e o f

  -- every length unit has a factor by the rules, where those before it and those left are sixteen
  length_all : (n k : ℕ) → k + n ≡ 16 → (t : SeenRecord) → (a : Told (Option ℕ)) × LengthForm s find k t a
  length_all zero k h t = length_comes k (inl (omega arith)) t
  length_all (suc n) k h t = length_comes k (inr (omega arith, λ u. length_all n (suc k) (omega arith) u)) t

  -- the factor of a length unit by the rules is the one that is computed
  pub length_form_only : {t : SeenRecord} {a : Told (Option ℕ)} → LengthForm s find 0 t a → a ≡ length_of s find 16 t
  length_form_only h = length_steps h 16 refl

  -- the factor of a length unit that is computed is the one by the rules
  pub length_form_is : (t : SeenRecord) → LengthForm s find 0 t (length_of s find 16 t)
  length_form_is t = sole (LengthForm s find 0 t) (λ a. length_form_only) (length_all 16 0 refl t)

  -- ---- an angle unit
  -- the factor of an angle unit by the rules is the one that is computed
  pub angle_form_only : {t : SeenRecord} {a : Told (Option ℕ)} → AngleForm s find t a → a ≡ angle_of s find t
  unfolding angle_of angle_number
  angle_form_only (AngleForm.si e) = rw e refl
  angle_form_only (AngleForm.neither e f) = rw (e, f) refl
  angle_form_only (AngleForm.conversion (e, f) m g n) = rw (e, f, m, g, n) refl
  angle_form_only (AngleForm.missing (e, f) m g) = rw (e, f, m, g) refl
  angle_form_only (AngleForm.unreadable {q} (e, f) m g n d) = rw (e, f, m, g, n, ne_eqb q.number 13 d) refl
  angle_form_only (AngleForm.classless {q} (e, f) m g n d) = rw (e, f, m, g, n, eq-eqb q.number 13 d) refl
  angle_form_only (AngleForm.lost (e, f) m g) = rw (e, f, m, g) refl
  angle_form_only (AngleForm.unnamed (e, f) m) = rw (e, f, m) refl
  angle_form_only (AngleForm.faulty e) = rw e refl

  -- the factor of an angle unit that is computed is the one by the rules
  pub angle_form_is : (t : SeenRecord) → AngleForm s find t (angle_of s find t)
  angle_form_is t = sole (AngleForm s find t) (λ a. angle_form_only) (by (self_or SiUnit t) refl)
    where
      refused : {r : Span} {i : ℕ} {m : SeenRecord} {q : Refusal} → Converts t r → measure_ref s r ≡ good i → find i ≡ good (Some m) → measure_number_at s m.run ≡ bad q → (b : Bool) → eqb q.number 13 ≡ b → (a : Told (Option ℕ)) × AngleForm s find t a
      refused {q = q} c m f n true e = (_, AngleForm.classless c m f n (eqb-true q.number 13 e))
      refused {q = q} c m f n false e = (_, AngleForm.unreadable c m f n (eqb-false q.number 13 e))

      number : {r : Span} {i : ℕ} {m : SeenRecord} → Converts t r → measure_ref s r ≡ good i → find i ≡ good (Some m) → (x : Told ℕ) → measure_number_at s m.run ≡ x → (a : Told (Option ℕ)) × AngleForm s find t a
      number c m f (good v) n = (_, AngleForm.conversion c m f n)
      number c m f (bad q) n = refused c m f n (eqb q.number 13) refl

      found : {r : Span} {i : ℕ} → Converts t r → measure_ref s r ≡ good i → (x : Told (Option SeenRecord)) → find i ≡ x → (a : Told (Option ℕ)) × AngleForm s find t a
      found c m (good None) f = (_, AngleForm.missing c m f)
      found c m (good (Some u)) f = number c m f (measure_number_at s u.run) refl
      found c m (bad q) f = (_, AngleForm.lost c m f)

      named : {r : Span} → Converts t r → (x : Told ℕ) → measure_ref s r ≡ x → (a : Told (Option ℕ)) × AngleForm s find t a
      named c (good i) m = found c m (find i) refl
      named c (bad q) m = (_, AngleForm.unnamed c m)

      other : self_or SiUnit t ≡ good None → (o : Option Span) → self_or ConversionBasedUnit t ≡ good o → (a : Told (Option ℕ)) × AngleForm s find t a
      other e None f = (_, AngleForm.neither e f)
      other e (Some r) f = named (e, f) (measure_ref s r) refl

      by : (x : Told (Option Span)) → self_or SiUnit t ≡ x → (a : Told (Option ℕ)) × AngleForm s find t a
      by (bad q) e = (_, AngleForm.faulty e)
      by (good (Some r)) e = (_, AngleForm.si e)
      by (good None) e = let (o, f) = no_fault SiUnit ConversionBasedUnit t e in other e o f
