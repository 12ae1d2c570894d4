-- "with a place from 0 to the input's length" (demand 1), for the unit answer: every refusal lies in the file, whatever the lent tables
-- hold. Assumes nothing.
use Prim.Native.Nat.{ℕ, zero, suc}
use Rattle.std.specs.Prelude.{◌≡◌, refl, Bool, eqb, length, Option, Some, None}
use Rattle.std.proofs.Math.Bool.{true, false}
use mathlib.Core.List.{List, [], ◌∷◌}
use Rattle.common.specs.Pick.{pick}
use Rattle.error.specs.Refusal.{Told, good, bad}
use Rattle.table.specs.Table.{row_numbers}
use Rattle.lookup.specs.Lookup.{row_for}
use Rattle.statement.specs.Rows.{Row}
use Rattle.kinds.specs.declared.Kind.TheVariants.{GeometricRepresentationContext, GlobalUnitAssignedContext, GlobalUncertaintyAssignedContext, UncertaintyMeasureWithUnit}
use Rattle.params.specs.Answer.{Span, onward}
use Rattle.params.specs.Places.{PlacedIn}
use Rattle.words.specs.Places.{ToldIn}
use Rattle.scalars.specs.Scalars.{measure_of}
use Rattle.scalars.specs.Answer.{next_of}
use Rattle.scalars.specs.Places.{scalar_next_placed}
use Rattle.reals.specs.Scalar.{reference_of}
use Rattle.lists.specs.Items.{list_of}
use Rattle.lists.specs.Answer.{as_fate, next_by}
use Rattle.lists.specs.Places.{scalar_inward, list_inward}
use Rattle.lists.specs.Places as Lists
use Rattle.index.specs.declared.Ids.{Ids}
use Rattle.factors.specs.SeenRecords.{good_by, same_kind, SeenRecord, seen_record_of, find_of, self_or}
use Rattle.factors.specs.Factor.{length_of, angle_of}
use Rattle.factors.specs.Unit.{option_by}
use Rattle.factors.specs.Places.{SeenRecordIn, FoundIn, seen_record_in, find_in, by_placed, on_placed, any_placed, option_placed, self_in, length_in, angle_in}
use Rattle.units.specs.Answer.{Units, Role, length_role, angle_role, solid_role, with_length, with_angle, reads_integer, is_context, defaults, with_tolerance, refs_in, uncertain_by, uncertainty_of, uncertainty_by}
use Rattle.units.specs.Units.{role_of, first_role, by_role, unit_of, unit_by, units_by, tolerance_by, listed_units, listed_tolerance, context_of, decided_or, context_or_later, resolve_of}
use Rattle.units.specs.Code.{seen_records_from}

-- what refuses a list of references lies in the file
refs_placed : (s : List ℕ) (x : Option Span) → PlacedIn (length s) (refs_in s x)
unfolding refs_in
refs_placed s None = tt
refs_placed s (Some r) = go (next_by (list_of reference_of) (λ vs. true) s r.start r.stop).answer refl
  where
    go : (x : Told (List ℕ)) → (next_by (list_of reference_of) (λ vs. true) s r.start r.stop).answer ≡ x → PlacedIn (length s) x
    go (good vs) e = tt
    go (bad q) e = Lists.next_placed (list_of reference_of) (list_inward (λ u. as_fate (reference_of u)) (scalar_inward reference_of)) (λ vs. true) s r.start r.stop q e

-- what refuses whether a record is a context lies in the file
is_placed : (s : List ℕ) (t : SeenRecord) → SeenRecordIn (length s) t → PlacedIn (length s) (is_context s t)
unfolding is_context
is_placed s t h = by_placed (length s) (reads_integer s) (self_or GeometricRepresentationContext t) (self_in (length s) GeometricRepresentationContext t h)

-- a measure that does not read refuses with 13 alone, at its own place
uncertain_placed : (n : ℕ) (x : Told ℕ) → PlacedIn n x → PlacedIn n (uncertain_by x)
uncertain_placed n (good v) h = tt
uncertain_placed n (bad q) h = go (eqb q.number 13)
  where
    go : (b : Bool) → PlacedIn {A = Option ℕ} n (pick b (bad q) (good None))
    go true = h
    go false = tt

module _ (s : List ℕ) (find : ℕ → Told (Option SeenRecord)) (finds : (i : ℕ) → ToldIn (length s) (FoundIn (length s)) (find i)) where
  -- what refuses a record that was found, or what is made of it, lies in the file
  found_placed : {A : Type 0} (other : Told A) (f : SeenRecord → Told A) (i : ℕ) → PlacedIn (length s) other
      → ((t : SeenRecord) → SeenRecordIn (length s) t → PlacedIn (length s) (f t)) → PlacedIn (length s) (onward (option_by other f) (find i))
  found_placed other f i o k = on_placed (length s) (FoundIn (length s)) (option_by other f) (find i) (finds i) go
    where
      go : (x : Option SeenRecord) → FoundIn (length s) x → PlacedIn (length s) (option_by other f x)
      go None h = o
      go (Some t) h = k t h

  -- what refuses a unit by its role lies in the file
  role_placed : (u : Units) (t : SeenRecord) → SeenRecordIn (length s) t → (r : Option Role) → PlacedIn (length s) (by_role s find u t r)
  role_placed u t h None = tt
  role_placed u t h (Some length_role) = by_placed (length s) (with_length u) (length_of s find 16 t) (length_in s find finds 16 t h)
  role_placed u t h (Some angle_role) = by_placed (length s) (with_angle u) (angle_of s find t) (angle_in s find finds t h)
  role_placed u t h (Some solid_role) = tt

  -- what refuses a unit by its id lies in the file
  unit_placed : (u : Units) (i : ℕ) → PlacedIn (length s) (unit_by s find u i)
  unfolding unit_by
  unit_placed u i =
      found_placed (good u) (unit_of s find u) i tt
      (λ t h. any_placed (length s) (by_role s find u t) (role_of t) (by_placed (length s) first_role t.parts h.1) (role_placed u t h))

  -- what refuses the units of a list lies in the file
  units_placed : (u : Units) (is : List ℕ) → PlacedIn (length s) (units_by s find u is)
  unfolding units_by
  units_placed u [] = tt
  units_placed u (i ∷ is) = any_placed (length s) (λ v. units_by s find v is) (unit_by s find u i) (unit_placed u i) (λ v. units_placed v is)

  -- what refuses a listed uncertainty lies in the file
  uncertainty_placed : (i : ℕ) → PlacedIn (length s) (uncertainty_by s find i)
  unfolding uncertainty_by
  uncertainty_placed i = found_placed (good None) (uncertainty_of s) i tt (λ t h. go t (same_kind t.kind UncertaintyMeasureWithUnit))
    where
      go : (t : SeenRecord) (b : Bool) → PlacedIn (length s) (pick b (uncertain_by (next_of measure_of s t.run.start t.run.stop).answer) (good None))
      go t true = uncertain_placed (length s) (next_of measure_of s t.run.start t.run.stop).answer (scalar_next_placed measure_of s t.run.start t.run.stop)
      go t false = tt

  -- what refuses the tolerance of a list lies in the file
  tolerance_placed : (is : List ℕ) → PlacedIn (length s) (tolerance_by s find is)
  unfolding tolerance_by
  tolerance_placed [] = tt
  tolerance_placed (i ∷ is) =
      option_placed (length s) (tolerance_by s find is) good (uncertainty_by s find i) (uncertainty_placed i) (tolerance_placed is) (λ v. tt)

  -- what refuses the units of a context lies in the file
  listed_placed : (t : SeenRecord) → SeenRecordIn (length s) t → PlacedIn (length s) (listed_units s find t)
  unfolding listed_units
  listed_placed t h =
      any_placed (length s) (units_by s find defaults) (onward (refs_in s) (self_or GlobalUnitAssignedContext t))
      (any_placed (length s) (refs_in s) (self_or GlobalUnitAssignedContext t) (self_in (length s) GlobalUnitAssignedContext t h) (refs_placed s))
      (units_placed defaults)

  -- what refuses the tolerance of a context lies in the file
  bound_placed : (t : SeenRecord) → SeenRecordIn (length s) t → PlacedIn (length s) (listed_tolerance s find t)
  unfolding listed_tolerance
  bound_placed t h =
      any_placed (length s) (tolerance_by s find) (onward (refs_in s) (self_or GlobalUncertaintyAssignedContext t))
      (any_placed (length s) (refs_in s) (self_or GlobalUncertaintyAssignedContext t) (self_in (length s) GlobalUncertaintyAssignedContext t h) (refs_placed s))
      tolerance_placed

  -- what refuses all that a context declares lies in the file
  context_in : (t : SeenRecord) → SeenRecordIn (length s) t → PlacedIn (length s) (context_of s find t)
  unfolding context_of
  context_in t h =
      any_placed (length s) (λ u. good_by (with_tolerance u) (listed_tolerance s find t)) (listed_units s find t) (listed_placed t h)
      (λ u. by_placed (length s) (with_tolerance u) (listed_tolerance s find t) (bound_placed t h))

  -- what refuses one record lies in the file, where what comes after it does
  record_placed : (k : Unit {0} → Told Units) → PlacedIn (length s) (k tt) → (t : SeenRecord) → SeenRecordIn (length s) t → PlacedIn (length s) (context_or_later s find k t)
  record_placed k l t h =
      any_placed (length s) (λ c. pick c (onward (decided_or s find k) (context_of s find t)) (k tt)) (is_context s t) (is_placed s t h) go
    where
      by : (u : Units) (b : Bool) → PlacedIn (length s) (pick b (good u) (k tt))
      by u true = tt
      by u false = l

      go : (c : Bool) → PlacedIn (length s) (pick c (onward (decided_or s find k) (context_of s find t)) (k tt))
      go true = any_placed (length s) (decided_or s find k) (context_of s find t) (context_in t h) (λ u. by u u.resolved)
      go false = l

  -- what refuses the records of rows lies in the file
  rows_placed : (rows : List ℕ) (n k : ℕ) → PlacedIn (length s) (resolve_of s find (seen_records_from s (row_numbers rows) n k))
  unfolding resolve_of seen_records_from
  rows_placed rows zero k = tt
  rows_placed rows (suc n) k =
      on_placed (length s) (SeenRecordIn (length s)) (context_or_later s find (λ u. resolve_of s find (seen_records_from s (row_numbers rows) n (suc k)))) (seen_record_of s (row_numbers rows k)) (seen_record_in s (row_numbers rows k))
      (record_placed (λ u. resolve_of s find (seen_records_from s (row_numbers rows) n (suc k))) (rows_placed rows n (suc k)))

module _ (s rows slots : List ℕ) (ids : Ids) where
  -- what refuses an answer of `resolve` lies in the file
  pub resolve_placed : (n : ℕ) → PlacedIn (length s) (resolve_of s (find_of s (row_for rows slots ids)) (seen_records_from s (row_numbers rows) n 0))
  resolve_placed n = rows_placed s (find_of s (row_for rows slots ids)) (find_in s rows slots ids) rows n 0

  -- what refuses an answer of `units_of_context` lies in the file
  pub context_placed : (w : Row) → PlacedIn (length s) (onward (context_of s (find_of s (row_for rows slots ids))) (seen_record_of s w))
  context_placed w =
      on_placed (length s) (SeenRecordIn (length s)) (context_of s (find_of s (row_for rows slots ids))) (seen_record_of s w) (seen_record_in s w)
      (context_in s (find_of s (row_for rows slots ids)) (find_in s rows slots ids))
