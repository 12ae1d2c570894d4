-- "with a place from 0 to the input's length" (demand 1), for the factor of a unit: every refusal lies in the file, whatever the lent
-- tables hold. Assumes nothing.
use Prim.Native.Nat.{ℕ, zero, suc, ◌-◌, ◌≤◌}
use Rattle.std.specs.Prelude.{◌≡◌, refl, Bool, true, false, List, [], map, eqb, length, Option, Some, None}
use Rattle.std.proofs.Common.{arith}
use Rattle.common.specs.Pick.{pick}
use Rattle.common.specs.Tests.{bounds}
use Rattle.error.specs.Refusal.{refusal, Told, good, bad}
use Rattle.statement.specs.Rows.{Row}
use Rattle.kinds.specs.declared.Kind.{Kind}
use Rattle.kinds.specs.declared.Kind.TheVariants.{SiUnit, ConversionBasedUnit, LengthMeasureWithUnit}
use Rattle.kinds.specs.declared.Kind.TheVariants as Kinds
use Rattle.params.specs.Skips.{skip_of}
use Rattle.params.specs.Answer.{Span, onward}
use Rattle.params.specs.Places.{PlacedIn, skip_placed}
use Rattle.scalars.specs.Scalars.{measure_of}
use Rattle.scalars.specs.Answer.{next_of}
use Rattle.scalars.specs.Places.{scalar_next_placed}
use Rattle.reals.specs.Scalar.{reference_of}
use Rattle.words.specs.Places.{ToldIn}
use Rattle.parts.specs.Part.{parts_of}
use Rattle.parts.specs.Places.{AnswerIn, AllIn, parts_placed}
use Rattle.index.specs.Search.{searched}
use Rattle.index.specs.declared.Ids.{Ids}
use Rattle.lookup.specs.Lookup.{span_fine, row_found, row_for}
use Rattle.factors.specs.SeenRecords.{good_by, same_kind, unit_part_of, SeenRecord, seen_record_at, seen_record_of, seen_record_found, find_of, first_unit_part, self_or}
use Rattle.factors.specs.Factor.{read_or, or_none, Chain, known, leads, conversion_of, si_or_conversion, link_of, chained, base_of, measure_at, measure_in, length_of, angle_number, angle_of}
use Rattle.factors.specs.Unit.{si_length, si_angle, measure_ref, option_by, scaled_by, measure_run}

-- ---- the parts of a complex record
-- a fault in the parts of a complex record lies in the file
answer_placed : {A : Type 0} (n : ℕ) (F : A → Type 0) (x : Told A) → AnswerIn n F x → PlacedIn n x
answer_placed n F (good a) h = tt
answer_placed n F (bad q) h = h.1

-- ---- answers put together
module _ {A B : Type 0} (n : ℕ) where
  -- an answer changed by a function refuses in the file where the answer does
  pub by_placed : (f : A → B) (x : Told A) → PlacedIn n x → PlacedIn n (good_by f x)
  by_placed f (good a) h = tt
  by_placed f (bad q) h = h

  -- an answer that is read on refuses in the file where it does, and where what is read of what holds of it does
  pub on_placed : (F : A → Type 0) (f : A → Told B) (x : Told A) → ToldIn n F x → ((a : A) → F a → PlacedIn n (f a)) → PlacedIn n (onward f x)
  on_placed F f (good a) h k = k a h
  on_placed F f (bad q) h k = h

  -- an answer that is read on, whatever was told, refuses in the file where both do
  pub any_placed : (f : A → Told B) (x : Told A) → PlacedIn n x → ((a : A) → PlacedIn n (f a)) → PlacedIn n (onward f x)
  any_placed f (good a) h k = k a
  any_placed f (bad q) h k = h

  -- an answer that may be none, read on, refuses in the file where all that may follow does
  pub option_placed : (other : Told B) (f : A → Told B) (x : Told (Option A)) → PlacedIn n x → PlacedIn n other → ((a : A) → PlacedIn n (f a)) → PlacedIn n (onward (option_by other f) x)
  option_placed other f (good None) h o k = o
  option_placed other f (good (Some a)) h o k = k a
  option_placed other f (bad q) h o k = h

-- ---- records
-- a record of a file of n bytes: it begins in the file, and so does a fault in its parts
abbrev pub SeenRecordIn : ℕ → SeenRecord → Type 0
SeenRecordIn n t = (t.run.start ≤ n) × PlacedIn n t.parts

-- a record that was found lies in a file of n bytes, or there is none
abbrev pub FoundIn : ℕ → Option SeenRecord → Type 0
FoundIn n None = Unit {0}
FoundIn n (Some t) = SeenRecordIn n t

-- the record of a row lies in the file, and so does what refuses it
pub seen_record_in : (s : List ℕ) (w : Row) → ToldIn (length s) (SeenRecordIn (length s)) (seen_record_of s w)
seen_record_in s w = go (span_fine (length s) w.arg_start w.arg_end) refl
  where
    pieces : (b : Bool) → PlacedIn (length s) (pick b (good_by (map (unit_part_of s)) (parts_of s w.arg_start w.arg_end)) (good []))
    pieces true = by_placed (length s) (map (unit_part_of s)) (parts_of s w.arg_start w.arg_end) (answer_placed (length s) (AllIn (length s) w.arg_start) (parts_of s w.arg_start w.arg_end) (parts_placed s w.arg_start w.arg_end))
    pieces false = tt

    go : (b : Bool) → span_fine (length s) w.arg_start w.arg_end ≡ b → ToldIn (length s) (SeenRecordIn (length s)) (pick b (good (seen_record_at s w)) (bad (refusal 9 0 0)))
    go true e = let (h, k) = bounds w.arg_start w.arg_end (length s) e in (omega arith, pieces (eqb w.complex 1))
    go false e = omega arith

-- the record of an id lies in the file, and so does what refuses it
pub find_in : (s rows slots : List ℕ) (ids : Ids) (i : ℕ) → ToldIn (length s) (FoundIn (length s)) (find_of s (row_for rows slots ids) i)
unfolding find_of
find_in s rows slots ids i = go (row_found rows (searched rows slots ids i))
  where
    one : (x : Told SeenRecord) → ToldIn (length s) (SeenRecordIn (length s)) x → ToldIn (length s) (FoundIn (length s)) (good_by Some x)
    one (good t) h = h
    one (bad q) h = h

    go : (x : Option Row) → ToldIn (length s) (FoundIn (length s)) (seen_record_found s x)
    go None = tt
    go (Some w) = one (seen_record_of s w) (seen_record_in s w)

-- what refuses the arguments of a record of a kind, or of its first part of that kind, lies in the file
pub self_in : (n : ℕ) (k : Kind) (t : SeenRecord) → SeenRecordIn n t → PlacedIn n (self_or k t)
self_in n k t h = go (same_kind t.kind k)
  where
    go : (b : Bool) → PlacedIn n (pick b (good (Some t.run)) (good_by (first_unit_part k) t.parts))
    go true = tt
    go false = by_placed n (first_unit_part k) t.parts h.1

-- what refuses the arguments of a measure lies in the file
run_in : (n : ℕ) (t : SeenRecord) → SeenRecordIn n t → PlacedIn n (measure_run t)
run_in n t h = go (same_kind t.kind Kinds.Complex)
  where
    go : (b : Bool) → PlacedIn n (pick b (good_by (first_unit_part LengthMeasureWithUnit) t.parts) (good (Some t.run)))
    go true = by_placed n (first_unit_part LengthMeasureWithUnit) t.parts h.1
    go false = tt

-- what refuses an answer of `self_or` lies in the file
pub self_placed : (s : List ℕ) (k : Kind) (w : Row) → PlacedIn (length s) (onward (self_or k) (seen_record_of s w))
self_placed s k w = on_placed (length s) (SeenRecordIn (length s)) (self_or k) (seen_record_of s w) (seen_record_in s w) (self_in (length s) k)

-- ---- units
-- what refuses a unit, by its SI part or its conversion, lies in the file
unit_in_lem : {A : Type 0} (n : ℕ) (si conversion : Span → Told A) (neither : A) (t : SeenRecord) → SeenRecordIn n t → ((r : Span) → PlacedIn n (si r)) → ((r : Span) → PlacedIn n (conversion r)) → PlacedIn n (si_or_conversion si conversion neither t)
unit_in_lem n si conversion neither t h k l =
    option_placed n (onward (option_by (good neither) conversion) (self_or ConversionBasedUnit t)) si (self_or SiUnit t) (self_in n SiUnit t h)
    (option_placed n (good neither) conversion (self_or ConversionBasedUnit t) (self_in n ConversionBasedUnit t h) tt l)
    k

-- what refuses a measure's reference lies in the file
ref_placed : (s : List ℕ) (r : Span) → PlacedIn (length s) (measure_ref s r)
unfolding measure_ref
ref_placed s r =
    any_placed (length s) (λ u. (next_of reference_of s (skip_of s r.start r.stop).place r.stop).answer) (skip_of s r.start r.stop).answer (skip_placed s r.start r.stop)
    (λ u. scalar_next_placed reference_of s (skip_of s r.start r.stop).place r.stop)

-- what refuses one unit of a chain lies in the file: 15 stands at the record's arguments
link_in : (s : List ℕ) (left : ℕ) (t : SeenRecord) → SeenRecordIn (length s) t → PlacedIn (length s) (link_of s left t)
unfolding link_of
link_in s left t h = unit_in_lem (length s) (λ r. good (known (si_length s r))) (conversion_of s left t.run.start) (known None) t h (λ r. tt) (λ r. go (eqb left 0) r)
  where
    go : (b : Bool) (r : Span) → PlacedIn (length s) (pick b (bad (refusal 15 0 t.run.start)) (good_by leads (measure_ref s r)))
    go true r = h.0
    go false r = by_placed (length s) leads (measure_ref s r) (ref_placed s r)

-- what refuses a number that is read on lies in the file: 13 stands at its own place
read_placed : (n : ℕ) (x : Told ℕ) (k : ℕ → Told (Option ℕ)) → PlacedIn n x → ((v : ℕ) → PlacedIn n (k v)) → PlacedIn n (read_or x k)
read_placed n (good v) k h l = l v
read_placed n (bad q) k h l = go (eqb q.number 13)
  where
    go : (b : Bool) → PlacedIn {A = Option ℕ} n (pick b (bad q) (good None))
    go true = h
    go false = tt

-- what refuses a base that is read on lies in the file; an unreadable one refuses nothing
base_placed : (n : ℕ) (x : Told ℕ) (k : ℕ → Told (Option ℕ)) → ((v : ℕ) → PlacedIn n (k v)) → PlacedIn n (or_none x k)
base_placed n (good v) k l = l v
base_placed n (bad q) k l = tt

module _ (s : List ℕ) (find : ℕ → Told (Option SeenRecord)) (finds : (i : ℕ) → ToldIn (length s) (FoundIn (length s)) (find i)) where
  -- what refuses a record that was found, or what is made of it, lies in the file
  found_placed : (f : SeenRecord → Told (Option ℕ)) (i : ℕ) → ((t : SeenRecord) → SeenRecordIn (length s) t → PlacedIn (length s) (f t)) → PlacedIn (length s) (onward (option_by (good None) f) (find i))
  found_placed f i k = on_placed (length s) (FoundIn (length s)) (option_by (good None) f) (find i) (finds i) go
    where
      go : (x : Option SeenRecord) → FoundIn (length s) x → PlacedIn (length s) (option_by (good None) f x)
      go None h = tt
      go (Some t) h = k t h

  -- what refuses a measure lies in the file, where k gives the factor of its base
  measure_in_lem : (k : SeenRecord → Told (Option ℕ)) → ((t : SeenRecord) → SeenRecordIn (length s) t → PlacedIn (length s) (k t)) → (i : ℕ) → PlacedIn (length s) (measure_in s find k i)
  unfolding measure_in
  measure_in_lem k h i = found_placed (λ t. onward (option_by (good None) (measure_at s find k)) (measure_run t)) i
      (λ t l. option_placed (length s) (good None) (measure_at s find k) (measure_run t) (run_in (length s) t l) tt measure)
    where
      base : (v b : ℕ) → PlacedIn (length s) (onward (option_by (good None) (λ t. scaled_by v (k t))) (find b))
      base v b = found_placed (λ t. scaled_by v (k t)) b (λ t l. by_placed (length s) _ (k t) (h t l))

      measure : (r : Span) → PlacedIn (length s) (measure_at s find k r)
      measure r =
          read_placed (length s) (next_of measure_of s r.start r.stop).answer (λ v. base_of s find k v (next_of measure_of s r.start r.stop).place r.stop) (scalar_next_placed measure_of s r.start r.stop)
          (λ v. base_placed (length s) (next_of reference_of s (next_of measure_of s r.start r.stop).place r.stop).answer (λ b. onward (option_by (good None) (λ t. scaled_by v (k t))) (find b)) (base v))

  -- what refuses a length unit lies in the file
  pub length_in : (left : ℕ) (t : SeenRecord) → SeenRecordIn (length s) t → PlacedIn (length s) (length_of s find left t)
  unfolding length_of
  length_in zero t h = any_placed (length s) (chained (λ i. good None)) (link_of s zero t) (link_in s zero t h) go
    where
      go : (c : Chain) → PlacedIn (length s) (chained (λ i. good None) c)
      go (known f) = tt
      go (leads i) = tt
  length_in (suc n) t h = any_placed (length s) (chained (measure_in s find (λ b. length_of s find n b))) (link_of s (suc n) t) (link_in s (suc n) t h) (go (measure_in_lem (λ b. length_of s find n b) (length_in n)))
    where
      go : ((i : ℕ) → PlacedIn (length s) (measure_in s find (λ b. length_of s find n b) i)) → (c : Chain) → PlacedIn (length s) (chained (measure_in s find (λ b. length_of s find n b)) c)
      go k (known f) = tt
      go k (leads i) = k i

  -- what refuses an angle's number lies in the file
  number_in_lem : (i : ℕ) → PlacedIn (length s) (angle_number s find i)
  unfolding angle_number
  number_in_lem i = found_placed (λ t. read_or (next_of measure_of s t.run.start t.run.stop).answer (λ v. good (Some v))) i
      (λ t l. read_placed (length s) (next_of measure_of s t.run.start t.run.stop).answer (λ v. good (Some v)) (scalar_next_placed measure_of s t.run.start t.run.stop) (λ v. tt))

  -- what refuses an angle unit lies in the file
  pub angle_in : (t : SeenRecord) → SeenRecordIn (length s) t → PlacedIn (length s) (angle_of s find t)
  unfolding angle_of
  angle_in t h = unit_in_lem (length s) (λ r. good (si_angle s r)) (λ r. onward (angle_number s find) (measure_ref s r)) None t h (λ r. tt) (λ r. any_placed (length s) (angle_number s find) (measure_ref s r) (ref_placed s r) number_in_lem)

module _ (s rows slots : List ℕ) (ids : Ids) (w : Row) where
  -- what refuses an answer of `length_factor` lies in the file
  pub length_placed : (left : ℕ) → PlacedIn (length s) (onward (length_of s (find_of s (row_for rows slots ids)) left) (seen_record_of s w))
  length_placed left = on_placed (length s) (SeenRecordIn (length s)) (length_of s (find_of s (row_for rows slots ids)) left) (seen_record_of s w) (seen_record_in s w) (length_in s (find_of s (row_for rows slots ids)) (find_in s rows slots ids) left)

  -- what refuses an answer of `angle_factor` lies in the file
  pub angle_placed : PlacedIn (length s) (onward (angle_of s (find_of s (row_for rows slots ids))) (seen_record_of s w))
  angle_placed = on_placed (length s) (SeenRecordIn (length s)) (angle_of s (find_of s (row_for rows slots ids))) (seen_record_of s w) (seen_record_in s w) (angle_in s (find_of s (row_for rows slots ids)) (find_in s rows slots ids))
