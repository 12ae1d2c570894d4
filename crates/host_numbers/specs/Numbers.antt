-- Tables, rows and kinds as plain numbers, for a host in another language.
-- Assumes nothing.
-- Definitions to be believed: no law, and nothing computed that no theorem ties (docs/BELIEVE.md).
use Rattle.std.specs.Prelude.{ℕ, ◌+◌, ◌/◌, ◌%◌, Bool, List, [], ◌∷◌, eqb, leb, length, get_or, Option, Some, None}
use Rattle.std.proofs.lemmas.List.Edits.{sets}
use Rattle.common.specs.Pick.{pick}
use Rattle.error.specs.Refusal.{Told, good, bad}
use Rattle.index.specs.declared.Ids.{Ids}
use Rattle.kinds.specs.declared.Kind.{Kind}
use Rattle.kinds.specs.declared.Kind.TheVariants.{
  GeometricRepresentationContext,
  GlobalUnitAssignedContext,
  GlobalUncertaintyAssignedContext,
  LengthUnit,
  PlaneAngleUnit,
  SolidAngleUnit,
  SiUnit,
  ConversionBasedUnit,
  UncertaintyMeasureWithUnit,
  LengthMeasureWithUnit,
  Complex,
  Other,
}
use Rattle.lookup.specs.declared.Tables.{Tables}

-- numbers put at the start of a lent list that has room for m; a shorter one stays as it was
abbrev pub put_in : ℕ → List ℕ → List ℕ → List ℕ
put_in m xs old = pick (leb m (length old)) (sets old 0 xs) old

-- ---- what stands beside the slots
-- what was found of the ids: 1 where they rise in file order, and 2 where none stands twice
abbrev pub flags_of : Bool → Bool → ℕ
flags_of direct distinct = pick direct 1 0 + pick distinct 2 0

-- the number at i of a list, as one of 32 bits
abbrev pub narrow_at : List ℕ → ℕ → ℕ
narrow_at xs i = get_or xs i 0 % 4294967296

-- what goes to a host of the index: how many slots hold a row, the least id, the greatest, what was found, 1 where ids rise by one step, and the
-- binary digits of a range of the guide
abbrev pub ids_numbers : Ids → List ℕ
ids_numbers b = b.count ∷ b.first ∷ b.last ∷ flags_of b.direct b.distinct ∷ pick b.even 1 0 ∷ b.shift ∷ []

-- the index from what comes back; of the fourth number the last two binary digits count, of the fifth the last, and a number that is not there is 0
abbrev pub ids_by : List ℕ → Ids
ids_by xs = record { count = get_or xs 0 0; first = narrow_at xs 1; last = narrow_at xs 2; direct = eqb (get_or xs 3 0 % 2) 1; distinct = eqb (get_or xs 3 0 / 2 % 2) 1; even = eqb (get_or xs 4 0 % 2) 1; shift = narrow_at xs 5 }

-- ---- what goes with the tables
-- what goes to a host with the tables: the numbers beside the slots in the first eight; then how many header rows and data rows, and the largest id
abbrev pub tables_in : Tables → List ℕ → List ℕ
tables_in t old = pick (leb 16 (length old)) (sets (sets old 0 (ids_numbers t.ids)) 8 (t.headers ∷ t.records ∷ t.max ∷ [])) old

-- what goes with the tables, from the numbers that come back
abbrev pub tables_by : List ℕ → Tables
tables_by xs = record { headers = get_or xs 8 0; records = get_or xs 9 0; max = narrow_at xs 10; ids = ids_by xs }

-- ---- rows
-- what is found goes into a lent list that needs room for m numbers and has room for n: 0, or 16 where that is too short; 255 where
-- nothing is found; or the number of the refusal
abbrev pub out_code : {A : Type 0} → ℕ → ℕ → Told (Option A) → ℕ
out_code m n (good None) = 255
out_code m n (good (Some a)) = pick (leb m n) 0 16
out_code m n (bad q) = q.number

-- the lent list once what is found goes into it; as it was where it is too short, nothing is found or a refusal comes
abbrev pub out_after : {A : Type 0} → ℕ → (A → List ℕ) → Told (Option A) → List ℕ → List ℕ
out_after m f (good None) old = old
out_after m f (good (Some a)) old = put_in m (f a) old
out_after m f (bad q) old = old

-- ---- kinds
-- a kind by its number; any other number is `Other`
abbrev pub kind_by : ℕ → Kind
kind_by n = get_or (GeometricRepresentationContext ∷ GlobalUnitAssignedContext ∷ GlobalUncertaintyAssignedContext ∷ LengthUnit ∷ PlaneAngleUnit ∷ SolidAngleUnit ∷ SiUnit ∷ ConversionBasedUnit ∷ UncertaintyMeasureWithUnit ∷ LengthMeasureWithUnit ∷ Complex ∷ []) n Other
