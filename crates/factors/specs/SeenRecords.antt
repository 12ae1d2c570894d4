-- What the units see of a record: its kind, its arguments and, of a complex one, its parts or their fault; and the record of an id.
-- Records, lookups and parts are those of the crates below. Assumes nothing.
-- Definitions to be believed: no law, and nothing computed that no theorem ties (docs/BELIEVE.md).
use Rattle.std.specs.Prelude.{ℕ, Bool, List, [], ◌∷◌, map, eqb, length, Option, Some, None}
use Rattle.common.specs.Pick.{pick}
use Rattle.error.specs.Refusal.{refusal, Told, good, bad}
use Rattle.statement.specs.Rows.{Row, HeaderRow}
use Rattle.kinds.specs.Kind.{kind_of_keyword}
use Rattle.kinds.specs.Rules.{rank_of}
use Rattle.kinds.specs.declared.Kind.{Kind}
use Rattle.params.specs.Answer.{Span, span, onward}
use Rattle.parts.specs.Part.{parts_of}
use Rattle.index.specs.declared.Ids.{Ids}
use Rattle.lookup.specs.Lookup.{bytes_between, span_fine, kind_in, row_for}
-- an answer that is good, changed by a function; a refusal as it is
pub use Rattle.statement.specs.Rows.{mapped as good_by}

-- whether two kinds are the same
abbrev pub same_kind : Kind → Kind → Bool
same_kind a b = eqb (rank_of a) (rank_of b)

-- a part of a complex record: its kind and its arguments
pub record UnitPart : Type 0 where
  pub kind : Kind
  pub run : Span

-- a part of the file s by its row
abbrev pub unit_part_of : List ℕ → HeaderRow → UnitPart
unit_part_of s p = record { kind = kind_of_keyword (bytes_between s p.key_start p.key_end); run = span p.arg_start p.arg_end }

-- a record: its kind, its arguments, and its parts or the fault in them
pub record SeenRecord : Type 0 where
  pub kind : Kind
  pub run : Span
  pub parts : Told (List UnitPart)

-- the parts of a row of the file s; a simple record has none
abbrev pub unit_parts_of : List ℕ → Row → Told (List UnitPart)
unit_parts_of s w = pick (eqb w.complex 1) (good_by (map (unit_part_of s)) (parts_of s w.arg_start w.arg_end)) (good [])

-- the record of a row whose arguments lie in the file
abbrev pub seen_record_at : List ℕ → Row → SeenRecord
seen_record_at s w = record { kind = kind_in s w; run = span w.arg_start w.arg_end; parts = unit_parts_of s w }

-- the record of a row; "9 span [..] outside the file or backwards"
abbrev pub seen_record_of : List ℕ → Row → Told SeenRecord
seen_record_of s w =
    pick (span_fine (length s) w.arg_start w.arg_end)
    (good (seen_record_at s w))
    (bad (refusal 9 0 0))

-- the record of a row that was looked up, or none
abbrev pub seen_record_found : List ℕ → Option Row → Told (Option SeenRecord)
seen_record_found s None = good None
seen_record_found s (Some w) = good_by Some (seen_record_of s w)

-- the record that an id names, by a lookup that gives its row
unfoldable pub find_of : List ℕ → (ℕ → Option Row) → ℕ → Told (Option SeenRecord)
find_of s row k = seen_record_found s (row k)

-- the record that an id names, by the rows and the slots of a table in lent memory
abbrev pub table_find : List ℕ → List ℕ → List ℕ → Ids → ℕ → Told (Option SeenRecord)
table_find s rows slots ids = find_of s (row_for rows slots ids)

-- what `f` says of the record in a row, where other records are looked up in a table in lent memory; or the refusal of the row
abbrev pub on_record : {A : Type 0} → (List ℕ → (ℕ → Told (Option SeenRecord)) → SeenRecord → Told A) → List ℕ → List ℕ → List ℕ → Ids → Row → Told A
on_record f s rows slots ids w = onward (f s (table_find s rows slots ids)) (seen_record_of s w)

-- the arguments of the first part of a kind, or none
abbrev pub first_unit_part : Kind → List UnitPart → Option Span
first_unit_part k [] = None
first_unit_part k (p ∷ ps) = pick (same_kind p.kind k) (Some p.run) (first_unit_part k ps)

-- the arguments of a record of a kind, or of a complex record's first part of that kind, once all its parts have been read
abbrev pub self_or : Kind → SeenRecord → Told (Option Span)
self_or k t = pick (same_kind t.kind k) (good (Some t.run)) (good_by (first_unit_part k) t.parts)
