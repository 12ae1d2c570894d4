-- Rows looked up: by number, by id, by kind.
-- Assumes nothing.
-- Definitions to be believed: no law, and nothing computed that no theorem ties (docs/BELIEVE.md).
use Rattle.std.specs.Prelude.{ℕ, ◌-◌, ◌≤◌, ◌<◌, ◌≡◌, Bool, true, false, ◌&&◌, List, ltb, leb, eqb, length, take, drop, Option, Some, None}
use Rattle.common.specs.Pick.{pick}
use Rattle.error.specs.Refusal.{refusal, Told, good, bad}
use Rattle.statement.specs.Rows.{Row}
use Rattle.statement.specs.declared.Range.{Range}
use Rattle.table.specs.Table.{table_rows, row_numbers}
use Rattle.index.specs.Search.{searched}
use Rattle.index.specs.declared.Ids.{Ids}
use Rattle.kinds.specs.Kind.{kind_of_keyword}
use Rattle.kinds.specs.Rules.{rank_of}
use Rattle.kinds.specs.declared.Kind.{Kind}
use Rattle.kinds.specs.declared.Kind.TheVariants.{Complex, Other}

-- the row with a number; none past the table
abbrev pub row_in : List ℕ → ℕ → ℕ → Option Row
row_in rows n k = pick (ltb k (table_rows rows n)) (Some (row_numbers rows k)) None

-- the row whose number a lookup gave, or none
abbrev pub row_found : List ℕ → Option ℕ → Option Row
row_found rows None = None
row_found rows (Some k) = Some (row_numbers rows k)

-- the row of an id, by the lookup in the lent tables
abbrev pub row_for : List ℕ → List ℕ → Ids → ℕ → Option Row
row_for rows slots ids k = row_found rows (searched rows slots ids k)

-- "14 arguments asked of an id with no record, 0": what is made of a row that was looked up, or of none
abbrev pub required : Option Row → Told Row
required None = bad (refusal 14 0 0)
required (Some w) = good w

-- a part of the file: start and end
abbrev pub FileSpan : Type 0
FileSpan = Range

-- a part of the file from its start and its end
abbrev pub file_span : ℕ → ℕ → FileSpan
file_span a z = record { start = a; end = z }

-- a span that lies in a file of this length and runs forwards
abbrev pub span_fine : ℕ → ℕ → ℕ → Bool
span_fine len a z = leb a z && leb z len

-- "9 span [..] outside the file or backwards": what is made of a span, in a file of this length
abbrev pub span_in : ℕ → ℕ → ℕ → Told FileSpan
span_in len a z = pick (span_fine len a z) (good (file_span a z)) (bad (refusal 9 0 0))

-- the arguments of a row that was looked up: 14, 9, or the span
abbrev pub args_by : ℕ → Option Row → Told FileSpan
args_by len None = bad (refusal 14 0 0)
args_by len (Some w) = span_in len w.arg_start w.arg_end

-- the bytes of the file from a up to z
abbrev pub bytes_between : List ℕ → ℕ → ℕ → List ℕ
bytes_between s a z = take (z - a) (drop a s)

-- a row's kind: a complex record's own, else that of its keyword; one outside the file is `Other`
abbrev pub kind_in : List ℕ → Row → Kind
kind_in s w = pick (eqb w.complex 1) Complex (pick (span_fine (length s) w.key_start w.key_end) (kind_of_keyword (bytes_between s w.key_start w.key_end)) Other)

-- the kind of a row that was looked up
abbrev pub kind_found : List ℕ → Option Row → Kind
kind_found s None = Other
kind_found s (Some w) = kind_in s w

-- row i is of the kind k
abbrev pub row_is_kind : List ℕ → List ℕ → Kind → ℕ → Bool
row_is_kind s rows k i = eqb (rank_of (kind_in s (row_numbers rows i))) (rank_of k)

-- the first row of which a test holds (`first_from` computes it), without a loop: a row from i on and before z of which it holds, and of none before; or of none at all
abbrev pub FirstForm : (ℕ → Bool) → ℕ → ℕ → Option ℕ → Type 0
FirstForm p i z None = (j : ℕ) → i ≤ j → j < z → p j ≡ false
FirstForm p i z (Some k) = (i ≤ k) × (k < z) × (p k ≡ true) × ((j : ℕ) → i ≤ j → j < k → p j ≡ false)
