-- Document 01, 'Reading the file': the rows that records give, by kind, and what a statement says. Definitions only.
-- Assumes nothing.
-- Definitions to be believed: no law, and nothing computed that no theorem ties (docs/BELIEVE.md).
use Rattle.std.specs.Prelude.{ℕ, List}
use Rattle.std.proofs.Math.Option.{Option, none}
use Rattle.error.specs.Refusal.{Refusal, Told, good, bad}
use Rattle.statement.specs.declared.Section.{Section}
use Rattle.statement.specs.declared.Section.TheVariants.{InHeader, InData}
use Rattle.statement.specs.declared.HeaderSpan.{HeaderSpan}
use Rattle.statement.specs.declared.RecordSpan.{RecordSpan}

-- "A row holds id, keyword start and end (0, 0 if complex), argument start and end, complex 0 or 1."
pub record Row : Type 0 where
  pub id : ℕ
  pub key_start : ℕ
  pub key_end : ℕ
  pub arg_start : ℕ
  pub arg_end : ℕ
  pub complex : ℕ

-- a data record's row from its six numbers
abbrev pub row : ℕ → ℕ → ℕ → ℕ → ℕ → ℕ → Row
row i k l a b c = record { id = i; key_start = k; key_end = l; arg_start = a; arg_end = b; complex = c }

-- a header record's row: keyword start and end, argument start and end
pub record HeaderRow : Type 0 where
  pub key_start : ℕ
  pub key_end : ℕ
  pub arg_start : ℕ
  pub arg_end : ℕ

-- a header record's row from its four numbers
abbrev pub header_row : ℕ → ℕ → ℕ → ℕ → HeaderRow
header_row k l a b = record { key_start = k; key_end = l; arg_start = a; arg_end = b }

-- what a statement says: the reading ends; it is refused; the section is now this one; or there is a row, of the record that
-- starts with the rest ys. The last list of each is the rest after the statement
pub data Stmt : Type 0 where
  reading_ends : Stmt
  statement_refused : Refusal → Stmt
  section_now : Section → List ℕ → Stmt
  header_statement : HeaderRow → List ℕ → List ℕ → Stmt
  data_statement : Row → List ℕ → List ℕ → Stmt

-- "The closing `)` is sought [..] through the whole file, even past the record's `;`": so there is no bound. A bound would be the rest
-- of the file from which on it is sought no more; ys is the file from the record's start, and body the record's text
abbrev pub bound : List ℕ → List ℕ → Option (List ℕ)
bound ys body = none

-- the kinds of records that give a row
pub data RowKind : Type 0 where
  header_kind : RowKind
  data_kind : RowKind

-- what a row of the kind holds
abbrev pub RowOf : RowKind → Type 0
RowOf header_kind = HeaderRow
RowOf data_kind = Row

-- a statement that gives a row of the kind: that of the record that starts with the rest ys, and the rest t after it
abbrev pub rowed : (k : RowKind) → RowOf k → List ℕ → List ℕ → Stmt
rowed header_kind w ys t = header_statement w ys t
rowed data_kind w ys t = data_statement w ys t

-- the section that records of the kind stand in
abbrev pub section_of : RowKind → Section
section_of header_kind = InHeader
section_of data_kind = InData

-- an answer's value by a function, or its refusal
abbrev pub mapped : {A B : Type 0} → (A → B) → Told A → Told B
mapped f (good a) = good (f a)
mapped f (bad q) = bad q

-- the row that the code's answer for a data record holds
abbrev pub told_row : RecordSpan → Row
told_row r = row r.id r.keyword.start r.keyword.end r.args.start r.args.end r.complex

-- the row that the code's answer for a header record holds
abbrev pub header_row_of : HeaderSpan → HeaderRow
header_row_of r = header_row r.keyword.start r.keyword.end r.args.start r.args.end
