-- Header records in a slice of structs: record i, and its row.
-- Assumes nothing.
-- Definitions to be believed: no law, and nothing computed that no theorem ties (docs/BELIEVE.md).
use Rattle.std.specs.Prelude.{ℕ, List, get_or}
use Rattle.statement.specs.Rows.{HeaderRow, header_row_of}
use Rattle.statement.specs.declared.HeaderSpan.{HeaderSpan}

-- a record whose places are all 0
abbrev pub no_span : HeaderSpan
no_span = record { keyword = record { start = 0; end = 0 }; args = record { start = 0; end = 0 } }

-- record i of a slice; past its end one whose places are all 0
abbrev pub span_at : List HeaderSpan → ℕ → HeaderSpan
span_at hs i = get_or hs i no_span

-- the row of record i of a slice
abbrev pub head_at : List HeaderSpan → ℕ → HeaderRow
head_at hs i = header_row_of (span_at hs i)
