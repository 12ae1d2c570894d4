-- Header records looked up by keyword: `head` tells header row i, and there are n.
-- Assumes nothing.
-- Definitions to be believed: no law, and nothing computed that no theorem ties (docs/BELIEVE.md).
use Rattle.std.specs.Prelude.{ℕ, Bool, ◌&&◌, List, map, length, Option, Some, None}
use Rattle.error.specs.Refusal.{Told, good}
use Rattle.record.specs.Word.{same_bytes}
use Rattle.record.specs.Byte.{upper}
use Rattle.statement.specs.Rows.{mapped, HeaderRow}
use Rattle.table.specs.Table.{header_rows, header_numbers}
use Rattle.lookup.specs.Lookup.{FileSpan, span_fine, span_in, bytes_between}
use Rattle.lookup.specs.First.{first_from}

-- "letters in either case": a header row of the file s has this keyword; one whose keyword lies outside the file has none
abbrev pub header_named : List ℕ → List ℕ → HeaderRow → Bool
header_named s name w = span_fine (length s) w.key_start w.key_end && same_bytes (map upper (bytes_between s w.key_start w.key_end)) (map upper name)

-- header row i has this keyword
abbrev pub is_header : List ℕ → (ℕ → HeaderRow) → List ℕ → ℕ → Bool
is_header s head name i = header_named s name (head i)

-- "The first header record with a given keyword": its number among n header rows
abbrev pub header_first : List ℕ → (ℕ → HeaderRow) → ℕ → List ℕ → Option ℕ
header_first s head n name = first_from (is_header s head name) n 0

-- the first header record with a given keyword, in a table in lent memory of which n rows are told
abbrev pub header_found : List ℕ → List ℕ → ℕ → List ℕ → Option ℕ
header_found s heads n name = header_first s (header_numbers heads) (header_rows heads n) name

-- a header row's arguments, or 9
abbrev pub header_arguments : ℕ → HeaderRow → Told (Option FileSpan)
header_arguments len w = mapped Some (span_in len w.arg_start w.arg_end)

-- the arguments of a header record that was found: none, 9, or the span
abbrev pub header_args : ℕ → (ℕ → HeaderRow) → Option ℕ → Told (Option FileSpan)
header_args len head None = good None
header_args len head (Some i) = header_arguments len (head i)

-- the arguments of the first header record with a keyword, over a table in lent memory of which n rows are told
abbrev pub args_found : List ℕ → List ℕ → ℕ → List ℕ → Told (Option FileSpan)
args_found s heads n name = header_args (length s) (header_numbers heads) (header_found s heads n name)
