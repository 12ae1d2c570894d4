-- Header records for a host in another language.
-- Assumes nothing.
-- Definitions to be believed: no law, and nothing computed that no theorem ties (docs/BELIEVE.md).
use Rattle.std.specs.Prelude.{ℕ, List, Option, Some, None}
use Rattle.std.proofs.Math.Option as maybe
use Rattle.error.specs.Refusal.{Told, good, bad}
use Rattle.statement.specs.Rows.{HeaderRow}
use Rattle.lookup.specs.Lookup.{FileSpan}
use Rattle.headers.specs.Header.{header_found, args_found}
use Rattle.host_numbers.specs.Numbers.{tables_by}

-- the row of the first header record with a keyword, by a host's tables and numbers
abbrev pub host_header_row : List ℕ → List ℕ → List ℕ → List ℕ → Option ℕ
host_header_row s headers tables name = header_found s headers (tables_by tables).headers name

-- where the arguments of the first header record with a keyword stand, by a host's tables and numbers; none; or 9
abbrev pub host_header_args : List ℕ → List ℕ → List ℕ → List ℕ → Told (Option FileSpan)
host_header_args s headers tables name = args_found s headers (tables_by tables).headers name

-- a part, none, or a refusal, as the definitions of parts have it, with the library's own option
abbrev pub told_part : Told (maybe.Option HeaderRow) → Told (Option HeaderRow)
told_part (good maybe.none) = good None
told_part (good (maybe.some w)) = good (Some w)
told_part (bad q) = bad q
