-- What the parameters of a record need of lent memory: the longest text, the most numbers of a list or a grid, and the most rows of a grid,
-- computed; Rules.antt says what they are without a walk.
-- Assumes nothing.
use Rattle.std.specs.Prelude.{ℕ, zero, suc, ◌+◌, List, eqb, length}
use Rattle.std.proofs.Math.Option.{Option, none, some}
use Rattle.common.specs.Pick.{pick}
use Rattle.error.specs.Refusal.{Told, good, bad}
use Rattle.statement.specs.Rows.{HeaderRow}
use Rattle.params.specs.Answer.{Span}
use Rattle.params.specs.Reader.{param_of}
use Rattle.words.specs.Answer.{span_bytes}
use Rattle.parts.specs.Part.{next_part_of}
use Rattle.grids.specs.Grid.{flat}
use Rattle.argument_sizes.specs.Rules.{text_len, grid_rows, numbers_len, rows_len, sizes, greater_sizes, no_sizes}
use Rattle.argument_sizes.specs.declared.Sizes.{Sizes}

-- ---- a parameter
-- what a parameter needs
abbrev pub sizes_of : List ℕ → Sizes
sizes_of t = sizes (text_len t) (numbers_len t) (rows_len t)

-- ---- those of a record
-- what a parameter and those after it need; nothing where it is refused
abbrev pub arg_sizes_by : List ℕ → Told Span → Sizes → Sizes
arg_sizes_by s (good a) rest = greater_sizes (sizes_of (span_bytes s a)) rest
arg_sizes_by s (bad q) rest = no_sizes

-- what the next k parameters need, as far as they are read
unfoldable pub args_from : ℕ → List ℕ → ℕ → ℕ → Sizes
args_from zero s p e = no_sizes
args_from (suc k) s p e = arg_sizes_by s (param_of s p e).answer (args_from k s (param_of s p e).place e)

-- what all parameters from p up to e need: each takes a byte at least
abbrev pub args_of : List ℕ → ℕ → ℕ → Sizes
args_of s p e = args_from (length s) s p e

-- what a part and those after it need, as f says; nothing where there is none, or it is refused
abbrev pub part_sizes_by : Told (Option HeaderRow) → (HeaderRow → Sizes) → Sizes
part_sizes_by (good none) f = no_sizes
part_sizes_by (good (some w)) f = f w
part_sizes_by (bad q) f = no_sizes

-- what the next k parts need, as far as they are read
unfoldable pub part_sizes_from : ℕ → List ℕ → ℕ → ℕ → Sizes
part_sizes_from zero s p e = no_sizes
part_sizes_from (suc k) s p e = part_sizes_by (next_part_of s p e) (λ w. greater_sizes (args_of s w.arg_start w.arg_end) (part_sizes_from k s (w.arg_end + 1) e))

-- what all parts from p up to e need: each takes a byte at least
abbrev pub part_sizes_of : List ℕ → ℕ → ℕ → Sizes
part_sizes_of s p e = part_sizes_from (length s) s p e

-- what a record needs: a complex one may be read as it stands, and part by part
unfoldable pub record_sizes_of : List ℕ → ℕ → ℕ → ℕ → Sizes
record_sizes_of s p e complex = pick (eqb complex 1) (greater_sizes (args_of s p e) (part_sizes_of s p e)) (args_of s p e)

-- what a grid alone needs, for the code
abbrev pub grid_len : List ℕ → Sizes
grid_len t = sizes 0 (length (flat (grid_rows t))) (length (grid_rows t))
