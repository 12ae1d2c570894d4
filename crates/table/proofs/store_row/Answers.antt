use Prim.Native.Nat.{◌*◌}
use Rattle.statement.specs.Rows.{told_row}
use Rattle.table.specs.Table.{six, narrow_row}
use mathlib.Core.Path.{◌∙◌, ap}
use lib.ListN.{length, length-set}
use lib.Seq.{length-sets}
use native.Mathlib.Numerals.{towards_suc}
use native.Mathlib.Omega.{arith}
use Rattle.table.proofs.store_row.Goals as goal

pub bounds-out-at-2 : goal.bounds-out-at-2
bounds-out-at-2 c = simp (c.store_spans.ensures, length-sets, length-set) (omega arith)

pub returns : goal.returns
returns c = rw c.store_spans.ensures (simp towards_suc)

pub shape_of-out : goal.shape_of-out
shape_of-out c = let a = c.args in
    ap length (returns c) ∙ length-sets a.out.now (a.k * 6) (six (narrow_row (told_row a.w)))
