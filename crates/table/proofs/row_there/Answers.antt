use Prim.Native.Nat.{◌+◌, ◌*◌, ◌/◌}
use mathlib.Core.Path.{ap}
use native.Mathlib.Omega.{arith}
use native.Mathlib.Nat.{add-zero}
use native.Mathlib.Numerals.{towards_suc}
use borrow.Author.Tests.{lt-ltb}
use lib.ListN.{length, get_or}
use Rattle.statement.specs.Rows.{HeaderRow, row}
use Rattle.table.proofs.row_there.Goals as goal

pub returns : goal.returns
returns c = let a = c.args in
    rw (lt-ltb a.k (length a.rows.now / 6) (omega arith), ap (λ (h : HeaderRow). row (get_or a.rows.now (a.k * 6) 0) h.key_start h.key_end h.arg_start h.arg_end (get_or a.rows.now (a.k * 6 + 5) 0)) c.spans_at-spans.ensures) (simp (add-zero, towards_suc))
