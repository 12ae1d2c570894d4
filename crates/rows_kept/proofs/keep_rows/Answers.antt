use mathlib.Core.Path.{sym, ◌∙◌, ap}
use Prim.Native.Nat.{ℕ}
use lib.ListN.{length}
use Rattle.error.specs.Refusal.{Told}
use Rattle.statement.specs.Rows.{Row}
use Rattle.table.specs.Table.{table_rows, row_numbers}
use Rattle.rows_kept.specs.KeptRows.{kept_after}
use Rattle.rows_kept.specs.Laws.{keep_nine, keep_short, keep_good}
use Rattle.rows_kept.proofs.keep_rows.Goals as goal

pub returns-then-not-fine_table : goal.returns-then-not-fine_table
returns-then-not-fine_table c =
    let a = c.args in
    let r : ℕ → Row = row_numbers a.rows.now in
    let n = c.table_rows-n in
    let e = keep_nine a.len r (table_rows a.rows.now a.count) (length a.out.now) n.result n.ensures (sym c.fine_table.ensures ∙ c.if-not-fine_table.true) in
    record { result_value = sym e; out_after = sym (ap (λ (t : Told ℕ). kept_after r t a.out.now) e) }

pub returns-then-out-n : goal.returns-then-out-n
returns-then-out-n c =
    let a = c.args in
    let r : ℕ → Row = row_numbers a.rows.now in
    let n = c.table_rows-n in
    let e = keep_short a.len r (table_rows a.rows.now a.count) (length a.out.now) n.result n.ensures (sym c.fine_table.ensures ∙ c.if-not-fine_table.false) c.if-out-n.true in
    record { result_value = sym e; out_after = sym (ap (λ (t : Told ℕ). kept_after r t a.out.now) e) }

pub returns : goal.returns
returns c =
    let a = c.args in
    let r : ℕ → Row = row_numbers a.rows.now in
    let n = c.table_rows-n in
    let e = keep_good a.len r (table_rows a.rows.now a.count) (length a.out.now) n.result n.ensures (sym c.fine_table.ensures ∙ c.if-not-fine_table.false) c.if-out-n.false in
    record { result_value = sym e; out_after = c.put_rows.ensures ∙ sym (ap (λ (t : Told ℕ). kept_after r t a.out.now) e) }
