use native.Mathlib.Omega.{arith}
use mathlib.Core.Path.{sym, ◌∙◌, ap}
use Prim.Native.Nat.{ℕ}
use lib.ListN.{length}
use Rattle.error.specs.Refusal.{Told}
use Rattle.table.specs.Table.{rows_fit}
use Rattle.rows_kept.specs.KeptRows.{read_after}
use Rattle.rows_kept.specs.Laws.{read_over, read_nine, read_short, read_good}
use Rattle.rows_kept.proofs.read_rows.Goals as goal

pub returns-then-bytes-ne0 : goal.returns-then-bytes-ne0
returns-then-bytes-ne0 c =
    let a = c.args in
    let s = a.bytes.now in
    let e = read_over a.len s (rows_fit (length a.rows.now)) (λ e. c.if-bytes-ne0.true (omega arith)) in
    record { result_value = sym e; rows_after = sym (ap (λ (t : Told ℕ). read_after s t a.rows.now) e) }

pub returns-then-not-fine_bytes : goal.returns-then-not-fine_bytes
returns-then-not-fine_bytes c =
    let a = c.args in
    let s = a.bytes.now in
    let e = read_nine a.len s (rows_fit (length a.rows.now)) c.if-bytes-ne0.false (sym c.fine_bytes.ensures ∙ c.if-not-fine_bytes.true) in
    record { result_value = sym e; rows_after = sym (ap (λ (t : Told ℕ). read_after s t a.rows.now) e) }

pub returns-then-rows_fit-n : goal.returns-then-rows_fit-n
returns-then-rows_fit-n c =
    let a = c.args in
    let s = a.bytes.now in
    let e = read_short a.len s (rows_fit (length a.rows.now)) c.if-bytes-ne0.false (sym c.fine_bytes.ensures ∙ c.if-not-fine_bytes.false) (omega (arith, c.if-rows_fit-n.true, c.rows_fit.ensures)) in
    record { result_value = sym e; rows_after = sym (ap (λ (t : Told ℕ). read_after s t a.rows.now) e) }

pub returns : goal.returns
returns c =
    let a = c.args in
    let s = a.bytes.now in
    let e = read_good a.len s (rows_fit (length a.rows.now)) c.if-bytes-ne0.false (sym c.fine_bytes.ensures ∙ c.if-not-fine_bytes.false) (omega (arith, c.if-rows_fit-n.false, c.rows_fit.ensures)) in
    record { result_value = sym e; rows_after = c.get_rows.ensures ∙ sym (ap (λ (t : Told ℕ). read_after s t a.rows.now) e) }
