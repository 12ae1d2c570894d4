use native.Mathlib.Omega.{arith}
use mathlib.Core.Path.{◌≡◌, refl, ◌∙◌, ap}
use mathlib.Core.List.{List}
use Prim.Native.Nat.{ℕ, ◌*◌}
use lib.Seq.{sets}
use Rattle.statement.specs.Rows.{Row}
use Rattle.table.specs.Table.{row_numbers}
use Rattle.rows_kept.specs.KeptRows.{row_bytes, kept_bytes, first_rows, bytes_after}
use Rattle.rows_kept.specs.Laws.{put_more}
use Rattle.rows_kept.proofs.put_rows.Goals as goal

pub loop-k-init : goal.loop-k-init
unfolding first_rows kept_bytes
loop-k-init c = (omega arith, refl, refl)

pub loop-k-preserved : goal.loop-k-preserved
loop-k-preserved c =
    let a = c.args in
    let l = c.loop-k in
    let p = c.put_bytes in
    let r : ℕ → Row = row_numbers a.rows.now in
    let e =
    p.ensures
    ∙ ap (λ (w : Row). sets l.out (l.k * 24) (row_bytes w)) c.read_row.ensures
    ∙ ap (λ (z : List ℕ). sets z (l.k * 24) (row_bytes (r l.k))) l.invariant.2
    ∙ put_more r a.out.now l.k (omega arith) in
    (omega arith, p.auto.out ∙ l.invariant.1, e)

pub returns : goal.returns
returns c =
    let a = c.args in
    let l = c.loop-k in
    let e : l.k ≡ a.n = omega arith in
    l.invariant.2 ∙ ap (λ (z : ℕ). bytes_after (first_rows (row_numbers a.rows.now) z) a.out.now) e
