use native.Mathlib.Omega.{arith}
use mathlib.Core.Path.{◌≡◌, refl, ◌∙◌, ap}
use mathlib.Core.List.{List}
use Prim.Native.Nat.{ℕ}
use Rattle.statement.specs.Rows.{Row}
use Rattle.table.specs.Table.{rows_laid, row_put}
use Rattle.rows_kept.specs.KeptRows.{kept_row_at, first_rows}
use Rattle.rows_kept.specs.Laws.{no_row_laid, get_more}
use Rattle.rows_kept.proofs.get_rows.Goals as goal

pub loop-k-init : goal.loop-k-init
loop-k-init c = (omega arith, refl, no_row_laid (kept_row_at c.args.bytes.now) c.args.rows.now)

pub loop-k-preserved : goal.loop-k-preserved
loop-k-preserved c =
    let a = c.args in
    let l = c.loop-k in
    let p = c.put_row in
    let q = c.row_at in
    let r : ℕ → Row = kept_row_at a.bytes.now in
    let e =
    p.ensures
    ∙ ap (λ (w : Row). row_put l.rows l.k w) (q.ensures.result_value_2 ∙ q.ensures.result_value)
    ∙ ap (λ (z : List ℕ). row_put z l.k (r l.k)) l.invariant.2
    ∙ get_more r a.rows.now l.k (omega arith) in
    (omega arith, p.auto.out ∙ l.invariant.1, e)

pub returns : goal.returns
returns c =
    let a = c.args in
    let l = c.loop-k in
    let e : l.k ≡ a.n = omega arith in
    l.invariant.2 ∙ ap (λ (z : ℕ). rows_laid (first_rows (kept_row_at a.bytes.now) z) a.rows.now) e
