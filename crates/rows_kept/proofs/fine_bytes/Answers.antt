use native.Mathlib.Omega.{arith}
use mathlib.Core.Path.{◌≡◌, sym, ◌∙◌, ap}
use Rattle.rows_kept.specs.KeptRows.{fine_all, fine_row, kept_row_at}
use Rattle.rows_kept.specs.Laws.{fine_none, fine_more, fine_not}
use Rattle.rows_kept.proofs.fine_bytes.Goals as goal

pub loop-k-init : goal.loop-k-init
loop-k-init c = (omega arith, fine_none c.args.len (kept_row_at c.args.bytes.now))

pub returns-then-not-fine : goal.returns-then-not-fine
returns-then-not-fine c =
    let a = c.args in
    let l = c.loop-k in
    sym (fine_not a.len (kept_row_at a.bytes.now) l.k a.n c.loop-k-test.true (sym (c.fine.ensures ∙ ap (fine_row a.len) c.row_at.ensures.result_value) ∙ c.if-not-fine.true))

pub loop-k-preserved : goal.loop-k-preserved
loop-k-preserved c =
    let a = c.args in
    let l = c.loop-k in
    (omega arith, fine_more a.len (kept_row_at a.bytes.now) l.k l.invariant.1 (sym (c.fine.ensures ∙ ap (fine_row a.len) c.row_at.ensures.result_value) ∙ c.if-not-fine.false))

pub returns : goal.returns
returns c =
    let a = c.args in
    let l = c.loop-k in
    let e : l.k ≡ a.n = omega arith in
    sym l.invariant.1 ∙ ap (fine_all a.len (kept_row_at a.bytes.now)) e
