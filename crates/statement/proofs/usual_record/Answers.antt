use Rattle.std.proofs.Common.{ap, ◌∙◌, arith, drop, ◌+◌}
use Rattle.statement.specs.Rows.{Row, data_statement, told_row}
use Rattle.statement.specs.Laws.{row_ends}
use Rattle.statement.specs.UsualRight.{walked, run_free, usual_said, tidy_walked}
use Rattle.statement.proofs.usual_record.Goals as goal

pub head_before-requires : goal.head_before-requires
head_before-requires c = let a = c.args in
    let r = c.plain_run-opening in
    run_free a.s.now a.start r.result r.ensures.s_value r.ensures.lower_bound.0 r.ensures.lower_bound.1

pub returns : goal.returns
returns c = let a = c.args in
    let s = a.s.now in
    let r = c.plain_run-opening in
    let k = c.in_ok-close.ensures in
    let l = c.plain_run-end in
    let g = c.in_ok-head.head in
    let e = c.in_ok-close.close in
    let w = walked s a.start r.result e l.result c.if-s-start-ne35.false r.ensures.s_value r.ensures.lower_bound.0 (omega arith) (omega arith)
    (k.1, k.2, k.3) k.0 l.ensures.s_value l.ensures.lower_bound.0 (omega arith) (omega arith) in (
      ap (λ (v : Row). data_statement v (drop a.start s) (drop (l.result + 1) s)) c.row_at.ensures ∙ usual_said s a.start r.result e l.result w g c.in_ok-head.ensures,
      omega arith,
      omega arith,
      tidy_walked s a.start r.result e l.result w (told_row c.row_at.result) (ap (λ (v : Row). v.arg_end) c.row_at.ensures ∙ row_ends a.start g (r.result + 1) e),
    )
