use Rattle.std.proofs.Common.{rules, ◌≡◌, sym, ◌∙◌, arith, Err}
use Rattle.scan.specs.Scan.{scan_long, scan_unmarked, scan_refused, scan_done}
use Rattle.scan.proofs.scan.Goals as goal

pub returns-then-file-gt4294967295 : goal.returns-then-file-gt4294967295
returns-then-file-gt4294967295 c = let a = c.args in
    let q = scan_long a.file.now _ _ a.headers.now a.rows.now c.if-file-gt4294967295.true in record { result_value = q.0; headers_after = q.1.0; rows_after = q.1.1 }

pub returns-then-not-is_marked : goal.returns-then-not-is_marked
returns-then-not-is_marked c = let a = c.args in
    let q = scan_unmarked a.file.now _ _ a.headers.now a.rows.now (omega arith) (sym c.is_marked.ensures ∙ c.if-not-is_marked.true) in record { result_value = q.0; headers_after = q.1.0; rows_after = q.1.1 }

pub returns-in_err-tidy : goal.returns-in_err-tidy
returns-in_err-tidy c = let a = c.args in
    let k : c.from_residual.result ≡ Err c.in_err-tidy.field-0.0 = search rules in
    let q = scan_refused a.file.now _ _ a.headers.now a.rows.now (omega arith) (sym c.is_marked.ensures ∙ c.if-not-is_marked.false) _ _ _
    (c.in_err-tidy.ensures.result_value, (c.pass.ensures.pass_writes, c.pass.ensures.pass_writes_2)) in record { result_value = rw k q.0; headers_after = q.1.0; rows_after = q.1.1 }

pub pass-requires-2 : goal.pass-requires-2
pass-requires-2 c = (omega arith, λ z. c.in_ok-tidy.ensures.neat_told (sym c.storing.ensures.knowing ∙ z))

pub returns : goal.returns
returns c = let a = c.args in
    let e = c.in_ok-counts.ensures in
    let r = rw (c.pass.ensures.pass_writes, c.pass.ensures.pass_writes_2) at e.result_value in
    let x = rw (c.pass.ensures.pass_writes, c.pass.ensures.pass_writes_2, c.storing.ensures.writing) at e.pass_writes in
    let y = rw (c.pass.ensures.pass_writes, c.pass.ensures.pass_writes_2, c.storing.ensures.writing) at e.pass_writes_2 in
    let q = scan_done a.file.now _ _ a.headers.now a.rows.now (omega arith) (sym c.is_marked.ensures ∙ c.if-not-is_marked.false) _ _ _ _
    c.in_ok-tidy.ensures.result_value (r, (x, y)) in record { result_value = q.0; headers_after = q.1.0; rows_after = q.1.1 }
