use Rattle.std.proofs.Common.{sym, ◌∙◌, ap, arith, length, take, drop, ◌+◌, ◌-◌, Ok}
use Rattle.statement.specs.Rows.{Row, data_statement}
use Rattle.statement.specs.Laws.{head_fits, opening_within, within_more}
use Rattle.statement.specs.TidyLaws.{tidy_made, head_after}
use Rattle.statement.proofs.Record.tidied.Goals as goal

pub overflow_add-args : goal.overflow_add-args
overflow_add-args c = let a = c.args.self in
    let w = head_fits a.file.now a.start a.end (omega arith) (omega arith) c.in-Ok.head (sym c.in-Ok.ensures) in
    let n = opening_within (a.end - a.start) c.in-Ok.head w in
    let l = head_after a.file.now a.start a.end (Ok c.in-Ok.head) (omega arith) (omega arith) tt (sym c.in-Ok.ensures) in
    record { fits = omega arith }

pub overflow_add-args-2 : goal.overflow_add-args-2
overflow_add-args-2 c = let a = c.args.self in
    let w = head_fits a.file.now a.start a.end (omega arith) (omega arith) c.in-Ok.head (sym c.in-Ok.ensures) in
    let n = opening_within (a.end - a.start) c.in-Ok.head w in
    let l = head_after a.file.now a.start a.end (Ok c.in-Ok.head) (omega arith) (omega arith) tt (sym c.in-Ok.ensures) in
    record { fits = omega arith }

pub overflow_sub-args : goal.overflow_sub-args
overflow_sub-args c = let a = c.args.self in
    let w = head_fits a.file.now a.start a.end (omega arith) (omega arith) c.in-Ok.head (sym c.in-Ok.ensures) in
    let n = opening_within (a.end - a.start) c.in-Ok.head w in
    let l = head_after a.file.now a.start a.end (Ok c.in-Ok.head) (omega arith) (omega arith) tt (sym c.in-Ok.ensures) in
    omega arith

pub row_at-requires : goal.row_at-requires
row_at-requires c = let a = c.args.self in
    let w = head_fits a.file.now a.start a.end (omega arith) (omega arith) c.in-Ok.head (sym c.in-Ok.ensures) in
    let n = opening_within (a.end - a.start) c.in-Ok.head w in
    let l = head_after a.file.now a.start a.end (Ok c.in-Ok.head) (omega arith) (omega arith) tt (sym c.in-Ok.ensures) in
    (a.end - a.start, omega arith, w)

pub returns-clause-result_value : goal.returns-clause-result_value
returns-clause-result_value c = let a = c.args.self in
    let h = c.in-Ok.head in
    let w = head_fits a.file.now a.start a.end (omega arith) (omega arith) h (sym c.in-Ok.ensures) in
    let n = opening_within (a.end - a.start) h w in
    let m = tidy_made a.file.now a.start a.end (take (a.end - a.start) (drop a.start a.file.now)) (omega arith) (omega arith) h (within_more (a.end - a.start) (length a.file.now - a.start) h (omega arith) w) (omega arith) (sym c.in-Ok.ensures) in
    ap (λ (r : Row). data_statement r (drop a.start a.file.now) (drop (a.end + 1) a.file.now)) c.row_at.ensures ∙ (rw (← c.opening_of.ensures) at m)
