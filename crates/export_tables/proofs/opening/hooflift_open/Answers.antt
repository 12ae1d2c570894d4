use Rattle.export_tables.specs.Tables.Host.{opened}
use mathlib.Core.Path.{refl}
use Rattle.export_tables.proofs.opening.hooflift_open.Goals as goal

pub returns-in-Ok : goal.returns-in-Ok
returns-in-Ok c = let o = c.«open» in
    let g = c.in-Ok.is in
    opened c.if-tables-lt16.false o.result (record { answer = o.ensures.result_value; headers = o.ensures.headers_after; records = o.ensures.rows_after; index = o.ensures.indexed })
    (rw g refl) (rw g c.put_tables.ensures) (rw g refl) (rw g refl)

pub returns-in-Err : goal.returns-in-Err
returns-in-Err c = let o = c.«open» in
    let g = c.in-Err.is in
    opened c.if-tables-lt16.false o.result (record { answer = o.ensures.result_value; headers = o.ensures.headers_after; records = o.ensures.rows_after; index = o.ensures.indexed })
    (rw g c.put_fault.ensures.0) (rw g refl) (rw g c.reason.ensures) (rw g c.put_fault.ensures.1)
