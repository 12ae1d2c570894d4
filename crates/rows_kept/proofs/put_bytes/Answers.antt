use Prim.Native.Nat.{◌*◌}
use Rattle.statement.specs.Rows.{told_row}
use Rattle.rows_kept.specs.Laws.{row_stored}
use Rattle.rows_kept.proofs.put_bytes.Goals as goal

pub returns : goal.returns
returns c =
    let a = c.args in
    rw (c.put_number-6.ensures, c.put_number-5.ensures, c.put_number-4.ensures, c.put_number-3.ensures, c.put_number-2.ensures, c.put_number.ensures)
    (row_stored a.out.now (a.k * 24) (told_row a.w))
