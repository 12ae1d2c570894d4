use mathlib.Core.Path.{refl, ◌∙◌, ap}
use Rattle.statement.specs.Rows.{Row, told_row}
use Rattle.table.specs.Table.{row_put}
use Rattle.table.specs.Laws.{narrow_row_lem}
use Rattle.scan.proofs.put_record.Goals as goal

pub returns-then-not-write : goal.returns-then-not-write
returns-then-not-write c = rw c.if-not-write.true refl

pub returns : goal.returns
returns c =
    let a = c.args in
    let f = c.requires in
    rw c.if-not-write.false (c.put_row.ensures ∙ ap (λ (w : Row). row_put a.out.now a.k w) (narrow_row_lem (told_row a.span) f.key_start f.key_end f.arg_start f.arg_end))
