use mathlib.Core.Path.{refl, ◌∙◌, ap}
use Rattle.statement.specs.Rows.{HeaderRow, header_row_of}
use Rattle.table.specs.Table.{header_put}
use Rattle.table.specs.Laws.{narrow_header_lem}
use Rattle.scan.proofs.put_header.Goals as goal

pub returns-then-not-write : goal.returns-then-not-write
returns-then-not-write c = record { out_after = rw c.if-not-write.true refl; value = refl }

pub returns : goal.returns
returns c =
    let a = c.args in
    let f = c.requires.1 in
    record { out_after = rw c.if-not-write.false (c.put_header.ensures ∙ ap (λ (w : HeaderRow). header_put a.out.now a.k w) (narrow_header_lem (header_row_of a.span) f.key_start f.key_end f.arg_start f.arg_end)); value = refl }
