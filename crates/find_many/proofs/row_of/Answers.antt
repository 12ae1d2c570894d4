use lib.ListN.{length}
use Rattle.table.specs.Table.{id_of, rows_fit}
use mathlib.Core.Path.{◌∙◌, ap}
use Rattle.index.specs.SearchRight.{get_first, get_later}
use Rattle.find_many.specs.Finds.{row_number}
use Rattle.find_many.proofs.row_of.Goals as goal

pub returns-then-stands : goal.returns-then-stands
returns-then-stands c = let a = c.args in
    ap row_number (get_first (id_of a.rows.now) (rows_fit (length a.rows.now)) a.slots.now a.b a.id c.first_row-r.result c.first_row-r.ensures c.stands.result c.stands.ensures c.if-stands.true)

pub returns : goal.returns
returns c = let a = c.args in
    c.number_of.ensures
    ∙ ap row_number (c.seek.ensures ∙ get_later (id_of a.rows.now) (rows_fit (length a.rows.now)) a.slots.now a.b a.id c.first_row-r.result c.first_row-r.ensures c.stands.result c.stands.ensures c.if-stands.false)
