use Rattle.std.proofs.Common.{◌≡◌, sym, ◌∙◌}
use Rattle.statement.specs.Rows.{row, told_row}
use native.Mathlib.Omega.{arith}
use borrow.Author.Tests.{ltb-true}
use Rattle.table.proofs.read_row.Goals as goal

pub row_there-requires : goal.row_there-requires
row_there-requires c = let h = ltb-true c.args.k _ (sym c.among_rows.ensures ∙ c.if-among_rows.true) in omega (arith, h)

pub returns : goal.returns
returns c =
    let d = c.default.ensures in
    let r : told_row c.default.result ≡ row 0 0 0 0 0 0 = cc in
    rw (sym c.among_rows.ensures ∙ c.if-among_rows.false) r
