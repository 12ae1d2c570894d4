use mathlib.Core.Path.{sym, refl, ◌∙◌}
use native.Mathlib.Omega.{arith}
use borrow.Author.Tests.{ltb-true}
use Rattle.table.proofs.put_row.Goals as goal

pub store_row-requires : goal.store_row-requires
store_row-requires c = let h = ltb-true c.args.k _ (sym c.among_rows.ensures ∙ c.if-among_rows.true) in omega (arith, h)

pub returns-then-among_rows : goal.returns-then-among_rows
returns-then-among_rows c = rw (sym c.among_rows.ensures ∙ c.if-among_rows.true) c.store_row.ensures

pub returns-else-among_rows : goal.returns-else-among_rows
returns-else-among_rows c = rw (sym c.among_rows.ensures ∙ c.if-among_rows.false) refl
