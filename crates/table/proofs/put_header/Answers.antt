use mathlib.Core.Path.{sym, refl, ◌∙◌}
use native.Mathlib.Omega.{arith}
use borrow.Author.Tests.{ltb-true}
use Rattle.table.proofs.put_header.Goals as goal

pub overflow_mul-k : goal.overflow_mul-k
overflow_mul-k c = let h = ltb-true c.args.k _ (sym c.has_header.ensures ∙ c.if-has_header.true) in record { fits = omega (arith, h) }

pub store_spans-requires : goal.store_spans-requires
store_spans-requires c = let h = ltb-true c.args.k _ (sym c.has_header.ensures ∙ c.if-has_header.true) in omega (arith, h)

pub returns-then-has_header : goal.returns-then-has_header
returns-then-has_header c = rw (sym c.has_header.ensures ∙ c.if-has_header.true) c.store_spans.ensures

pub returns-else-has_header : goal.returns-else-has_header
returns-else-has_header c = rw (sym c.has_header.ensures ∙ c.if-has_header.false) refl
