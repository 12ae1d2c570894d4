use native.Mathlib.Omega.{arith}
use mathlib.Core.Path.{sym, ◌∙◌, refl}
use Rattle.utf8.specs.Laws.{tail_byte}
use Rattle.utf8.proofs.two.Goals as goal

pub overflow_sub-result-then-is_tail : goal.overflow_sub-result-then-is_tail
overflow_sub-result-then-is_tail c = (tail_byte c.args.b (sym c.is_tail.ensures ∙ c.if-is_tail.true)).0

pub overflow_add-result : goal.overflow_add-result
overflow_add-result c = omega (arith, tail_byte c.args.b (sym c.is_tail.ensures ∙ c.if-is_tail.true))

pub returns-then-is_tail : goal.returns-then-is_tail
returns-then-is_tail c = rw (sym c.is_tail.ensures ∙ c.if-is_tail.true) refl

pub returns : goal.returns
returns c = rw (sym c.is_tail.ensures ∙ c.if-is_tail.false) refl
