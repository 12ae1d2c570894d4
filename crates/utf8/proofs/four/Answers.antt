use native.Mathlib.Omega.{arith}
use mathlib.Core.Path.{refl}
use Rattle.utf8.specs.Laws.{four_tests}
use Rattle.utf8.proofs.four.Goals as goal

pub overflow_sub-result-then-is_second-is_tail : goal.overflow_sub-result-then-is_second-is_tail
overflow_sub-result-then-is_second-is_tail c = omega (arith, four_tests c.args.a c.args.b c.args.c c.args.d c.is_second.result c.is_tail.result c.is_tail-2.result c.is_second.ensures c.is_tail.ensures c.is_tail-2.ensures c.if-is_second-is_tail.true)

pub overflow_mul-result-then-is_second-is_tail : goal.overflow_mul-result-then-is_second-is_tail
overflow_mul-result-then-is_second-is_tail c = omega (arith, four_tests c.args.a c.args.b c.args.c c.args.d c.is_second.result c.is_tail.result c.is_tail-2.result c.is_second.ensures c.is_tail.ensures c.is_tail-2.ensures c.if-is_second-is_tail.true)

pub overflow_add-result : goal.overflow_add-result
overflow_add-result c = omega (arith, four_tests c.args.a c.args.b c.args.c c.args.d c.is_second.result c.is_tail.result c.is_tail-2.result c.is_second.ensures c.is_tail.ensures c.is_tail-2.ensures c.if-is_second-is_tail.true)

pub overflow_sub-result-then-is_second-is_tail-2 : goal.overflow_sub-result-then-is_second-is_tail-2
overflow_sub-result-then-is_second-is_tail-2 c = omega (arith, four_tests c.args.a c.args.b c.args.c c.args.d c.is_second.result c.is_tail.result c.is_tail-2.result c.is_second.ensures c.is_tail.ensures c.is_tail-2.ensures c.if-is_second-is_tail.true)

pub overflow_mul-result-then-is_second-is_tail-2 : goal.overflow_mul-result-then-is_second-is_tail-2
overflow_mul-result-then-is_second-is_tail-2 c = omega (arith, four_tests c.args.a c.args.b c.args.c c.args.d c.is_second.result c.is_tail.result c.is_tail-2.result c.is_second.ensures c.is_tail.ensures c.is_tail-2.ensures c.if-is_second-is_tail.true)

pub overflow_add-result-then-is_second-is_tail : goal.overflow_add-result-then-is_second-is_tail
overflow_add-result-then-is_second-is_tail c = omega (arith, four_tests c.args.a c.args.b c.args.c c.args.d c.is_second.result c.is_tail.result c.is_tail-2.result c.is_second.ensures c.is_tail.ensures c.is_tail-2.ensures c.if-is_second-is_tail.true)

pub overflow_sub-result-then-is_second-is_tail-3 : goal.overflow_sub-result-then-is_second-is_tail-3
overflow_sub-result-then-is_second-is_tail-3 c = omega (arith, four_tests c.args.a c.args.b c.args.c c.args.d c.is_second.result c.is_tail.result c.is_tail-2.result c.is_second.ensures c.is_tail.ensures c.is_tail-2.ensures c.if-is_second-is_tail.true)

pub overflow_add-result-then-is_second-is_tail-2 : goal.overflow_add-result-then-is_second-is_tail-2
overflow_add-result-then-is_second-is_tail-2 c = omega (arith, four_tests c.args.a c.args.b c.args.c c.args.d c.is_second.result c.is_tail.result c.is_tail-2.result c.is_second.ensures c.is_tail.ensures c.is_tail-2.ensures c.if-is_second-is_tail.true)

pub returns-then-is_second-is_tail : goal.returns-then-is_second-is_tail
returns-then-is_second-is_tail c = rw (four_tests c.args.a c.args.b c.args.c c.args.d c.is_second.result c.is_tail.result c.is_tail-2.result c.is_second.ensures c.is_tail.ensures c.is_tail-2.ensures c.if-is_second-is_tail.true).0 refl

pub returns : goal.returns
returns c = rw (← c.is_second.ensures, ← c.is_tail.ensures, ← c.is_tail-2.ensures, c.if-is_second-is_tail.false) refl
