use Rattle.argument_sizes.specs.Laws.{sizes_complex, sizes_simple}
use Rattle.argument_sizes.proofs.record_sizes.Goals as goal

pub returns-then-complex-eq1 : goal.returns-then-complex-eq1
returns-then-complex-eq1 c = rw (c.larger_each.ensures, c.parts_sizes.ensures, c.args_sizes-whole.ensures) (sizes_complex _ _ _ _ c.if-complex-eq1.true)

pub returns : goal.returns
returns c = rw c.args_sizes-whole.ensures (sizes_simple _ _ _ _ c.if-complex-eq1.false)
