use native.Mathlib.Omega.{arith}
use Rattle.find_many.specs.Sweep.{swept_none, swept_end, swept_more}
use Rattle.find_many.proofs.get_parts.Goals as goal

pub loop-i-init : goal.loop-i-init
loop-i-init c = (omega arith, omega arith, swept_none _ _ _ _)

pub overflow_add-to : goal.overflow_add-to
overflow_add-to c = let w = c.min.ensures in record { fits = omega (arith, w) }

pub get_part-requires : goal.get_part-requires
get_part-requires c = let l = c.loop-i in let n = l.invariant.2.size in let o = l.invariant.1 in let w = c.min.ensures in (omega arith, omega (arith, w), omega (arith, w, n, o))

pub loop-i-smaller : goal.loop-i-smaller
loop-i-smaller c = let w = c.min.ensures in omega (arith, w)

pub loop-i-preserved : goal.loop-i-preserved
loop-i-preserved c = let l = c.loop-i in let w = c.min.ensures in (omega (arith, w), l.invariant.1, swept_more _ _ _ _ _ _ _ _ (omega arith) (omega arith) l.invariant.2 c.get_part.ensures)

pub shape_of-found : goal.shape_of-found
shape_of-found c = c.loop-i.invariant.2.size

pub returns : goal.returns
returns c = let l = c.loop-i in let p = l.invariant.0 in swept_end _ _ _ _ _ _ _ l.invariant.2 (omega (arith, p))
