use Rattle.scalars.specs.Laws.{part_part, kernel_short, kernel_other, kernel_part}
use Rattle.scalars.specs.Scalars.{inside}
use mathlib.Core.Path.{◌≡◌, ◌∙◌, sym, ap}
use native.Mathlib.Omega.{arith}
use lib.ListN.{length, take, drop, length-drop, length-take}
use Prim.Native.Nat.{◌+◌, ◌-◌, ◌≤◌}
use Rattle.scalars.proofs.inner_of.Goals as goal

pub returns-then-n-from : goal.returns-then-n-from
returns-then-n-from c = kernel_short c.args.t.now c.first_open-from.result c.first_open-from.ensures.t_value c.first_open-from.ensures.upper_bound (omega (arith, c.if-n-from.true))

pub returns-then-t-n-ne41 : goal.returns-then-t-n-ne41
returns-then-t-n-ne41 c = kernel_other c.args.t.now c.first_open-from.result c.first_open-from.ensures.t_value c.first_open-from.ensures.upper_bound (omega arith) c.if-t-n-ne41.true

pub returns : goal.returns
returns c = let m = c.trim-w in
    let t = c.args.t.now in
    let o = c.first_open-from.result in
    let n = length t - 1 - (o + 1) in
    let q : length (take n (drop (o + 1) t)) ≡ n = simp (length-take, length-drop) (omega arith) in
    let h : m.result.stop ≤ n = omega (arith, q, m.ensures.start_le_stop.1) in (
      kernel_part t o c.first_open-from.ensures.t_value c.first_open-from.ensures.upper_bound (omega arith) c.if-t-n-ne41.false
          ∙ ap inside (sym m.ensures.b_value_2 ∙ part_part t (o + 1) n m.result.start m.result.stop m.ensures.start_le_stop.0 h),
      omega (arith, m.ensures.start_le_stop.0),
      omega (arith, h),
    )
