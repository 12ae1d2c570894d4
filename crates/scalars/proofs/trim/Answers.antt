use Rattle.record.specs.HeadLaws.{trimmed_at}
use native.Mathlib.Omega.{arith}
use Prim.Native.Nat.{◌≤◌}
use Rattle.scalars.proofs.trim.Goals as goal

pub returns : goal.returns
returns c = let b = c.args.b.now in
    let l = c.leading_space-start in
    let t = c.trail_at-stop in
    let h : l.result ≤ t.result = omega (arith, l.ensures.upper_bound, t.ensures.lower_bound.0) in
    record { b_value = l.ensures.b_value; b_value_2 = trimmed_at b l.result t.result l.ensures.b_value t.ensures.b_value h t.ensures.lower_bound.1; start_le_stop = (h, t.ensures.lower_bound.1) }
