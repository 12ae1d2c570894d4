use Rattle.params.specs.Seek.{step_binary, step_binary_open}
use Rattle.std.proofs.Common.{refl}
use native.Mathlib.Omega.{arith}
use Rattle.params.proofs.binary_step.Goals as goal

pub returns-then-q-part : goal.returns-then-q-part
returns-then-q-part c = let p = c.requires in
    let s = c.args.s in
    (refl, step_binary_open c.args.part.now s.at s.solid s.depth p.standing.place c.find_byte-q.result p.byte c.find_byte-q.ensures.s_value (omega arith))

pub returns : goal.returns
returns c = let p = c.requires in
    let s = c.args.s in
    let k = p.standing in
    let (a, b) = c.find_byte-q.ensures.lower_bound in
    rw c.to.ensures (
      step_binary c.args.part.now s.at s.solid s.depth p.standing.place c.find_byte-q.result p.byte c.find_byte-q.ensures.s_value (omega (arith, b)),
      omega (arith, a, k.place),
      omega (arith, b),
      omega (arith, a, k.place, k.reach),
      omega arith,
      omega arith,
    )
