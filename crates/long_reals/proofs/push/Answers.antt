use mathlib.Core.Path.{sym}
use native.Mathlib.Omega.{arith}
use lib.Seq.{length-take-le}
use Rattle.long_reals.specs.Steps.{pushed}
use Rattle.long_reals.proofs.push.Goals as goal

-- `long_reals::push` meets its contract: what no longer fits is the digit above. Assumes nothing.

pub slice_bounds-scale-end-2 : goal.slice_bounds-scale-end-2
slice_bounds-scale-end-2 c = let p = c.args in sym (length-take-le p.used p.a.now (omega (arith, c.requires)))

pub returns : goal.returns
returns c =
    let p = c.args in
    let s = c.scale-carry in
    pushed p.a.now p.used p.by p.add s.new.a s.result c.requires s.ensures
