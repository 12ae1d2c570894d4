use Prim.Native.Nat.{◌+◌}
use native.Mathlib.Omega.{arith}
use mathlib.Core.Path.{◌≡◌, refl, sym, ◌∙◌}
use lib.ListN.{get_or, length-set}
use lib.Seq.{paste-zero}
use Rattle.strings.specs.Put.{paste_more}
use Rattle.strings.specs.PlainRuns.{plain_none, plain_more}
use Rattle.strings.proofs.follow.Goals as goal

pub loop-k-init : goal.loop-k-init
loop-k-init c = let a = c.args in (omega arith, refl, plain_none a.s.now, paste-zero a.out.now a.at a.s.now)

pub shape_of-out-then-is_special : goal.shape_of-out-then-is_special
shape_of-out-then-is_special c = c.loop-k.invariant.1

pub returns-then-is_special : goal.returns-then-is_special
returns-then-is_special c = let i = c.loop-k.invariant in (i.0, i.2, i.3)

pub loop-k-preserved : goal.loop-k-preserved
loop-k-preserved c =
    let l = c.loop-k in
    let s = c.args.s.now in
    (omega arith, length-set l.out (c.args.at + l.k) (get_or s l.k 0) ∙ l.invariant.1, plain_more s l.k (omega arith) (sym c.is_special.ensures ∙ c.if-is_special.false) l.invariant.2, paste_more c.args.out.now c.args.at s l.k l.out (omega arith) (omega arith) l.invariant.3)

pub shape_of-out : goal.shape_of-out
shape_of-out c = c.loop-k.invariant.1

pub returns : goal.returns
returns c = let l = c.loop-k in
    let e : l.k ≡ c.args.m = omega (arith, l.invariant.0) in
    (omega arith, rw e at l.invariant.2, rw e at l.invariant.3)
