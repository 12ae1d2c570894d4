use Prim.Native.Nat.{ℕ, ◌+◌}
use native.Mathlib.Omega.{arith}
use mathlib.Core.Path.{◌≡◌, refl, ◌∙◌, subst}
use lib.ListN.{get_or, length-set}
use lib.Seq.{paste, paste-zero}
use Rattle.strings.specs.Put.{paste_more}
use Rattle.strings.proofs.copy.Goals as goal

pub loop-k-init : goal.loop-k-init
loop-k-init c = let a = c.args in (omega arith, (refl, paste-zero a.out.now a.at a.s.now))

pub loop-k-preserved : goal.loop-k-preserved
loop-k-preserved c =
    let l = c.loop-k in
    let a = c.args in
    let s = a.s.now in
    (omega arith, (length-set l.out (a.at + l.k) (get_or s l.k 0) ∙ l.invariant.1.0, paste_more a.out.now a.at s l.k l.out (omega arith) (omega arith) l.invariant.1.1))

pub shape_of-out : goal.shape_of-out
shape_of-out c = c.loop-k.invariant.1.0

pub returns : goal.returns
returns c =
    let l = c.loop-k in
    let a = c.args in
    let e : l.k ≡ a.n = omega (arith, l.invariant.0) in
    subst (λ (m : ℕ). l.out ≡ paste a.out.now a.at a.s.now m) e l.invariant.1.1
