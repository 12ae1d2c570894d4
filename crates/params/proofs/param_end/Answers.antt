use Rattle.params.specs.Seek.{step_comma, step_plain, onward_over, onward_starts}
use lib.ListN.{length, drop}
use Prim.Native.Nat.{ℕ}
use mathlib.Core.Path.{◌≡◌, ◌∙◌, sym, ap}
use native.Mathlib.Omega.{arith}
use Rattle.std.proofs.Common.{eqb, get_or, eqb-true}
use Rattle.common.specs.Tests.{both}
use Rattle.lex.specs.Seek.{drop_within}
use Rattle.params.proofs.param_end.Goals as goal

pub loop-s-init : goal.loop-s-init
loop-s-init c = let s = c.args.part.now in
    let w = c.min-from.ensures in (
      omega arith,
      omega arith,
      omega (arith, w),
      omega arith,
      onward_starts s c.args.start c.min-from.result (ap (λ (k : ℕ). drop k s) w ∙ drop_within s c.args.start),
    )

pub loop-s-preserved-then-b-gt47 : goal.loop-s-preserved-then-b-gt47
loop-s-preserved-then-b-gt47 c = let l = c.loop-s in
    let s = c.args.part.now in
    let p = c.past_plain.ensures in
    let r = p.0 in
    let v = l.invariant in
    let f = v.0 in
    let o = v.1 in
    let d = v.3 in
    rw c.to-s.ensures (omega (arith, r, f, o), omega arith, p.1, omega (arith, r, d), sym (p.2 l.s.depth) ∙ sym (step_plain s l.s.at l.s.solid l.s.depth (omega arith) c.if-b-gt47.true) ∙ v.4)

pub returns-after-loop-s-clause-result_value : goal.returns-after-loop-s-clause-result_value
returns-after-loop-s-clause-result_value c = let l = c.loop-s.s in
    let s = c.args.part.now in
    let k : l.at ≡ length s = omega (arith, c.loop-s.invariant.2) in
    rw k (sym (onward_over s l.at l.solid l.depth (omega arith)) ∙ c.loop-s.invariant.4)

pub returns-then-b-s-clause-result_value : goal.returns-then-b-s-clause-result_value
returns-then-b-s-clause-result_value c = let l = c.loop-s.s in
    let s = c.args.part.now in
    let (a, b) = both (eqb (get_or s l.at 0) 44) (eqb l.depth 0) c.if-b-s.true in
    sym (step_comma s l.at l.solid l.depth c.loop-s-test.true (eqb-true (get_or s l.at 0) 44 a) (eqb-true l.depth 0 b)) ∙ c.loop-s.invariant.4
