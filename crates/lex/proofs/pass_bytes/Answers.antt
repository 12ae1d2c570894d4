use Rattle.lex.specs.ByteSearch.{lacks_none, lacks_next}
use native.Mathlib.Omega.{arith}
use Rattle.lex.proofs.pass_bytes.Goals as goal

pub loop-i-init : goal.loop-i-init
loop-i-init c = (omega arith, omega arith, lacks_none _ _ _ _ (omega arith))

pub returns-then-s-i : goal.returns-then-s-i
returns-then-s-i c = let l = c.loop-i in
    record { on = l.invariant.0; inside = l.invariant.1; lacks = l.invariant.2; here = λ _. c.if-s-i.true }

pub loop-i-preserved : goal.loop-i-preserved
loop-i-preserved c = let l = c.loop-i in
    (omega (arith, l.invariant.0), omega arith, lacks_next _ _ _ _ l.invariant.2 c.if-s-i.false)

pub returns : goal.returns
returns c = let l = c.loop-i in
    record { on = l.invariant.0; inside = l.invariant.1; lacks = l.invariant.2; here = λ h. absurd (omega arith) }
