use Rattle.lex.specs.ByteSearch.{lacks_none, stopped_near, stopped_far}
use Rattle.lex.specs.Answer.{Stopped}
use Prim.Native.Nat.{ℕ, ◌≤◌, min}
use lib.ListN.{length}
use mathlib.Core.Path.{◌≡◌, subst}
use native.Mathlib.Omega.{arith}
use Rattle.lex.proofs.next_quote.Goals as goal

pub returns-then-q-near : goal.returns-then-q-near
returns-then-q-near c = stopped_near _ _ _ _ _ _ c.pass_bytes-q.ensures c.if-q-near.true (omega (arith, c.min-near.ensures))

pub returns : goal.returns
returns c = let s = c.args.s.now in
    let t = c.pass_bytes-q.ensures in
    let q = c.pass_bytes-q.result in
    let h : q ≤ length s = omega (arith, t.inside, c.min-near.ensures) in
    let m : min q (length s) ≡ q = omega arith in
    stopped_far _ _ _ q q _ _ t.on t.lacks (record { on = omega arith; inside = h; lacks = lacks_none 39 s q q (omega arith) })
    (subst (λ (k : ℕ). Stopped 39 s k (length s) c.find.result) m c.find.ensures)
