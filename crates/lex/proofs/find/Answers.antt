use Rattle.lex.specs.BlocksKept.{blocks_keep}
use Rattle.lex.specs.ByteSearch.{NoneBetween, lacks_none, lacks_on, stopped_near, stopped_far}
use Rattle.lex.specs.Answer.{Lacks, Stopped}
use Rattle.std.proofs.Common.{rules}
use Rattle.std.proofs.Math.Nat.{min-eq_left}
use Prim.Native.Nat.{ℕ, ◌≤◌}
use lib.ListN.{length}
use mathlib.Core.Path.{subst}
use native.Mathlib.Omega.{arith}
use Rattle.lex.proofs.find.Goals as goal

pub returns-then-i-near : goal.returns-then-i-near
returns-then-i-near c = let a = c.args in
    let n = length a.s.now in
    let w = c.min-from.ensures in
    let v = c.min-near.ensures in
    subst (λ (k : ℕ). Stopped a.b a.s.now k n c.pass_bytes-i.result) w
    (stopped_near _ _ _ _ n _ c.pass_bytes-i.ensures c.if-i-near.true (omega (arith, v)))

pub returns : goal.returns
returns c = let a = c.args in
    let n = length a.s.now in
    let near = c.pass_bytes-i.ensures in
    let l : c.pass_bytes-i.result ≤ n = omega (arith, near.inside, c.min-near.ensures) in
    let passed = rw (min-eq_left l) at c.pass_blocks-far.ensures.passed in
    let far : Lacks a.b a.s.now c.pass_bytes-i.result c.pass_blocks-far.result.0 = blocks_keep (λ i s r t. Lacks a.b a.s.now i r) (λ i s. lacks_none _ _ _ _ (omega arith)) (λ i r s t u h p. lacks_on _ _ _ r _ h (search rules)) passed in
    let between : NoneBetween a.b a.s.now c.pass_bytes-i.result c.pass_blocks-far.result.0 = record { on = omega (arith, l, c.pass_blocks-far.ensures.bounds); inside = c.pass_blocks-far.ensures.bounds.1; lacks = far } in
    subst (λ (k : ℕ). Stopped a.b a.s.now k n c.pass_bytes.result) c.min-from.ensures
    (stopped_far _ _ _ _ _ n _ near.on near.lacks between c.pass_bytes.ensures)
