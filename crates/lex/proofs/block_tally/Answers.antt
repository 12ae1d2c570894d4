use mir.Val.{bool_byte}
use Rattle.lex.specs.PassedAtOnce.{block_counted_none, block_counted_next}
use Rattle.common.specs.Pick.{pick}
use Rattle.std.proofs.Common.{◌≡◌, ℕ, ◌+◌, ◌≤◌, Bool, true, false, eqb, get_or, arith}
use Rattle.lex.proofs.block_tally.Goals as goal

-- a test as a number
picked : (t : Bool) (n : ℕ) → n ≡ bool_byte t → (n ≡ pick t 1 0) × (n ≤ 1)
picked true n e = (e, omega arith)
picked false n e = (e, omega arith)

pub loop-k-init : goal.loop-k-init
loop-k-init c = (omega arith, omega arith, omega arith, λ z. block_counted_none c.args.s.now c.args.at (c.args.at + 0) (omega arith))

pub loop-k-preserved : goal.loop-k-preserved
loop-k-preserved c = let l = c.loop-k in
    let a = c.args in
    let (p, u) = picked (eqb (get_or a.s.now (a.at + l.k) 0) 40) c.from-up.result c.from-up.ensures in
    let (q, d) = picked (eqb (get_or a.s.now (a.at + l.k) 0) 41) c.from-down.result c.from-down.ensures in
    let e : a.at + (l.k + 1) ≡ a.at + l.k + 1 = omega arith in (
      omega arith,
      omega arith,
      omega arith,
      λ z. rw (e, p, q) (block_counted_next a.s.now a.at (a.at + l.k) l.up l.down l.quote l.slash (omega arith) l.invariant.3 z),
    )

pub returns : goal.returns
returns c = let l = c.loop-k in
    let e : l.k ≡ 64 = omega (arith, l.invariant.0) in record { up_bound = (omega (arith, l.invariant.1), omega (arith, l.invariant.2)); block_counted = λ z. rw e at (l.invariant.3 z) }
