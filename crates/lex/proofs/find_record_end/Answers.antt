use Rattle.lex.specs.BlocksKept.{blocks_keep}
use Rattle.lex.specs.PassedAtOnce.{Quiet, blocks_less, bytes_less}
use Rattle.std.proofs.Common.{rules, ◌+◌}
use Rattle.lex.specs.Seek.{drop_within, seek_halts_at}
use Rattle.lex.specs.Search.{seen, seek_turn, semicolon, missed, record_end}
use Rattle.lex.specs.Answer.{placed}
use Rattle.common.specs.Walk.{walk_ends}
use Rattle.lex.specs.Place.{place_drop}
use Rattle.error.specs.Refusal.{good, bad, refusal}
use Rattle.lex.specs.declared.Mode.TheVariants.{Plain}
use borrow.Author.Tests.{eq-eqb, ne_eqb}
use lib.ListN.{drop, length}
use mathlib.Core.Path.{refl, sym, ◌∙◌, ap}
use Rattle.std.proofs.Math.Nat.{min-eq_left}
use Prim.Native.Nat.{ℕ, ◌≤◌}
use native.Mathlib.Omega.{arith}
use Rattle.std.proofs.lemmas.Result.{err_from_is_err_and}
use Rattle.lex.proofs.find_record_end.Goals as goal

pub overflow_add-near : goal.overflow_add-near
overflow_add-near c = omega (arith, c.min-from.ensures)

pub loop-i-init : goal.loop-i-init
unfolding record_end
loop-i-init c = let s = c.args.s.now in
    (omega (arith, c.min-from.ensures), ap record_end (ap (λ (k : ℕ). drop k s) c.min-from.ensures ∙ drop_within s c.args.start))

pub loop-i-smaller-then-near-i : goal.loop-i-smaller-then-near-i
loop-i-smaller-then-near-i c = let l = c.loop-i in blocks_less _ l.i l.near c.pass_blocks-i.result.0 (omega arith) (omega (arith, c.pass_blocks-i.ensures.bounds))

pub loop-i-preserved-then-near-i : goal.loop-i-preserved-then-near-i
loop-i-preserved-then-near-i c = let l = c.loop-i in
    let s = c.args.s.now in
    let h : l.i ≤ length s = omega arith in
    let passed = rw (min-eq_left h) at c.pass_blocks-i.ensures.passed in
    let q : Quiet s l.i c.pass_blocks-i.result.0 = blocks_keep (λ i d r e. Quiet s i r) (λ i d n w. refl) (λ i r d t u h p. let k : Quiet s r (r + 64) = search rules in λ n w. h n w ∙ k n w) passed in
    (omega (arith, c.pass_blocks-i.ensures.bounds), sym (q 5 (drop c.min-from.result s)) ∙ l.invariant.1)

pub returns-then-s-i-eq59 : goal.returns-then-s-i-eq59
returns-then-s-i-eq59 c = let l = c.loop-i in
    let s = c.args.s.now in
    ap good (sym (place_drop s l.i (omega arith)))
    ∙ ap (placed s)
    (seek_halts_at semicolon (missed 5 (drop c.min-from.result s)) s l.i (omega arith) Plain 0 l.i _ refl (simp (eq-eqb _ _ c.if-s-i-eq59.true)) l.invariant.1)

pub loop-i-smaller : goal.loop-i-smaller
loop-i-smaller c = let e = c.in_ok-i.ensures in
    let l = c.loop-i in bytes_less _ l.i l.near _ (omega arith) e.0 e.1

pub loop-i-preserved : goal.loop-i-preserved
loop-i-preserved c = let l = c.loop-i in
    let s = c.args.s.now in
    let e = c.in_ok-i.ensures in
    (omega (arith, e.1), sym (e.2 semicolon 5 (drop c.min-from.result s) 0 0 (simp (ne_eqb _ _ c.if-s-i-eq59.false))) ∙ l.invariant.1)

pub returns-in_err-i : goal.returns-in_err-i
returns-in_err-i c = let l = c.loop-i in
    let s = c.args.s.now in
    let p = err_from_is_err_and c.from_residual.result c.from_residual.ensures.1 in
    rw (p.1, p.2) (sym (c.in_err-i.ensures semicolon 5 (drop c.min-from.result s) 0 0 (simp (ne_eqb _ _ c.if-s-i-eq59.false))) ∙ ap (placed s) l.invariant.1)

pub returns : goal.returns
returns c = let l = c.loop-i in
    let s = c.args.s.now in
    let from = c.min-from.result in
    ap (λ (k : ℕ). bad (refusal 5 0 k)) (sym (place_drop s from (omega (arith, c.min-from.ensures))))
    ∙ ap (placed s) (sym (walk_ends (seek_turn semicolon) (missed 5 (drop from s)) (seen Plain 0 (drop l.i s)) s l.i (omega arith)) ∙ l.invariant.1)
