use Rattle.lex.specs.TriviaPassed.{trivia_end_lem, trivia_blank, trivia_here_at, trivia_remark}
use Rattle.lex.specs.Seek.{drop_within}
use Rattle.lex.specs.Search.{trivia}
use Rattle.lex.specs.Answer.{placed}
use Rattle.lex.specs.Place.{place_drop}
use Rattle.error.specs.Refusal.{good}
use lib.ListN.{length, drop}
use mathlib.Core.Path.{◌≡◌, sym, ◌∙◌, ap}
use Prim.Native.Nat.{ℕ, ◌-◌}
use native.Mathlib.Omega.{arith}
use Rattle.std.proofs.lemmas.Result.{err_from_is_err_and}
use Rattle.lex.proofs.skip_trivia.Goals as goal

pub loop-i-init : goal.loop-i-init
loop-i-init c = let s = c.args.s.now in
    (omega (arith, c.min-i.ensures), ap trivia (ap (λ (k : ℕ). drop k s) c.min-i.ensures ∙ drop_within s c.args.start))

pub loop-i-preserved-then-is_space : goal.loop-i-preserved-then-is_space
loop-i-preserved-then-is_space c = let s = c.args.s.now in
    let l = c.loop-i in
    (omega arith, sym (trivia_blank s l.i (omega arith) (sym c.is_space.ensures ∙ c.if-is_space.true)) ∙ l.invariant.1)

pub returns-then-c-ne47 : goal.returns-then-c-ne47
returns-then-c-ne47 c = let s = c.args.s.now in
    let l = c.loop-i in
    ap good (sym (place_drop s l.i (omega arith)))
    ∙ ap (placed s) (sym (trivia_here_at s l.i (omega arith) (sym c.is_space.ensures ∙ c.if-is_space.false) (λ e _ _. absurd (c.if-c-ne47.true e))) ∙ l.invariant.1)

pub returns-then-not-is_at : goal.returns-then-not-is_at
returns-then-not-is_at c = let s = c.args.s.now in
    let l = c.loop-i in
    ap good (sym (place_drop s l.i (omega arith)))
    ∙ ap (placed s) (sym (trivia_here_at s l.i (omega arith) (sym c.is_space.ensures ∙ c.if-is_space.false) (λ _. c.is_at.ensures.away c.if-not-is_at.true)) ∙ l.invariant.1)

pub past_remark-requires : goal.past_remark-requires
past_remark-requires c = let k = c.is_at.ensures.here c.if-not-is_at.false in omega arith

pub loop-i-smaller : goal.loop-i-smaller
loop-i-smaller c = let s = c.args.s.now in
    let l = c.loop-i in
    let k = c.is_at.ensures.here c.if-not-is_at.false in
    let e = rw c.in_ok-i.was at (trivia_remark s l.i (omega arith) c.if-c-ne47.false k.0 k.1 c.past_remark.result c.past_remark.ensures) in
    omega (arith, e.0, e.1)

pub loop-i-preserved : goal.loop-i-preserved
loop-i-preserved c = let s = c.args.s.now in
    let l = c.loop-i in
    let k = c.is_at.ensures.here c.if-not-is_at.false in
    let e = rw c.in_ok-i.was at (trivia_remark s l.i (omega arith) c.if-c-ne47.false k.0 k.1 c.past_remark.result c.past_remark.ensures) in
    (omega (arith, e.1), sym e.2 ∙ l.invariant.1)

pub returns-in_err-i : goal.returns-in_err-i
returns-in_err-i c = let s = c.args.s.now in
    let l = c.loop-i in
    let k = c.is_at.ensures.here c.if-not-is_at.false in
    let e = rw c.in_err-i.was at (trivia_remark s l.i (omega arith) c.if-c-ne47.false k.0 k.1 c.past_remark.result c.past_remark.ensures) in
    let p = err_from_is_err_and c.from_residual.result c.from_residual.ensures.1 in
    rw (p.1, p.2) (sym e ∙ ap (placed s) l.invariant.1)

pub returns : goal.returns
returns c = let s = c.args.s.now in
    let l = c.loop-i in
    let e : l.i ≡ length s - 0 = omega arith in
    ap good e ∙ ap (placed s) (sym (trivia_end_lem s l.i (omega arith)) ∙ l.invariant.1)
