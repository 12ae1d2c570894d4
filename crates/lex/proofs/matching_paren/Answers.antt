use Rattle.lex.specs.BlocksKept.{blocks_keep}
use Rattle.lex.specs.PassedAtOnce.{BlockCounted, blocks_less, bytes_less}
use Rattle.lex.specs.Right.Steps.{plainly}
use Rattle.lex.specs.declared.Tally.{Tally}
use Rattle.std.proofs.Common.{List, false, ◌||◌, ◌≤◌, rules}
use Rattle.lex.specs.Seek.{drop_within, seek_halts_at, paren_up}
use Rattle.lex.specs.Search.{seen, seek_turn, paren, missed, closing, look_of}
use Rattle.lex.specs.Answer.{placed}
use Rattle.common.specs.Walk.{walk_ends}
use Rattle.lex.specs.Place.{place_drop}
use Rattle.error.specs.Refusal.{good, bad, refusal}
use Rattle.lex.specs.declared.Mode.TheVariants.{Plain}
use lib.Seq.{drop-drop}
use lib.ListN.{drop, get_or, length}
use mathlib.Core.Path.{◌≡◌, refl, sym, ◌∙◌, ap}
use Rattle.std.proofs.Math.Nat.{min-eq_left}
use Prim.Native.Nat.{ℕ, ◌+◌}
use native.Mathlib.Omega.{arith}
use Rattle.std.proofs.lemmas.Result.{err_from_is_err_and}
use Rattle.lex.proofs.matching_paren.Goals as goal

-- a search for a `)` with d open parentheses goes on from r with e, and no more are open than bytes were passed
abbrev Calm : List ℕ → ℕ → ℕ → ℕ → ℕ → Type 0
Calm s i d r e = (d ≤ i → e ≤ r) × ((n : ℕ) (w : List ℕ) → plainly paren n w d (drop i s) ≡ plainly paren n w e (drop r s))

-- a block whose parentheses are counted is passed
calm_block : (s : List ℕ) (r d e : ℕ) (t : Tally) → (t.up ≤ 64) × (t.down ≤ 64) → ((t.quote || t.slash) ≡ false → BlockCounted s r (r + 64) t.up t.down)
    → ((t.quote || t.slash) ≡ false) × (t.down ≤ d) × (e + t.down ≡ d + t.up) → Calm s r d (r + 64) e
calm_block s r d e t b k (q, l, m) = (λ h. omega arith, λ n w. k q n w d e l m)

pub overflow_add-from : goal.overflow_add-from
overflow_add-from c = omega (arith, c.min-from.ensures)

pub overflow_add-near : goal.overflow_add-near
overflow_add-near c = omega (arith, c.min-i.ensures)

pub loop-i-init : goal.loop-i-init
unfolding closing
loop-i-init c = let s = c.args.s.now in
    let p = c.args.opening in
    let from = c.min-from.result in
    let e : drop from s ≡ drop p s = ap (λ (k : ℕ). drop k s) c.min-from.ensures ∙ drop_within s p in
    let f : drop c.min-i.result s ≡ drop 1 (drop from s) =
    ap (λ (k : ℕ). drop k s) c.min-i.ensures ∙ drop_within s (from + 1) ∙ sym (drop-drop 1 from s) in
    ((omega (arith, c.min-i.ensures), omega arith), rw f (ap closing e))

pub overflow_add-near-then-near-i : goal.overflow_add-near-then-near-i
overflow_add-near-then-near-i c = omega (arith, c.pass_blocks.ensures.bounds)

pub loop-i-smaller-then-near-i : goal.loop-i-smaller-then-near-i
loop-i-smaller-then-near-i c = let l = c.loop-i in blocks_less _ l.i l.near c.pass_blocks.result.0 (omega arith) (omega (arith, c.pass_blocks.ensures.bounds))

pub loop-i-preserved-then-near-i : goal.loop-i-preserved-then-near-i
loop-i-preserved-then-near-i c = let l = c.loop-i in
    let s = c.args.s.now in
    let b : l.i ≤ length s = omega arith in
    let passed = rw (min-eq_left b) at c.pass_blocks.ensures.passed in
    let q : Calm s l.i l.depth c.pass_blocks.result.0 c.pass_blocks.result.1 =
    blocks_keep (Calm s) (λ i d. (λ h. h, λ n w. refl)) (λ i r d t u h p. let k : Calm s r t (r + 64) u = search (rules, calm_block) in (λ m. k.0 (h.0 m), λ n w. h.1 n w ∙ k.1 n w)) passed in
    ((c.pass_blocks.ensures.bounds.1, q.0 (omega arith)), sym (q.1 6 (drop c.min-from.result s)) ∙ l.invariant.1)

pub returns-in_default : goal.returns-in_default
returns-in_default c = let l = c.loop-i in
    let s = c.args.s.now in
    ap good (sym (place_drop s l.i (omega arith)))
    ∙ ap (placed s)
    (seek_halts_at paren (missed 6 (drop c.min-from.result s)) s l.i (omega arith) Plain l.depth l.i _ refl
    (sym c.depth_after.ensures ∙ ap look_of c.in_default.is) l.invariant.1)

pub returns-in_err-i : goal.returns-in_err-i
returns-in_err-i c = let l = c.loop-i in
    let s = c.args.s.now in
    let k = sym c.depth_after.ensures ∙ ap look_of c.in-Some.is in
    let p = err_from_is_err_and c.from_residual.result c.from_residual.ensures.1 in
    rw (p.1, p.2) (sym (c.in_err-i.ensures paren 6 (drop c.min-from.result s) l.depth _ k) ∙ ap (placed s) l.invariant.1)

pub loop-i-smaller : goal.loop-i-smaller
loop-i-smaller c = let e = c.in_ok-i.ensures in
    let l = c.loop-i in bytes_less _ l.i l.near _ (omega arith) e.0 e.1

pub loop-i-preserved : goal.loop-i-preserved
loop-i-preserved c = let l = c.loop-i in
    let s = c.args.s.now in
    let e = c.in_ok-i.ensures in
    let k = sym c.depth_after.ensures ∙ ap look_of c.in-Some.is in
    let up = paren_up l.depth (get_or s l.i 0) _ k in
    ((omega (arith, e.1), omega (arith, e.0, up)), sym (e.2 paren 6 (drop c.min-from.result s) l.depth _ k) ∙ l.invariant.1)

pub returns : goal.returns
returns c = let l = c.loop-i in
    let s = c.args.s.now in
    let from = c.min-from.result in
    ap (λ (k : ℕ). bad (refusal 6 0 k)) (sym (place_drop s from (omega (arith, c.min-from.ensures))))
    ∙ ap (placed s) (sym (walk_ends (seek_turn paren) (missed 6 (drop from s)) (seen Plain l.depth (drop l.i s)) s l.i (omega arith)) ∙ l.invariant.1)
