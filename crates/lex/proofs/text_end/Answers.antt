use Rattle.lex.specs.Quote.{InText, in_text_start, in_text_on, in_text_found, AtQuote, text_never, at_quote}
use Rattle.lex.specs.Answer.{QuoteIs}
use Rattle.lex.specs.declared.Quote.{Quote}
use Rattle.lex.specs.declared.Quote.TheVariants.{Doubled, Single, Last}
use Rattle.std.proofs.Common.{List, ℕ, get_or, ◌<◌}
use Prim.Native.Nat.{◌+◌, ◌≤◌}
use mathlib.Core.Path.{◌≡◌, sym, subst}
use lib.ListN.{length, drop}
use native.Mathlib.Omega.{arith}
use Rattle.lex.proofs.text_end.Goals as goal

pub loop-i-init : goal.loop-i-init
loop-i-init c = let a = c.args in
    let e = c.min-i.ensures in
    (omega (arith, e), subst (λ k. InText a.s.now a.from k) (sym e) (in_text_start a.s.now a.from))

-- what the quote at i is, and so what the search has found there
found : (s : List ℕ) (from i : ℕ) → (i ≤ length s) × InText s from i → i < length s → get_or s i 0 ≡ 39
    → (q b : Quote) → QuoteIs (drop (i + 1) s) q → q ≡ b → AtQuote s from i b
found s from i w h t q b k e = at_quote s from i w.1 h t b (subst (QuoteIs (drop (i + 1) s)) e k)

pub overflow_add-i-in-Doubled : goal.overflow_add-i-in-Doubled
overflow_add-i-in-Doubled c = let h = found c.args.s.now c.args.from c.loop-i.i c.loop-i.invariant (omega arith) c.if-s-i-eq39.true c.quote_before.result Doubled c.quote_before.ensures c.in-Doubled.is in omega arith

pub loop-i-smaller-in-Doubled : goal.loop-i-smaller-in-Doubled
loop-i-smaller-in-Doubled c = let h = found c.args.s.now c.args.from c.loop-i.i c.loop-i.invariant (omega arith) c.if-s-i-eq39.true c.quote_before.result Doubled c.quote_before.ensures c.in-Doubled.is in omega arith

pub loop-i-preserved-in-Doubled : goal.loop-i-preserved-in-Doubled
loop-i-preserved-in-Doubled c = found c.args.s.now c.args.from c.loop-i.i c.loop-i.invariant (omega arith) c.if-s-i-eq39.true c.quote_before.result Doubled c.quote_before.ensures c.in-Doubled.is

pub returns-in-Single : goal.returns-in-Single
returns-in-Single c = found c.args.s.now c.args.from c.loop-i.i c.loop-i.invariant (omega arith) c.if-s-i-eq39.true c.quote_before.result Single c.quote_before.ensures c.in-Single.is

pub returns-in-Last : goal.returns-in-Last
returns-in-Last c = found c.args.s.now c.args.from c.loop-i.i c.loop-i.invariant (omega arith) c.if-s-i-eq39.true c.quote_before.result Last c.quote_before.ensures c.in-Last.is

pub loop-i-smaller : goal.loop-i-smaller
loop-i-smaller c = omega (arith, c.next_quote-i.ensures.on)

pub loop-i-preserved : goal.loop-i-preserved
loop-i-preserved c = let a = c.args in
    let l = c.loop-i in
    let s = a.s.now in
    let q = c.next_quote-i.result in
    (c.next_quote-i.ensures.inside, in_text_on s a.from l.i q l.invariant.1 (in_text_found s l.i q (omega arith) c.if-s-i-eq39.false c.next_quote-i.ensures))

pub returns : goal.returns
returns c = let a = c.args in
    let l = c.loop-i in
    text_never a.s.now a.from l.i l.invariant.1 (omega arith)
