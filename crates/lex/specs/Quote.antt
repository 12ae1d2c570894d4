-- A quote in a string, and where the string ends. "A string ends at a quote not followed by a quote", the quotes inside it paired off first:
-- what a string is stands in Grammar.antt (`Inside`, `Quotation`, `OpenText`). What the code's answers say, in the grammar's words, stands in
-- Answer.antt (`QuoteIs`, `TextEnds`). Here are the laws of the loop that seeks a string's end. Assumes nothing.
use Rattle.std.specs.Prelude.{ℕ, zero, suc, ◌+◌, ◌-◌, ◌≤◌, ◌<◌, min, ◌≡◌, refl, List, [], ◌∷◌, ◌++◌, length, drop, get_or, Option, Some, None}
use Rattle.std.proofs.Common.{sym, ◌∙◌, ap, subst, append-nil, append_assoc, arith, length-drop, length-append}
use Rattle.std.proofs.lemmas.Bool.{eqb-false}
use Rattle.common.specs.Lists.{split, drop_end}
use Rattle.common.specs.Compare.{clash}
use Rattle.common.specs.Walk.{walk}
use Rattle.lex.specs.Search.{record_end}
use Rattle.lex.specs.Answer.{at, fault, Lacks, Stopped, QuoteIs, TextEnds}
use Rattle.lex.specs.Seek.{drop_within}
use Rattle.lex.specs.Grammar.{Begins, Inside, OpenText}
use Rattle.lex.specs.Right.Tokens.{string_unended, one_end}
use Rattle.lex.specs.declared.Quote.{Quote}
use Rattle.lex.specs.declared.Quote.TheVariants.{Doubled, Single, Last}

-- `'a'''`: an `a` and three quotes in a row
abbrev three : List ℕ
three = 39 ∷ 97 ∷ 39 ∷ 39 ∷ 39 ∷ []

-- of the three quotes in `'a'''` the first two are a pair, and the third is the end
pub three_quotes : TextEnds three 1 (Some 5)
three_quotes = (
  omega arith,
  omega arith,
  record { body = 97 ∷ 39 ∷ 39 ∷ []; inside = Inside.other (eqb-false 97 39 refl) (Inside.doubled Inside.none); shape = refl; single = λ (r, e). clash (cc) },
)

-- a `;` after `'a'''` is the record's end, computed
three_computed : record_end (three ++ (59 ∷ [])) ≡ at (59 ∷ [])
unfolding record_end walk
three_computed = refl

-- of the two quotes at the end of `'a''` neither is the end: a `;` after them is in the string
two_computed : record_end (39 ∷ 97 ∷ 39 ∷ 39 ∷ 59 ∷ []) ≡ fault 4 (39 ∷ 97 ∷ 39 ∷ 39 ∷ 59 ∷ [])
unfolding record_end walk
two_computed = refl

-- of the four quotes at the end of `'a''''` none is the end: a `;` after them is in the string
four_computed : record_end (three ++ (39 ∷ 59 ∷ [])) ≡ fault 4 (three ++ (39 ∷ 59 ∷ []))
unfolding record_end walk
four_computed = refl

-- the inside of a string, and more of it after that, are the inside of a string
inside_on : {a b : List ℕ} → Inside a → Inside b → Inside (a ++ b)
inside_on Inside.none j = j
inside_on (Inside.other h i) j = Inside.other h (inside_on i j)
inside_on (Inside.doubled i) j = Inside.doubled (inside_on i j)

-- the bytes from i up to j are the inside of a string, its quotes paired off
pub record InText (s : List ℕ) (i j : ℕ) : Type 0 where
  pub body : List ℕ
  pub inside : Inside body
  pub shape : drop i s ≡ body ++ drop j s

-- no bytes are the inside of a string
in_text_none : (s : List ℕ) (i : ℕ) → InText s i i
in_text_none s i = record { body = []; inside = Inside.none; shape = refl }

-- where the inside begins past the file's end, no bytes up to the end are the inside of a string
pub in_text_start : (s : List ℕ) (i : ℕ) → InText s i (min i (length s))
in_text_start s i = record { body = []; inside = Inside.none; shape = sym (drop_within s i) }

-- bytes of a string's inside, and more of it after them, are a string's inside
pub in_text_on : (s : List ℕ) (i j k : ℕ) → InText s i j → InText s j k → InText s i k
in_text_on s i j k a b = record {
  body = a.body ++ b.body;
  inside = inside_on a.inside b.inside;
  shape = a.shape ∙ ap (λ (r : List ℕ). a.body ++ r) b.shape ∙ sym (append_assoc a.body b.body (drop k s));
}

-- a byte that is no quote is a string's inside
in_text_byte : (s : List ℕ) (i : ℕ) → i < length s → (get_or s i 0 ≡ 39 → ⊥) → InText s i (i + 1)
in_text_byte s i h k = record { body = get_or s i 0 ∷ []; inside = Inside.other k Inside.none; shape = split s i h }

-- bytes that are no quotes are a string's inside
in_text_lacks : (s : List ℕ) (n i : ℕ) → i + n ≤ length s → Lacks 39 s i (i + n) → InText s i (i + n)
unfolding Lacks
in_text_lacks s zero i h f = let e : i + 0 ≡ i = omega arith in rw e (in_text_none s i)
in_text_lacks s (suc n) i h f =
    let e : i + 1 + n ≡ i + suc n = omega arith in
    let b : InText s i (i + 1) = in_text_byte s i (omega arith) (f i (omega arith) (omega arith)) in
    subst (λ (k : ℕ). InText s i k) e (in_text_on s i (i + 1) (i + 1 + n) b (in_text_lacks s n (i + 1) (omega arith) (λ j p q. f j (omega arith) (omega arith))))

-- the bytes from one that is no quote up to the next quote are a string's inside
pub in_text_found : (s : List ℕ) (i q : ℕ) → i < length s → (get_or s i 0 ≡ 39 → ⊥) → Stopped 39 s (i + 1) (length s) q → InText s i q
in_text_found s i q h k t =
    let a : i + 1 ≤ q = t.on in
    let e : i + 1 + (q - (i + 1)) ≡ q = omega arith in
    in_text_on s i (i + 1) q (in_text_byte s i h k) (subst (λ (j : ℕ). InText s (i + 1) j) e (in_text_lacks s (q - (i + 1)) (i + 1) (omega (arith, t.inside)) (subst (λ (j : ℕ). Lacks 39 s (i + 1) j) (sym e) t.lacks)))

-- after a quote and another byte no quote follows
pub single_quote : (xs : List ℕ) → QuoteIs xs Single → Begins 39 xs → ⊥
single_quote xs (c, r, e, h) (t, f) = h (cc)

-- after a quote at the file's end no quote follows
pub last_quote : (xs : List ℕ) → QuoteIs xs Last → Begins 39 xs → ⊥
last_quote xs e (r, f) = clash (cc)

-- what a search has found of the string whose inside begins at i, where a quote stands at q and the bytes up to it are inside: after `''` it is
-- still inside, and after `'` and no quote the string has ended
abbrev pub AtQuote : List ℕ → ℕ → ℕ → Quote → Type 0
AtQuote s i q Doubled = (q + 2 ≤ length s) × InText s i (q + 2)
AtQuote s i q Single = TextEnds s i (Some (q + 1))
AtQuote s i q Last = TextEnds s i (Some (q + 1))

-- Up to q the bytes from i on are the inside of a string.
module _ (s : List ℕ) (i q : ℕ) (a : InText s i q) where
  -- where the bytes up to the file's end are its inside, the string never ends
  pub text_never : length s ≤ q → OpenText (39 ∷ drop i s)
  text_never h =
      let e : drop i s ≡ a.body = a.shape ∙ ap (λ (r : List ℕ). a.body ++ r) (drop_end s q h) ∙ append-nil a.body in
      ((drop i s, refl), rw e (string_unended a.inside))

  module _ (h : q < length s) (g : get_or s q 0 ≡ 39) where
    -- two quotes in a row at q are a pair, and the string's inside goes on after them
    text_doubled : Begins 39 (drop (q + 1) s) → (q + 2 ≤ length s) × InText s i (q + 2)
    text_doubled (r, e) =
        let n : length (drop (q + 1) s) ≡ suc (length r) = ap length e in
        let l : q + 1 < length s = omega (arith, length-drop (q + 1) s) in
        let x : drop (q + 1) s ≡ get_or s (q + 1) 0 ∷ drop (q + 1 + 1) s = split s (q + 1) l in
        let k : q + 1 + 1 ≡ q + 2 = omega arith in
        let c : get_or s (q + 1) 0 ≡ 39 = cc in
        let b : drop q s ≡ 39 ∷ 39 ∷ drop (q + 2) s = split s q h ∙ rw (g, x, c, k) refl in
        (omega arith, in_text_on s i q (q + 2) a (record { body = 39 ∷ 39 ∷ []; inside = Inside.doubled Inside.none; shape = b }))

    -- a quote at q that no quote follows is the string's end
    text_ended : (Begins 39 (drop (q + 1) s) → ⊥) → TextEnds s i (Some (q + 1))
    text_ended k =
        let b : drop i s ≡ a.body ++ (39 ∷ drop (q + 1) s) = a.shape ∙ ap (λ (r : List ℕ). a.body ++ r) (split s q h ∙ rw g refl) in
        let n : length (drop i s) ≡ length a.body + suc (length (drop (q + 1) s)) = ap length b ∙ length-append a.body (39 ∷ drop (q + 1) s) in
        (omega (arith, length-drop i s, length-drop (q + 1) s), omega arith, record { body = a.body; inside = a.inside; shape = ap (λ (r : List ℕ). 39 ∷ r) b; single = k })

    -- what the string is found to be at the quote at q, by which of the three that quote is
    pub at_quote : (b : Quote) → QuoteIs (drop (q + 1) s) b → AtQuote s i q b
    at_quote Doubled k = text_doubled k
    at_quote Single k = text_ended (single_quote (drop (q + 1) s) k)
    at_quote Last k = text_ended (last_quote (drop (q + 1) s) k)

-- two answers that `QuoteIs` allows are one
pub quote_only : (xs : List ℕ) (a b : Quote) → QuoteIs xs a → QuoteIs xs b → a ≡ b
quote_only xs Doubled Doubled h k = refl
quote_only xs Doubled Single h k = absurd (single_quote xs k h)
quote_only xs Doubled Last h k = absurd (last_quote xs k h)
quote_only xs Single Doubled h k = absurd (single_quote xs h k)
quote_only xs Single Single h k = refl
quote_only xs Single Last (c, r, e, h) k = clash (cc)
quote_only xs Last Doubled h k = absurd (last_quote xs h k)
quote_only xs Last Single h (c, r, e, k) = clash (cc)
quote_only xs Last Last h k = refl

-- two answers that `TextEnds` allows are one
pub text_end_only : (s : List ℕ) (i : ℕ) (a b : Option ℕ) → TextEnds s i a → TextEnds s i b → a ≡ b
text_end_only s i (Some p) (Some q) (h, k, u) (l, m, v) =
    let e : length (drop p s) ≡ length (drop q s) = ap length (one_end (drop i s) (drop p s) (drop q s) u v) in
    ap Some (omega (arith, length-drop p s, length-drop q s))
text_end_only s i (Some p) None (h, k, u) (l, m) = absurd (m (drop p s) u)
text_end_only s i None (Some q) (h, k) (l, m, u) = absurd (k (drop q s) u)
text_end_only s i None None h k = refl
