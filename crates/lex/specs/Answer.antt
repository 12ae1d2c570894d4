-- What the answers of the public functions say: of a search, of a byte that is sought, of a quote, of a string's end and of a comment's. Assumes nothing.
-- Definitions to be believed: no law, and nothing computed that no theorem ties (docs/BELIEVE.md).
use Rattle.std.specs.Prelude.{ℕ, ◌≤◌, ◌<◌, List, [], ◌∷◌, ◌≡◌, get_or, length, drop, Option, Some, None}
use Rattle.error.specs.Refusal.{refusal, Told, good, bad}
use Rattle.lex.specs.Byte.{place}
use Rattle.lex.specs.Grammar.{Begins, Quotation, OpenText, Comment, OpenRemark}
use Rattle.lex.specs.declared.Quote.{Quote}
use Rattle.lex.specs.declared.Quote.TheVariants.{Doubled, Single, Last}

-- the rest from where a search stopped, or a refusal's number and the rest from its place
pub data Sought : Type 0 where
  at : List ℕ → Sought
  fault : ℕ → List ℕ → Sought

-- a search's answer as document 01 gives it: a place in the file s, or a refusal there
abbrev pub placed : List ℕ → Sought → Told ℕ
placed s (at r) = good (place s r)
placed s (fault n r) = bad (refusal n 0 (place s r))

-- none of the bytes from i on and before r is b
unfoldable pub Lacks : ℕ → List ℕ → ℕ → ℕ → Type 0
Lacks b xs i r = (j : ℕ) → i ≤ j → j < r → get_or xs j 0 ≡ b → ⊥

-- r is the first place from i on and before the end that has b, or the end
pub record Stopped (b : ℕ) (xs : List ℕ) (i end r : ℕ) : Type 0 where
  pub on : i ≤ r
  pub inside : r ≤ end
  pub lacks : Lacks b xs i r
  pub here : r < end → get_or xs r 0 ≡ b

-- What a quote in a string is, by the bytes xs after it, if it is not the second of a pair.
-- Doubled: `''`, a pair that stays inside.
-- Single: `'` and another byte, the string's end.
-- Last: `'` and the end of the bytes, the string's end too.
abbrev pub QuoteIs : List ℕ → Quote → Type 0
QuoteIs xs Doubled = Begins 39 xs
QuoteIs xs Single = (c : ℕ) × (r : List ℕ) × (xs ≡ c ∷ r) × (c ≡ 39 → ⊥)
QuoteIs xs Last = xs ≡ []

-- "A string ends at a quote not followed by a quote", the quotes inside it paired off first: the place after the string whose inside begins at i, or
-- that it never ends
abbrev pub TextEnds : List ℕ → ℕ → Option ℕ → Type 0
TextEnds s i (Some p) = (i < p) × (p ≤ length s) × Quotation (39 ∷ drop i s) (drop p s)
TextEnds s i None = OpenText (39 ∷ drop i s)

-- "A comment runs from `/*` to the first `*/` that begins after it": the place after the comment whose inside begins at i, or that it never ends
abbrev pub CommentEnds : List ℕ → ℕ → Option ℕ → Type 0
CommentEnds s i (Some p) = (i < p) × (p ≤ length s) × Comment (47 ∷ 42 ∷ drop i s) (drop p s)
CommentEnds s i None = OpenRemark (47 ∷ 42 ∷ drop i s)
