-- Where a byte is found; and where a string and a comment end, computed by the scan's lexer (lex/specs/Lexer.antt), so that there is no
-- second definition of either. What these two are without a loop stands in lex/specs/Grammar.antt; Laws.antt ties them. Assumes nothing.
use Rattle.std.specs.Prelude.{ℕ, ◌≡◌, refl, List, [], ◌∷◌}
use Rattle.common.specs.Pick.{pick}
use Rattle.common.specs.Walk.{Turn, stop, on, walk}
use Rattle.lex.specs.Lexer.{calm, next_mode}
use Rattle.lex.specs.declared.Mode.{Mode}
use Rattle.lex.specs.declared.Mode.TheVariants.{Plain, Slash, Text, Quoted, Remark, Starred}
use Rattle.tokens.specs.Answer.{RestAfter, ends_before, never}

-- a string or a comment is left at the first byte outside both
abbrev pub leap_turn : Mode → ℕ → List ℕ → Turn Mode RestAfter
leap_turn m c r = pick (calm m c) (stop (ends_before (c ∷ r))) (on (next_mode m c))

-- the bytes ended: in a string or a comment, which then never ends, or after one
abbrev pub leap_end : Mode → RestAfter
leap_end Plain = ends_before []
leap_end Slash = ends_before []
leap_end Text = never
leap_end Quoted = ends_before []
leap_end Remark = never
leap_end Starred = never

-- "A string ends at a quote not followed by a quote", the quotes inside it paired off first: the rest after it, from the bytes after its first quote
unfoldable pub string_rest : List ℕ → RestAfter
string_rest xs = walk leap_turn leap_end Text xs

-- `'a'''` ends at the last of the three quotes in a row, be that the last byte or not; `'a''` and `'a''''` never end
three_quotes : string_rest (97 ∷ 39 ∷ 39 ∷ 39 ∷ []) ≡ ends_before []
unfolding string_rest walk
three_quotes = refl

three_quotes_more : string_rest (97 ∷ 39 ∷ 39 ∷ 39 ∷ 44 ∷ []) ≡ ends_before (44 ∷ [])
unfolding string_rest walk
three_quotes_more = refl

two_quotes : string_rest (97 ∷ 39 ∷ 39 ∷ []) ≡ never
unfolding string_rest walk
two_quotes = refl

four_quotes : string_rest (97 ∷ 39 ∷ 39 ∷ 39 ∷ 39 ∷ []) ≡ never
unfolding string_rest walk
four_quotes = refl

-- the first quote is no part of a pair: `''` is whole, `'''` never ends, and `''''` ends at its last
empty_string : string_rest (39 ∷ []) ≡ ends_before []
unfolding string_rest walk
empty_string = refl

quotes_open : string_rest (39 ∷ 39 ∷ []) ≡ never
unfolding string_rest walk
quotes_open = refl

one_quote : string_rest (39 ∷ 39 ∷ 39 ∷ []) ≡ ends_before []
unfolding string_rest walk
one_quote = refl

-- "A comment runs from `/*` to the first `*/` that begins after it": the rest after it, from the bytes after its `/*`
unfoldable pub comment_rest : List ℕ → RestAfter
comment_rest xs = walk leap_turn leap_end Remark xs
