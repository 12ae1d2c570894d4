-- The searches of document 01, 'Reading the file': past trivia, for a record's `;`, and for the `)` that closes a `(`.
-- Each answers the rest of the file from where it stopped, or a refusal number with the rest from the refusal's place.
-- Grammar.antt says what they find without a loop, and Right.antt that they find it and nothing else.
-- Assumes nothing.
use Rattle.std.specs.Prelude.{ℕ, zero, suc, List, [], ◌∷◌, eqb, drop, Option, Some, None}
use Rattle.common.specs.Pick.{pick}
use Rattle.lex.specs.Byte.{white}
use Rattle.common.specs.Walk.{Turn, stop, on, walk}
use Rattle.lex.specs.Lexer.{calm, next_mode}
use Rattle.lex.specs.Answer.{Sought, at, fault}
use Rattle.lex.specs.declared.Mode.{Mode}
use Rattle.lex.specs.declared.Mode.TheVariants.{Plain, Slash, Text, Quoted, Remark, Starred}

-- a search's state: the mode, the open parentheses, and the rest from the last byte outside strings and comments, which is
-- where a string or a comment that is open now begins
pub record Seen : Type 0 where
  pub mode : Mode
  pub depth : ℕ
  pub opened : List ℕ

-- a search's state from its mode, its open parentheses, and the rest from the last byte outside strings and comments
abbrev pub seen : Mode → ℕ → List ℕ → Seen
seen m d o = record { mode = m; depth = d; opened = o }

-- what a byte outside strings and comments does to a search: it halts there, or goes on with so many open parentheses
pub data Look : Type 0 where
  halt : Look
  look : ℕ → Look

-- "ends at the first `;`": where a search for a record's end halts
abbrev pub semicolon : ℕ → ℕ → Look
semicolon d c = pick (eqb c 59) halt (look d)

-- a `)` closes the innermost open parenthesis; with none open, it is the one sought
abbrev pub under : ℕ → Look
under zero = halt
under (suc d) = look d

-- "The closing `)`": where a search for it halts, and how many parentheses are open after a byte
abbrev pub paren : ℕ → ℕ → Look
paren d c = pick (eqb c 40) (look (suc d)) (pick (eqb c 41) (under d) (look d))

-- "outside strings and comments": only such a byte is looked at, and the search halts there or goes on
abbrev pub looked : Look → Mode → List ℕ → Turn Seen Sought
looked halt m here = stop (at here)
looked (look d) m here = on (seen m d here)

-- one byte of a search for what f looks for: a byte in a string or a comment only moves the mode
abbrev pub seek_turn : (ℕ → ℕ → Look) → Seen → ℕ → List ℕ → Turn Seen Sought
seek_turn f s c r =
    pick (calm s.mode c)
    (looked (f s.depth c) (next_mode s.mode c) (c ∷ r))
    (on (seen (next_mode s.mode c) s.depth s.opened))

-- the file ended: in a string, refusal 4 at its first quote; in a comment, 3 at its `/`; else the search's own refusal
abbrev pub unclosed : Mode → ℕ → List ℕ → List ℕ → Sought
unclosed Plain n whole o = fault n whole
unclosed Slash n whole o = fault n whole
unclosed Text n whole o = fault 4 o
unclosed Quoted n whole o = fault n whole
unclosed Remark n whole o = fault 3 o
unclosed Starred n whole o = fault 3 o

-- the refusal of a search whose bytes have ended, by its state
abbrev pub missed : ℕ → List ℕ → Seen → Sought
missed n whole s = unclosed s.mode n whole s.opened

-- "A record [..] ends at the first `;` outside strings and comments": from the record's start; without one, 5 at its start
unfoldable pub record_end : List ℕ → Sought
record_end xs = walk (seek_turn semicolon) (missed 5 xs) (seen Plain 0 xs) xs

-- "The closing `)` is sought outside strings and comments through the whole file": from the `(`; without one, 6 at the `(`
unfoldable pub closing : List ℕ → Sought
closing xs = walk (seek_turn paren) (missed 6 xs) (seen Plain 0 (drop 1 xs)) (drop 1 xs)

-- "Trivia is any run of both": what a byte outside comments does. A slash that opens no comment is itself the byte after
-- the trivia
abbrev pub lead : Mode → List ℕ → ℕ → List ℕ → Turn Seen Sought
lead Plain o c r = pick (white c) (on (seen Plain 0 (c ∷ r))) (pick (eqb c 47) (on (seen Slash 0 (c ∷ r))) (stop (at (c ∷ r))))
lead Slash o c r = stop (at o)
lead Text o c r = stop (at o)
lead Quoted o c r = stop (at o)
lead Remark o c r = stop (at o)
lead Starred o c r = stop (at o)

-- one byte of trivia: a byte in a comment only moves the mode
abbrev pub trivia_turn : Seen → ℕ → List ℕ → Turn Seen Sought
trivia_turn s c r = pick (calm s.mode c) (lead s.mode s.opened c r) (on (seen (next_mode s.mode c) 0 s.opened))

-- the file ended on the way past trivia: nothing is left, a slash is, or a comment is open
abbrev pub trailed : Mode → List ℕ → Sought
trailed Plain o = at []
trailed Slash o = at o
trailed Text o = at []
trailed Quoted o = at []
trailed Remark o = fault 3 o
trailed Starred o = fault 3 o

-- the answer of a search past trivia whose bytes have ended, by its state
abbrev pub trivia_end : Seen → Sought
trivia_end s = trailed s.mode s.opened

-- "A record starts at the first non-trivia byte": the rest from there, or 3 at the `/` of a comment that is open
unfoldable pub trivia : List ℕ → Sought
trivia xs = walk trivia_turn trivia_end (seen Plain 0 xs) xs

-- what the answer of the code's `paren` says
abbrev pub look_of : Option ℕ → Look
look_of None = halt
look_of (Some d) = look d
