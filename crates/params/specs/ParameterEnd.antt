-- A parameter, computed: one byte a turn, by the scan's lexer and a binary literal beside it. Grammar.antt says what it finds without
-- a loop, and Right.antt that it finds it and nothing else. Assumes nothing.
use Rattle.std.specs.Prelude.{ℕ, suc, ◌-◌, Bool, false, not, ◌&&◌, ◌||◌, List, [], ◌∷◌, eqb}
use Rattle.common.specs.Pick.{pick}
use Rattle.lex.specs.Byte.{white}
use Rattle.common.specs.Walk.{Turn, stop, on, walk}
use Rattle.lex.specs.Lexer.{calm, next_mode}
use Rattle.lex.specs.Search.{trivia}
use Rattle.lex.specs.Answer.{Sought, at, fault}
use Rattle.lex.specs.declared.Mode.{Mode}
use Rattle.lex.specs.declared.Mode.TheVariants.{Plain, Slash, Text, Quoted, Remark, Starred}
use Rattle.params.specs.Answer.{ParamEnd, stops_before, literal_open}

-- how far a parameter is read: the lexer's mode, whether in a binary literal, the open parentheses, the rest from the last byte
-- outside literals and comments, which is where one that is open now begins, and the rest after the last byte that is no trivia
pub record Stand : Type 0 where
  pub mode : Mode
  pub binary : Bool
  pub depth : ℕ
  pub opened : List ℕ
  pub solid : List ℕ

-- the state of a parameter's reading, from its parts
abbrev pub stand : Mode → Bool → ℕ → List ℕ → List ℕ → Stand
stand m b d o s = record { mode = m; binary = b; depth = d; opened = o; solid = s }

-- the byte c stands outside strings, binary literals and comments
abbrev pub outside_literals : Bool → Mode → ℕ → Bool
outside_literals b m c = pick b false (calm m c)

-- what the parameter reaches to before the place `here`: a slash that opened no comment and a quote that ended a string are no trivia
abbrev pub settled : {P : Type 0} → Mode → P → P → P
settled Plain s here = s
settled Slash s here = here
settled Text s here = s
settled Quoted s here = here
settled Remark s here = s
settled Starred s here = s

-- what the parameter reaches to after the byte c; s is that before the byte, k that when the last byte outside was read: whitespace is
-- left out, and so is a slash, until it is known to open no comment
abbrev pub solid_after : {P : Type 0} → Bool → Bool → ℕ → P → P → P → P
solid_after out b c s k past = pick out (pick (white c || eqb c 47) s past) (pick b past k)

-- "a comma at depth 0", "A `)` at depth 0 leaves it 0": the open parentheses after the byte c outside literals and comments
abbrev pub level : Bool → ℕ → ℕ → ℕ
level out d c = pick out (pick (eqb c 40) (suc d) (pick (eqb c 41) (d - 1) d)) d

-- the lexer's mode after the byte c; a binary literal leaves it plain
abbrev pub mode_after : Bool → Mode → ℕ → Mode
mode_after b m c = pick b m (next_mode m c)

-- "`"` opens a binary literal", which the next one ends: whether one is open after the byte c
abbrev pub binary_after : Bool → Bool → ℕ → Bool
binary_after out b c = pick b (not (eqb c 34)) (out && eqb c 34)

-- the state of a parameter's reading after the byte c
abbrev pub passed : Stand → Bool → ℕ → List ℕ → Stand
passed s out c r =
    stand
    (mode_after s.binary s.mode c)
    (binary_after out s.binary c)
    (level out s.depth c)
    (pick out (c ∷ r) s.opened)
    (solid_after out s.binary c (settled s.mode s.solid (c ∷ r)) s.solid r)

-- one byte: the parameter ends at a comma at depth 0, outside strings, binary literals and comments
abbrev pub cut_turn : Stand → ℕ → List ℕ → Turn Stand ParamEnd
cut_turn s c r =
    pick (outside_literals s.binary s.mode c && (eqb c 44 && eqb s.depth 0))
    (stop (stops_before (settled s.mode s.solid (c ∷ r)) (c ∷ r)))
    (on (passed s (outside_literals s.binary s.mode c) c r))

-- the bytes ended in this mode: a string is open, or "an open comment runs to the end", or nothing is open
abbrev pub ended_in_mode : Mode → List ℕ → List ℕ → ParamEnd
ended_in_mode Plain s o = stops_before s []
ended_in_mode Slash s o = stops_before [] []
ended_in_mode Text s o = literal_open o
ended_in_mode Quoted s o = stops_before [] []
ended_in_mode Remark s o = stops_before s []
ended_in_mode Starred s o = stops_before s []

-- what is cut of a parameter where the bytes ended in this state
abbrev pub cut_end : Stand → ParamEnd
cut_end s = pick s.binary (literal_open s.opened) (ended_in_mode s.mode s.solid s.opened)

-- the parameter that starts with xs
unfoldable pub cut_of : List ℕ → ParamEnd
cut_of xs = walk cut_turn cut_end (stand Plain false 0 xs xs) xs

-- "an open comment runs to the end": what is left after trivia
abbrev pub runs_out : Sought → List ℕ
runs_out (at r) = r
runs_out (fault n r) = []

-- "A parameter starts after trivia": what is left there
unfoldable pub started : List ℕ → List ℕ
started xs = runs_out (trivia xs)

-- "one comma is eaten": what is left after it
abbrev pub eaten : List ℕ → List ℕ
eaten [] = []
eaten (c ∷ r) = r
