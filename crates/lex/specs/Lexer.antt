-- The lexer of ISO 10303-21 as document 01 has it: in which mode a byte is read, and which mode it leaves.
-- "A comment runs from `/*` to the first `*/` that begins after it." "A string ends at a quote not followed by a quote."
-- Assumes nothing.
use Rattle.std.specs.Prelude.{ℕ, Bool, true, false, not, eqb}
use Rattle.common.specs.Pick.{pick}
use Rattle.lex.specs.declared.Mode.{Mode}
use Rattle.lex.specs.declared.Mode.TheVariants.{Plain, Slash, Text, Quoted, Remark, Starred}

-- the byte c, read in this mode, stands outside strings and comments; the quote that opens a string does, and the `/` that
-- opens a comment
abbrev pub calm : Mode → ℕ → Bool
calm Plain c = true
calm Slash c = not (eqb c 42)
calm Text c = false
calm Quoted c = not (eqb c 39)
calm Remark c = false
calm Starred c = false

-- the mode after a byte outside strings and comments: a quote opens a string, and a slash may open a comment
abbrev pub fresh : ℕ → Mode
fresh c = pick (eqb c 39) Text (pick (eqb c 47) Slash Plain)

-- the mode after the byte c: a `*` after a slash opens the comment, whose own `*` closes nothing; a quote in a string ends it,
-- unless a second one follows
abbrev pub next_mode : Mode → ℕ → Mode
next_mode Plain c = fresh c
next_mode Slash c = pick (eqb c 42) Remark (fresh c)
next_mode Text c = pick (eqb c 39) Quoted Text
next_mode Quoted c = pick (eqb c 39) Text (fresh c)
next_mode Remark c = pick (eqb c 42) Starred Remark
next_mode Starred c = pick (eqb c 47) Plain (pick (eqb c 42) Starred Remark)
