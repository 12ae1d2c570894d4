-- A usual data record, read in one walk: what its pieces promise. No contract of a public function cites these: UsualRight.antt shows that
-- what such a walk answers is what Statement.antt says, and a record that is not usual is read by the searches themselves.
-- Assumes nothing.
use Rattle.std.specs.Prelude.{ℕ, ◌+◌, ◌/◌, ◌%◌, ◌^◌, ◌≤◌, ◌<◌, ◌≡◌, Bool, not, ◌||◌, List, ◌∷◌, ◌++◌, eqb, length, drop, get_or, Option, Some, None, Ok}
use Rattle.lex.specs.Search.{record_end, closing, semicolon, paren}
use Rattle.lex.specs.Answer.{at}
use Rattle.lex.specs.Right.Steps.{plainly}
use Rattle.record.specs.Text.{past}
use Rattle.record.specs.Head.{data_head}
use Rattle.record.specs.declared.Head.{Head}
use Rattle.record.specs.declared.Head.TheVariants.{Complex, Simple}
use Rattle.statement.specs.Rows.{data_statement, told_row}
use Rattle.statement.specs.Statement.{begun}
use Rattle.statement.specs.Tidy.{unended, tidy}
use Rattle.statement.specs.declared.Section.{Section}
use Rattle.statement.specs.declared.RecordSpan.{RecordSpan}

-- the bits 39, 40, 41, 47 and 59: a quote, the parentheses, a slash, a `;`
abbrev pub marks : ℕ
marks = 576605338082476032

-- a byte that a walk has to look at: its number modulo 64 is a bit of `marks`
unfoldable pub is_looked_at : ℕ → Bool
is_looked_at c = eqb ((marks / 2 ^ (c % 64)) % 2) 1

-- a byte that changes nothing outside strings and comments
abbrev pub is_plain_byte : ℕ → Bool
is_plain_byte c = not (is_looked_at c)

-- a byte at which the walk over a string's inside stops
abbrev pub stops_string : ℕ → Bool
stops_string c = eqb c 39 || eqb c 59

-- a byte at which the walk over a string's inside does not stop
abbrev pub spoken : ℕ → Bool
spoken c = not (stops_string c)

-- from xs with d open parentheses to ys with e: what is sought outside strings and comments is sought on from ys, be it a record's `;` or the
-- closing `)`; and no byte on the way is a `;`
pub record Way (d e : ℕ) (xs ys : List ℕ) : Type 0 where
  pub ends : (n : ℕ) (w : List ℕ) → plainly semicolon n w 0 xs ≡ plainly semicolon n w 0 ys
  pub closes : (n : ℕ) (w : List ℕ) → plainly paren n w d xs ≡ plainly paren n w e ys
  pub first : past unended xs ≡ past unended ys

-- what a step of the walk answers: from where it goes on with how many open parentheses; none where something unusual is met
abbrev pub WalkStep : List ℕ → ℕ → ℕ → Option (ℕ × ℕ) → Type 0
WalkStep s i d None = Unit {0}
WalkStep s i d (Some (j, e)) = (i < j) × (j ≤ length s) × (e ≤ d + 1) × Way d e (drop i s) (drop j s)

-- what the walk answers: the place of the closing `)`; none where something unusual is met first
abbrev pub ClosingFound : List ℕ → ℕ → Option ℕ → Type 0
ClosingFound s from None = Unit {0}
ClosingFound s from (Some r) = (r < length s) × (from ≤ r) × (get_or s r 0 ≡ 41) × Way 0 0 (drop from s) (drop r s)

-- what stands before the `(` of a data record, t, says whatever follows the `(`
abbrev pub Headed : List ℕ → Option Head → Type 0
Headed t None = Unit {0}
Headed t (Some (Complex i o)) = (o ≡ length t) × ((r : List ℕ) → Ok (Complex i o) ≡ data_head (t ++ (40 ∷ r)))
Headed t (Some (Simple i a z o)) = (a ≤ length t) × (z ≤ length t) × (o ≡ length t) × ((r : List ℕ) → Ok (Simple i a z o) ≡ data_head (t ++ (40 ∷ r)))

-- a record from p on whose first `(` stands at o, the `)` that closes it at c and its `;`, the first one at all, at e
pub record Walked (s : List ℕ) (p o c e : ℕ) : Type 0 where
  pub hash : get_or s p 0 ≡ 35
  pub opens : get_or s o 0 ≡ 40
  pub closed : closing (drop o s) ≡ at (drop c s)
  pub found : record_end (drop p s) ≡ at (drop e s)
  pub first : past unended (drop p s) ≡ drop e s
  pub from : p ≤ o
  pub over : o < c
  pub upto : c < e
  pub within : e < length s

-- what `usual_record` answers: a record that is the statement that begins at p, and whether it is tidy; or nothing
abbrev pub UsualSaid : List ℕ → ℕ → Section → Option (RecordSpan × ℕ × Bool) → Type 0
UsualSaid s p sec None = Unit {0}
UsualSaid s p sec (Some (span, n, b)) =
    (data_statement (told_row span) (drop p s) (drop n s) ≡ begun s sec (drop p s)) × (p < n) × (n ≤ length s) × (b ≡ tidy s (data_statement (told_row span) (drop p s) (drop n s)))
