-- What the numbers that the code hands on stand for, and the answers of the public functions. Assumes nothing.
use Rattle.std.specs.Prelude.{ℕ, ◌≤◌, ◌<◌, ◌≡◌, true, false, List, [], ◌∷◌, ◌++◌, length, take, drop, Option, Some, None}
use Rattle.utf8.specs.Encoding.{encode_all}
use Rattle.strings.specs.declared.Char.{Char}
use Rattle.strings.specs.Text.{Group, char, wrong, Piece, plain, long_of, page_after, text_on}
use Rattle.strings.specs.Put.{Laid}

-- the group that the code's answer tells: none is a bad one
abbrev pub told_group : Option Char → Group
told_group (Some c) = char c.code c.used
told_group None = wrong

-- a piece as the code sees it: the bytes to write and the bytes read
pub record View : Type 0 where
  pub written : List ℕ
  pub used : ℕ

-- a piece as the code sees it, of a piece as the text has it
abbrev pub view_of : Piece → View
view_of p = record { written = encode_all p.chars; used = p.used }

-- the view of a piece with one character; a number that is no character stands for none
abbrev pub one_view : ℕ → ℕ → View
one_view c k = record { written = encode_all (c ∷ []); used = k }

-- the view of the character that stands at a backslash, and where none does, of a directive with groups or an unknown one
abbrev pub short_view : List ℕ → Option Char → View
short_view s (Some c) = one_view c.code c.used
short_view s None = view_of (long_of s)

-- a piece has been read: its bytes are put from place a on
pub record PiecePut (p : Piece) (a : ℕ) (o : List ℕ) (e k : ℕ) (q : List ℕ) : Type 0 where
  pub put : Laid a o (encode_all p.chars) e q
  pub read : k ≡ p.used

-- the first n bytes of s are plain, and where n is less than `to`, not all of s is plain
pub record PlainPassed (s : List ℕ) (to n : ℕ) : Type 0 where
  pub within : n ≤ to
  pub plainly : plain (take n s) ≡ true
  pub stops : n < to → plain s ≡ false

-- k plain bytes at the start are put from place a on
pub record PlainPut (s : List ℕ) (a : ℕ) (o : List ℕ) (e k : ℕ) (q : List ℕ) : Type 0 where
  pub within : k ≤ length s
  pub plainly : plain (take k s) ≡ true
  pub put : Laid a o (take k s) e q

-- on page g pieces have been read, at least one byte of them: their bytes are put from place a on, and the text goes on k bytes further, on
-- the page that the first of them leaves
pub record Turned (g : ℕ) (s : List ℕ) (a : ℕ) (o : List ℕ) (e k : ℕ) (q : List ℕ) : Type 0 where
  pub chars : List ℕ
  pub put : Laid a o (encode_all chars) e q
  pub ahead : text_on g s ≡ chars ++ text_on (page_after g s) (drop k s)
  pub some : 0 < k
  pub within : k ≤ length s
