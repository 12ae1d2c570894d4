-- Document 02, #109: which page a letter selects, and the character that a sum of `\S\` gives on a page, computed. Rules.antt has the same as
-- rules. Pages are counted from 0: page A, ISO 8859-1, is 0, and page I, ISO 8859-9, is 8. Assumes nothing.
use Rattle.std.specs.Prelude.{ℕ, ◌-◌, ◌&&◌, leb}
use Rattle.common.specs.Pick.{pick}
use Rattle.pages.specs.Tables.{page_entry}
use Rattle.pages.specs.Rules.{page_a}

-- the page that a byte selects: "Page letters A to I select ISO 8859-1 to 8859-9 [..]; letters in either case"
abbrev pub page_of : ℕ → ℕ
page_of b = pick (leb 65 b && leb b 73) (b - 65) (pick (leb 97 b && leb b 105) (b - 97) page_a)

-- the character of a sum on a page: "the tables for codes A0 to FF [..]; sums outside A0 to FF stay as before"
abbrev pub code_of : ℕ → ℕ → ℕ
code_of p n = pick (leb 0xA0 n && leb n 0xFF) (page_entry p n) n
