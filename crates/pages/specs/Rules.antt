-- Document 02, #109: which page a letter selects, and the character that a sum of `\S\` gives on a page, as rules. Right.antt shows that
-- Pages.antt computes just this, and that there is no other answer. `A` is 65, `I` 73, `a` 97 and `i` 105. Assumes nothing.
-- Definitions to be believed: no law, and nothing computed that no theorem ties (docs/BELIEVE.md).
use Rattle.std.specs.Prelude.{ℕ, ◌+◌, ◌<◌}
use Rattle.utf8.specs.Rfc3629.{In}
use Rattle.pages.specs.Tables.{page_entry}

-- the page that a byte selects
pub data Selects : ℕ → ℕ → Type 0 where
  -- "Page letters A to I select ISO 8859-1 to 8859-9"
  capital : {p : ℕ} → p < 9 → Selects (65 + p) p
  -- "letters in either case"
  small : {p : ℕ} → p < 9 → Selects (97 + p) p
  -- "any other byte [..] means page A"
  other : {b : ℕ} → (In 65 73 b → ⊥) → (In 97 105 b → ⊥) → Selects b 0

-- the character that a sum gives on a page
pub data Coded : ℕ → ℕ → ℕ → Type 0 where
  -- "the tables for codes A0 to FF"
  listed : {p n : ℕ} → In 0xA0 0xFF n → Coded p n (page_entry p n)
  -- "sums outside A0 to FF stay as before": the sum is the character
  outside : {p n : ℕ} → (In 0xA0 0xFF n → ⊥) → Coded p n n

-- "any other byte, and a fresh string, means page A"
abbrev pub page_a : ℕ
page_a = 0
