-- What the parameters of a record need of lent memory: the greatest text, list and grid of a record without a walk. No parameter that a reader of
-- its arguments finds has more, and one has just so much. Greatest.antt shows that Lengths.antt computes just this. Assumes nothing.
-- Definitions to be believed: no law, and nothing computed that no theorem ties (docs/BELIEVE.md).
use Rattle.std.specs.Prelude.{ℕ, ◌-◌, max, min, suc, ◌+◌, ◌≤◌, List, ◌≡◌, ◌⊎◌, length, take, drop}
use Rattle.std.proofs.Math.Option.{some}
use Rattle.common.specs.Pick.{pick}
use Rattle.error.specs.Refusal.{good}
use Rattle.statement.specs.Rows.{HeaderRow}
use Rattle.strings.specs.Answer.{largest_u64}
use Rattle.strings.specs.Text.{bytes_of}
use Rattle.params.specs.Reader.{param_of}
use Rattle.params.specs.Answer.{Span}
use Rattle.lists.specs.Items.{list_by}
use Rattle.lists.specs.Answer.{values_of, anything}
use Rattle.words.specs.Words.{is_string}
use Rattle.words.specs.Answer.{span_bytes}
use Rattle.parts.specs.Part.{next_part_of}
use Rattle.grids.specs.Grid.{flat}
use Rattle.argument_sizes.specs.declared.Sizes.{Sizes}

-- "A string parameter has two bytes or more and a quote first; its text lies between first and last byte": the length of its text
unfoldable pub text_len : List ℕ → ℕ
text_len t = pick (is_string t) (min largest_u64 (length (bytes_of (take (length t - 1 - 1) (drop 1 t))))) 0

-- "A list is `(`..`)`; its inside is [..] cut at depth-0 commas": how many items it has, whatever they read as; what is no list has none
unfoldable pub items_len : List ℕ → ℕ
items_len t = length (values_of (list_by anything t))

-- the rows of a list of lists, whatever their items read as; any other parameter has none
abbrev pub grid_rows : List ℕ → List (List (Unit {0}))
grid_rows t = values_of (list_by (list_by anything) t)

-- "Grids go to a lent list of numbers": how many a list or a grid has
unfoldable pub numbers_len : List ℕ → ℕ
numbers_len t = max (items_len t) (length (flat (grid_rows t)))

-- "and one of row ends": how many rows a grid has
unfoldable pub rows_len : List ℕ → ℕ
rows_len t = length (grid_rows t)

-- sizes from their three numbers
abbrev pub sizes : ℕ → ℕ → ℕ → Sizes
sizes x n r = record { text = x; items = n; rows = r }

-- the greater of each of two sizes
abbrev pub greater_sizes : Sizes → Sizes → Sizes
greater_sizes a b = sizes (max a.text b.text) (max a.items b.items) (max a.rows b.rows)

-- the sizes where nothing is needed
abbrev pub no_sizes : Sizes
no_sizes = sizes 0 0 0

-- a reader that stood at p and reads up to e now stands at q, past n parameters
pub data ReaderPasses (s : List ℕ) (e : ℕ) : ℕ → ℕ → ℕ → Type 0 where
  here : {p : ℕ} → ReaderPasses s e 0 p p
  past : {n p q : ℕ} (a : Span) → (param_of s p e).answer ≡ good a → ReaderPasses s e n (param_of s p e).place q → ReaderPasses s e (suc n) p q

-- t is a parameter of the arguments from p up to e: the argument reader comes to it
pub record Param (s : List ℕ) (p e : ℕ) (t : List ℕ) : Type 0 where
  pub count : ℕ
  pub place : ℕ
  pub passes : ReaderPasses s e count p place
  pub span : Span
  pub found : (param_of s place e).answer ≡ good span
  pub text : span_bytes s span ≡ t

-- parts are sought from p up to e, and after n of them from q
pub data Seeks (s : List ℕ) (e : ℕ) : ℕ → ℕ → ℕ → Type 0 where
  first : {p : ℕ} → Seeks s e 0 p p
  later : {n p q : ℕ} (w : HeaderRow) → next_part_of s p e ≡ good (some w) → Seeks s e n (w.arg_end + 1) q → Seeks s e (suc n) p q

-- w is a part of a complex record whose arguments run from p up to e
pub record Part (s : List ℕ) (p e : ℕ) (w : HeaderRow) : Type 0 where
  pub count : ℕ
  pub place : ℕ
  pub seeks : Seeks s e count p place
  pub found : next_part_of s place e ≡ good (some w)

-- t is a parameter of a record: of its arguments as they stand, or of one of its parts where it is complex
pub data Arg (s : List ℕ) (p e complex : ℕ) (t : List ℕ) : Type 0 where
  plain : Param s p e t → Arg s p e complex t
  in_part : complex ≡ 1 → (w : HeaderRow) → Part s p e w → Param s w.arg_start w.arg_end t → Arg s p e complex t

-- one of which P holds has just l, or l is 0
abbrev pub Attained : (List ℕ → ℕ) → (List ℕ → Type 0) → ℕ → Type 0
Attained f P l = (l ≡ 0) ⊎ ((t : List ℕ) × P t × (f t ≡ l))

-- l is the greatest f of those of which P holds: none has more, and one has just so much
pub record Greatest (P : List ℕ → Type 0) (f : List ℕ → ℕ) (l : ℕ) : Type 0 where
  pub all : (t : List ℕ) → P t → f t ≤ l
  pub one : Attained f P l
