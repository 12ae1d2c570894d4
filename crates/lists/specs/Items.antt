-- Document 01, 'Parameters': lists and their items. "A list is `(`..`)`; its inside is handed on as a part and cut at depth-0 commas,
-- items trimmed of whitespace only." One definition serves every kind of item: an item that is a list itself makes a grid.
-- Assumes nothing.
use Rattle.std.specs.Prelude.{ℕ, zero, suc, ◌+◌, ◌-◌, ◌≤◌, ◌≡◌, Bool, true, false, ◌&&◌, List, [], ◌∷◌, ◌++◌, Result, Ok, Err, eqb, length, take, drop, get_or}
use Rattle.common.specs.Pick.{pick}
use Rattle.lex.specs.Byte.{white}
use Rattle.record.specs.Text.{before, past}
use Rattle.record.specs.Word.{trimmed}
use Rattle.reals.specs.Answer.{Answer}
use Rattle.reals.specs.declared.NotRead.{NotRead}
use Rattle.scalars.specs.Answer.{number_of}
use Rattle.params.specs.ParameterEnd.{cut_of}
use Rattle.params.specs.Answer.{ParamEnd, stops_before, literal_open}
use Rattle.lists.specs.Answer.{Fate, fine, faulty, shifted, as_fate, consed, values_of}
use Rattle.lists.specs.declared.Item.{Item}
use Rattle.lists.specs.declared.Shape.{Shape}
use Rattle.lists.specs.declared.Shape.TheVariants.{NotList, Blank, Full}

-- an item ends as a parameter does, and an open literal runs to the end of the list: the Rust; no list has one, since its parameter would
-- have been 11
abbrev pub bound_of : ParamEnd → List ℕ
bound_of (stops_before z b) = b
bound_of (literal_open o) = []

-- "cut at depth-0 commas": the rest from the comma that ends the item, or nothing
unfoldable pub item_end : List ℕ → List ℕ
item_end xs = bound_of (cut_of xs)

-- "items trimmed of whitespace only": what is left of the bytes of the item that begins xs, up to its comma
unfoldable pub item_text : List ℕ → List ℕ
item_text xs = trimmed (before xs (item_end xs))

-- how many bytes of the item that begins xs stand before its text without whitespace
unfoldable pub indent : List ℕ → ℕ
indent xs = length (before xs (item_end xs)) - length (past white (before xs (item_end xs)))

-- the item that begins xs, read by g
unfoldable pub item_by : {A : Type 0} → (List ℕ → Fate A) → List ℕ → Fate A
item_by g xs = shifted (indent xs) (g (item_text xs))

-- "the first bad item gives 12 or 13": what follows is read only after an item that reads
abbrev pub headed : {A : Type 0} → Fate A → (Unit {0} → Fate (List A)) → Fate (List A)
headed (fine a) k = consed a (k tt)
headed (faulty n o) k = faulty n o

-- what k reads behind a comma; where no comma stands, there is nothing
abbrev pub past_comma : {A : Type 0} → List ℕ → (List ℕ → Fate (List A)) → Fate (List A)
past_comma [] k = fine []
past_comma (c ∷ r) k = k r

-- the items from xs on, which stands o bytes into the list; the first number is one more than the bytes that are left, at least
unfoldable pub items_from : {A : Type 0} → ℕ → (List ℕ → Fate A) → ℕ → List ℕ → Fate (List A)
items_from zero g o xs = fine []
items_from (suc n) g o xs =
    headed (shifted o (item_by g xs)) (λ u. past_comma (item_end xs) (λ r. items_from n g (o + (length xs - length r)) r))

-- all items in a list's inside
abbrev pub items_in : {A : Type 0} → (List ℕ → Fate A) → List ℕ → Fate (List A)
items_in g b = items_from (suc (length b)) g 0 b

-- whether a list of bytes is empty
abbrev pub is_none : List ℕ → Bool
is_none [] = true
is_none (c ∷ r) = false

-- "`()` has no item", nor has a list of whitespace alone: whether a list's inside is such
unfoldable pub is_blank : List ℕ → Bool
is_blank b = is_none (trimmed b)

-- all items of a list's inside, none where that is whitespace alone
unfoldable pub items_by : {A : Type 0} → (List ℕ → Fate A) → List ℕ → Fate (List A)
items_by g b = pick (is_blank b) (fine []) (items_from (suc (length b)) g 0 b)

-- the inside of a list, if a text is one
pub data Body : Type 0 where
  inside : List ℕ → Body
  bare : Body

-- "A list is `(`..`)`": the inside of a text that is a list, or that it is none
unfoldable pub body_of : List ℕ → Body
body_of [] = bare
body_of (c ∷ r) = pick (eqb c 40 && eqb (get_or r (length r - 1) 0) 41) (inside (take (length r - 1) r)) bare

-- the items of a list, by its inside; what is no list is 12 at its start
abbrev pub listed : {A : Type 0} → (List ℕ → Fate A) → Body → Fate (List A)
listed g (inside b) = shifted 1 (items_by g b)
listed g bare = faulty 12 0

-- a list whose items g reads; where g reads lists, a grid
unfoldable pub list_by : {A : Type 0} → (List ℕ → Fate A) → List ℕ → Fate (List A)
list_by g t = listed g (body_of t)

-- a list of scalars that f reads
abbrev pub list_of : {A : Type 0} → (List ℕ → Answer A) → List ℕ → Fate (List A)
list_of f t = list_by (λ u. as_fate (f u)) t

-- ---- what the code's parts promise

-- an item of the list's inside b, from i on: its text, where that stands, and its comma or the end
pub record ItemAt (b : List ℕ) (i : ℕ) (r : Item) : Type 0 where
  pub ends : drop r.bound b ≡ item_end (drop i b)
  pub text : take (r.stop - r.start) (drop r.start b) ≡ item_text (drop i b)
  pub begins : r.start ≡ i + indent (drop i b)
  pub ordered : r.start ≤ r.stop
  pub short : r.stop ≤ r.bound
  pub above : i ≤ r.bound
  pub within : r.bound ≤ length b

-- what a text is: no list, one without items, or one with them
abbrev pub ShapeAt : List ℕ → Shape → Type 0
ShapeAt t NotList = body_of t ≡ bare
ShapeAt t Blank = (b : List ℕ) × (body_of t ≡ inside b) × (is_blank b ≡ true)
ShapeAt t Full = (2 ≤ length t) × (body_of t ≡ inside (take (length t - 1 - 1) (drop 1 t))) × (is_blank (take (length t - 1 - 1) (drop 1 t)) ≡ false)

-- what the code says of an item: whether it reads
abbrev pub told_verdict : Result (Unit {0}) NotRead → Fate (Unit {0})
told_verdict (Ok u) = fine tt
told_verdict (Err w) = faulty (number_of w) 0

-- a list reads, and there is room for its numbers
abbrev pub Ready : {A : Type 0} → Fate (List A) → ℕ → Type 0
Ready a room = (a ≡ fine (values_of a)) × (length (values_of a) ≤ room)

-- the lent list with these numbers in front
abbrev pub filled : {A : Type 0} → List A → List A → List A
filled vs out = vs ++ drop (length vs) out

-- the first values of a list that reads stand in a list beside it, which was old and is new, as far as that goes
abbrev pub Kept : {A : Type 0} → Fate (List A) → List A → List A → Type 0
Kept (fine vs) old new = new ≡ take (length old) (filled vs old)
Kept (faulty n o) old new = Unit {0}

-- a list no longer than the numbers beside it stands there whole
abbrev pub Held : {A : Type 0} → Fate (List A) → List A → Type 0
Held a first = length (values_of a) ≤ length first → take (length (values_of a)) first ≡ values_of a
