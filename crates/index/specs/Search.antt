-- The search in the slots. It is fixed for any slots, what they hold being the index or not.
-- Assumes nothing.
use Rattle.std.specs.Prelude.{ℕ, zero, suc, ◌+◌, ◌-◌, ◌*◌, ◌/◌, ◌%◌, ◌^◌, min, max, Bool, ◌&&◌, List, ltb, leb, eqb, length, get_or, Option, Some, None}
use Rattle.common.specs.Pick.{pick}
use Rattle.common.specs.Walk.{Turn, stop, on, turned}
use Rattle.table.specs.Table.{id_of, rows_fit}
use Rattle.index.specs.KeyOrder.{slot_row, slot_id, table_room}
use Rattle.index.specs.declared.Ids.{Ids}

-- where a search stands: in the index, slots before lo hold ids up to the one sought, the last of them `under`; slots from hi on hold greater
-- ids, the first of them `over`; so many guided probes are left
pub record Bracket : Type 0 where
  pub lo : ℕ
  pub hi : ℕ
  pub under : ℕ
  pub over : ℕ
  pub guided : ℕ

-- a bracket from its parts
abbrev pub bracket : ℕ → ℕ → ℕ → ℕ → ℕ → Bracket
bracket l h u o g = record { lo = l; hi = h; under = u; over = o; guided = g }

-- the slot where an id would stand if ids rose evenly from slot lo - 1 to slot hi
abbrev pub evenly : ℕ → Bracket → ℕ
evenly k b = b.lo - 1 + (k - b.under) * (b.hi + 1 - b.lo) / (b.over - b.under)

-- the slot where an id would stand if ids rose by one a slot from the nearer end
abbrev pub stepped : ℕ → Bracket → ℕ
stepped k b = pick (leb (k - b.under) (b.over - k)) (b.lo - 1 + (k - b.under)) (b.hi - (b.over - k))

-- the slot in the middle of a bracket
abbrev pub middle : Bracket → ℕ
middle b = b.lo + (b.hi - b.lo) / 2

-- the slot of a bracket to look at: evenly while guided probes are left, stepped at the last of them, and then the middle
abbrev pub guess : ℕ → Bracket → ℕ
guess k b = pick (eqb b.guided 0) (middle b) (pick (eqb b.guided 1) (stepped k b) (evenly k b))

-- the slot of a bracket to look at, brought into the bracket
abbrev pub probe_of : ℕ → Bracket → ℕ
probe_of k b = max b.lo (min (guess k b) (b.hi - 1))

-- the bracket of a search after a look at slot m, which holds this id
abbrev pub narrowed : ℕ → Bracket → ℕ → ℕ → Bracket
narrowed k b m id = pick (leb id k) (bracket (m + 1) b.hi id b.over (b.guided - 1)) (bracket b.lo m b.under id (b.guided - 1))

-- one look at slot m: where no id stands twice and it holds the id sought, the slots up to it end there
abbrev pub look_at_slot : ℕ → Bool → Bracket → ℕ → ℕ → Turn Bracket ℕ
look_at_slot k distinct b m id = pick (distinct && eqb id k) (stop (m + 1)) (on (narrowed k b m id))

-- one turn: the bracket is empty, or slot m is looked at; `g` gives the id in a slot
abbrev pub turn_at : ℕ → Bool → (ℕ → ℕ) → Bracket → ℕ → Turn Bracket ℕ
turn_at k distinct g b m = pick (ltb b.lo b.hi) (look_at_slot k distinct b m (g m)) (stop b.lo)

-- one turn of a search: the bracket is empty, or the slot is looked at that the bracket gives
abbrev pub bracket_turn : ℕ → Bool → (ℕ → ℕ) → Bracket → Turn Bracket ℕ
bracket_turn k distinct g b = turn_at k distinct g b (probe_of k b)

-- the slots that hold ids up to the one sought end here: turn by turn, the bracket narrowing with each
unfoldable pub end_from : ℕ → ℕ → Bool → (ℕ → ℕ) → Bracket → ℕ
end_from zero k distinct g b = b.lo
end_from (suc n) k distinct g b = turned (bracket_turn k distinct g b) (λ c. end_from n k distinct g c)

-- where the slots up to the id sought end, by as many turns as the bracket's end, which are never all needed (`LookCount.end_log`)
abbrev pub search_end : ℕ → Bool → (ℕ → ℕ) → Bracket → ℕ
search_end k distinct g b = end_from b.hi k distinct g b

-- the bracket of n slots, whose first id and last stand beside them
abbrev pub whole_bracket : ℕ → ℕ → ℕ → Bracket
whole_bracket n first last = bracket 1 (n - 1) first last 6

-- where range i of the guide begins: what slot i says, and n past the slots; never more than n, whatever they hold
abbrev pub start_at : List ℕ → ℕ → ℕ → ℕ
start_at slots n i = pick (ltb i n) (min (get_or slots i 0) n) n

-- how many ids a range of the guide has; a shift counts below 32
abbrev pub range_width : ℕ → ℕ
range_width shift = 2 ^ (shift % 32)

-- the rows that the guide leaves for an id: those of its range, which are the range q of w ids each, without the first row of all and the
-- last, whose ids stand beside the slots
abbrev pub guide_bracket : List ℕ → ℕ → ℕ → ℕ → ℕ → ℕ → Bracket
guide_bracket slots n first last w q = bracket (max 1 (start_at slots n q)) (min (start_at slots n (q + 1)) (n - 1)) (first + q * w) (min (first + (q + 1) * w) last) 4

-- the row where an id would stand if its range of w ids were filled evenly
abbrev pub among : ℕ → ℕ → Bracket → ℕ
among k w b = b.lo + (k - b.under) * (b.hi - b.lo) / w

-- the rows up to an id end here, in the bracket of a range of w ids: the first look is where it would stand, and the search follows
abbrev pub range_end : ℕ → Bool → (ℕ → ℕ) → Bracket → ℕ → ℕ
range_end k distinct g b w = turned (turn_at k distinct g b (among k w b)) (λ c. search_end k distinct g c)

-- the rows up to an id end here, by the guide
unfoldable pub guide_end : ℕ → Bool → (ℕ → ℕ) → List ℕ → ℕ → ℕ → ℕ → ℕ → ℕ
guide_end k distinct g slots n first last shift = range_end k distinct g (guide_bracket slots n first last (range_width shift) ((k - first) / range_width shift)) (range_width shift)

-- the slots up to an id end here, where n ids rise by one step
abbrev pub even_end : ℕ → ℕ → ℕ → ℕ → ℕ
even_end k n first last = (k - first) * (n - 1) / (last - first) + 1

-- the slots up to an id end here, for n slots: all of them where the last id is not above it, none where the first is; else by the step,
-- by the guide or by the search through all
abbrev pub end_of : ℕ → Ids → List ℕ → (ℕ → ℕ) → ℕ → ℕ
end_of k b slots g n = pick (leb b.last k) n (pick (ltb k b.first) 0 (pick b.even (even_end k n b.first b.last) (pick b.direct (guide_end k b.distinct g slots n b.first b.last b.shift) (search_end k b.distinct g (whole_bracket n b.first b.last)))))

-- row r is one of n, and has the id sought
abbrev pub row_has_id : (ℕ → ℕ) → ℕ → ℕ → ℕ → Bool
row_has_id f n r k = ltb r n && eqb (f r) k

-- the row before an end, where the table has it and its id is the one sought
abbrev pub served_of : (ℕ → ℕ) → List ℕ → Bool → ℕ → ℕ → ℕ → Option ℕ
served_of f slots direct n k e = pick (eqb e 0) None (pick (row_has_id f n (slot_row direct slots (e - 1)) k) (Some (slot_row direct slots (e - 1))) None)

-- what the search through brackets answers, of R rows whose ids f tells
abbrev pub sought_in : (ℕ → ℕ) → ℕ → List ℕ → Ids → ℕ → Option ℕ
sought_in f R slots b k = served_of f slots b.direct n k (end_of k b slots (slot_id f b.direct slots) n)
  where
    n : ℕ
    n = table_room R (length slots) b.count

-- the row to look at first: no id stands twice and each range has one id, so that ids are dense and an id's slot is as far from the first
-- as it is from the first id; else a number that no row has
abbrev pub first_row : List ℕ → Ids → ℕ → ℕ
first_row slots b k = pick (ltb k b.first) 4294967295 (pick (b.distinct && eqb b.shift 0) (slot_row b.direct slots (k - b.first)) 4294967295)

-- what a search of R rows answers, for any slots and any numbers beside them: the row that is looked at first, where it has the id, else what is
-- sought
abbrev pub search_in : (ℕ → ℕ) → ℕ → List ℕ → Ids → ℕ → Option ℕ
search_in f R slots b k =
    pick (row_has_id f (table_room R (length slots) b.count) (first_row slots b k) k) (Some (first_row slots b k)) (sought_in f R slots b k)

-- the search through brackets, of a table in lent memory
abbrev pub sought_in_slots : List ℕ → List ℕ → Ids → ℕ → Option ℕ
sought_in_slots rows slots b k = sought_in (id_of rows) (rows_fit (length rows)) slots b k

-- "Lookup of an id": what a search of a table in lent memory answers
abbrev pub searched : List ℕ → List ℕ → Ids → ℕ → Option ℕ
searched rows slots b k = search_in (id_of rows) (rows_fit (length rows)) slots b k
