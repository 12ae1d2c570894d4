-- The id index as plain numbers, for a host in another language.
-- Assumes nothing.
-- Definitions to be believed: no law, and nothing computed that no theorem ties (docs/BELIEVE.md).
use Rattle.std.specs.Prelude.{ℕ, min, ◌≡◌, Bool, true, false, ◌&&◌, List, leb, length}
use Rattle.std.proofs.lemmas.List.Edits.{sets}
use Rattle.common.specs.Pick.{pick}
use Rattle.table.specs.Table.{rows_fit, id_of}
use Rattle.index.specs.KeyOrder.{table_room}
use Rattle.index.specs.Index.{Built}
use Rattle.index.specs.declared.Ids.{Ids}
use Rattle.host_numbers.specs.Numbers.{ids_numbers}

-- what a host lends for the index of so many records suffices: there is room for eight numbers, and a slot for each record that the rows, of
-- this many numbers, have; and these are no more than 2^30, which is how many the index can hold
abbrev pub lent_enough : ℕ → ℕ → ℕ → ℕ → Bool
lent_enough rows count slots ids = (leb 8 ids && leb (min count (rows_fit rows)) slots) && leb (min count (rows_fit rows)) 1073741824

-- a host's answer to indexing: 0, or 16 where what is lent does not suffice
abbrev pub index_code : List ℕ → ℕ → List ℕ → List ℕ → ℕ
index_code rows count slots ids = pick (lent_enough (length rows) count (length slots) (length ids)) 0 16

-- what a host is left with: the index in the slots, and what stands beside them in the lent numbers; where what is lent does not
-- suffice, all as it was
pub data HostIndexed (rows : List ℕ) (count : ℕ) (slots after ids told : List ℕ) : Type 0 where
  short : lent_enough (length rows) count (length slots) (length ids) ≡ false → after ≡ slots → told ≡ ids → HostIndexed rows count slots after ids told
  built : lent_enough (length rows) count (length slots) (length ids) ≡ true → (b : Ids) → Built (id_of rows) (table_room (rows_fit (length rows)) (length slots) count) slots after b → told ≡ sets ids 0 (ids_numbers b) → HostIndexed rows count slots after ids told
