-- A host's lookup answers like the map, and what it is left with is settled. Assumes nothing.
use Rattle.std.specs.Prelude.{ℕ, ◌-◌, ◌≤◌, ◌<◌, min, ◌≡◌, Bool, true, false, ◌&&◌, List, leb, eqb, length, get_or, Some}
use Rattle.std.proofs.Common.{sym, ◌∙◌, ap, subst, arith, leb-true}
use Rattle.std.proofs.lemmas.List.Edits.{sets}
use Rattle.common.specs.Tests.{both}
use Rattle.common.specs.Pick.{pick}
use Rattle.table.specs.Table.{rows_fit, id_of}
use Rattle.table.specs.Laws.{field_below}
use Rattle.index.specs.KeyOrder.{slot_row, table_room}
use Rattle.index.specs.Lookup.{lookup_of}
use Rattle.index.specs.Index.{Built, end_id}
use Rattle.index.specs.IndexLaws.{built_slots_only, built_only}
use Rattle.index.specs.Search.{searched}
use Rattle.index.specs.SearchRight.{found_right, found_safe}
use Rattle.index.specs.declared.Ids.{Ids}
use Rattle.host_numbers.specs.Numbers.{ids_numbers, ids_by}
use Rattle.host_numbers.specs.Laws.{ids_back}
use Rattle.export.specs.Ids.{lent_enough, HostIndexed, short, built}

-- no test passes and fails
lent_once : (t : Bool) → t ≡ true → t ≡ false → ⊥
lent_once true e f = let q : ◌≡◌ {A = ℕ} 0 1 = cc in omega arith
lent_once false e f = let q : ◌≡◌ {A = ℕ} 0 1 = cc in omega arith

-- what a host lends that suffices has room for eight numbers
pub lent_eight : (rows count slots ids : ℕ) → lent_enough rows count slots ids ≡ true → 8 ≤ ids
lent_eight rows count slots ids e =
    let h = both (leb 8 ids && leb (min count (rows_fit rows)) slots) (leb (min count (rows_fit rows)) 1073741824) e in
    leb-true 8 ids (both (leb 8 ids) (leb (min count (rows_fit rows)) slots) h.0).0

-- what a host lends that suffices has a slot for every record that is to be indexed: none is left out
pub lent_all : (rows count slots ids : ℕ) → lent_enough rows count slots ids ≡ true → table_room (rows_fit rows) slots count ≡ min count (rows_fit rows)
lent_all rows count slots ids e =
    let h = both (leb 8 ids && leb (min count (rows_fit rows)) slots) (leb (min count (rows_fit rows)) 1073741824) e in
    go (min count (rows_fit rows)) (leb-true (min count (rows_fit rows)) slots (both (leb 8 ids) (leb (min count (rows_fit rows)) slots) h.0).1) (leb-true (min count (rows_fit rows)) 1073741824 h.1)
  where
    go : (n : ℕ) → n ≤ slots → n ≤ 1073741824 → min n (min slots 1073741824) ≡ n
    go n a b = omega arith

-- what two answers to indexing leave with a host is the same
pub indexed_only : {rows : List ℕ} {count : ℕ} {slots xs ys ids us vs : List ℕ} → HostIndexed rows count slots xs ids us → HostIndexed rows count slots ys ids vs → (xs ≡ ys) × (us ≡ vs)
indexed_only (short h e f) (short k p q) = (e ∙ sym p, f ∙ sym q)
indexed_only (short h e f) (built k b p q) = absurd (lent_once _ k h)
indexed_only (built h a e f) (short k p q) = absurd (lent_once _ h k)
indexed_only {rows} {count} {slots} {xs} {ys} {ids} (built h a e f) (built k b p q) = (same, f ∙ ap (λ (c : Ids). sets ids 0 (ids_numbers c)) (built_only (id_of rows) n slots ys a b (subst (λ (zs : List ℕ). Built (id_of rows) n slots zs a) same e) p) ∙ sym q)
  where
    n : ℕ
    n = table_room (rows_fit (length rows)) (length slots) count

    same : xs ≡ ys
    same = built_slots_only (id_of rows) n slots xs ys a b e p

-- where all numbers of the rows have 32 bits, the id of each row has
id_small : (rows : List ℕ) → ((i : ℕ) → get_or rows i 0 < 4294967296) → (r : ℕ) → id_of rows r < 4294967296
id_small rows h r = field_below 6 rows r 4294967296 (omega arith) h 0

-- a host's lookup, by the slots and the numbers that the index left with it, answers like the map of all records that it named
pub host_right : {rows slots after ids told : List ℕ} {count : ℕ} → lent_enough (length rows) count (length slots) (length ids) ≡ true → ((i : ℕ) → get_or rows i 0 < 4294967296) → HostIndexed rows count slots after ids told → (k : ℕ)
    → searched rows after (ids_by told) k ≡ lookup_of (id_of rows) (min count (rows_fit (length rows))) k
host_right h w (short g e f) k = absurd (lent_once _ h g)
host_right {rows} {slots} {after} {ids} {told} {count} h w (built g b e f) k = ap (λ (c : Ids). searched rows after c k) (ap ids_by f ∙ ids_back b ids (let q = lent_eight (length rows) count (length slots) (length ids) h in omega (arith, q)) (small b.first (slot_row b.direct after 0) e.first) (small b.last (slot_row b.direct after ((table_room (rows_fit (length rows)) (length slots) count) - 1)) e.last) (let s = e.shift.short in omega arith)) ∙ found_right rows slots after count k b e ∙ ap (λ (n : ℕ). lookup_of (id_of rows) n k) (lent_all (length rows) count (length slots) (length ids) h)
  where
    room : ℕ
    room = table_room (rows_fit (length rows)) (length slots) count

    either : (t : Bool) (r : ℕ) → pick t 0 (id_of rows r) < 4294967296
    either true r = omega arith
    either false r = id_small rows w r

    small : (x r : ℕ) → x ≡ end_id (id_of rows) room r → x < 4294967296
    small x r q = subst (λ (y : ℕ). y < 4294967296) (sym q) (either (eqb room 0) r)

-- no row has the number that says that there is none
pub row_told : (rows slots : List ℕ) (b : Ids) (k r : ℕ) → searched rows slots b k ≡ Some r → r < 4294967295
row_told rows slots b k r e = let h = (found_safe rows slots b k r e).0 in omega arith
