-- A sweep over a part of the lent list: what each of its numbers then is, all others being as they were.
-- Assumes nothing.
use Rattle.std.specs.Prelude.{ℕ, ◌+◌, ◌≤◌, ◌<◌, ◌≡◌, refl, true, List, ◌⊎◌, length, get_or, set}
use Rattle.std.proofs.Common.{sym, ◌∙◌, subst, inl, inr, arith, length-set, get_or-set_same, get_or-set_other, lt-ltb, eq-eqb}
use Rattle.common.specs.Compare.{ordered, less_or}
use Rattle.table.specs.Table.{id_of, AllHave}
use Rattle.find_many.specs.Finds.{RowsTold, full}
use Rattle.find_many.specs.Hints.{indexed_rows, searched_number, Hint, hint_row}
use Rattle.index.specs.declared.Ids.{Ids}
use Rattle.index.specs.Search.{row_has_id}

-- the numbers from `from` up to `to` stand to the ids and to what stood in their place as P says, all others are as they were
pub record SweptBy (P : ℕ → ℕ → ℕ → Type 0) (ids before : List ℕ) (from to : ℕ) (after : List ℕ) : Type 0 where
  pub size : length after ≡ length before
  pub each : (i : ℕ) → from ≤ i → i < to → P (get_or ids i 0) (get_or before i 0) (get_or after i 0)
  pub front : (i : ℕ) → i < from → get_or after i 0 ≡ get_or before i 0
  pub rest : (i : ℕ) → to ≤ i → get_or after i 0 ≡ get_or before i 0

-- the numbers from `from` up to `to` stand to the ids as P says, all others are as they were
abbrev pub Swept : (ℕ → ℕ → Type 0) → List ℕ → List ℕ → ℕ → ℕ → List ℕ → Type 0
Swept P ids before from to after = SweptBy (λ k r v. P k v) ids before from to after

module _ (P : ℕ → ℕ → ℕ → Type 0) (ids before : List ℕ) (from : ℕ) where
  -- a sweep over no numbers leaves the list as it was
  pub swept_none : SweptBy P ids before from from before
  swept_none = record { size = refl; each = λ i h l. absurd (omega arith); front = λ i h. refl; rest = λ i h. refl }

  module _ (m : ℕ) (after : List ℕ) (h : SweptBy P ids before from m after) (f : from ≤ m) where
    -- a sweep goes one number further, once that is written
    swept_next : (x : ℕ) → m < length before → P (get_or ids m 0) (get_or before m 0) x → SweptBy P ids before from (m + 1) (set after m x)
    swept_next x l p = record { size = length-set after m x ∙ h.size; each = each; front = front; rest = rest }
      where
        here : get_or (set after m x) m 0 ≡ x
        here = let s = h.size in get_or-set_same after m x 0 (omega (arith, s, l))

        each : (i : ℕ) → from ≤ i → i < m + 1 → P (get_or ids i 0) (get_or before i 0) (get_or (set after m x) i 0)
        each i a o = go (ordered i m)
          where
            go : (i < m) ⊎ ((i ≡ m) ⊎ (m < i)) → P (get_or ids i 0) (get_or before i 0) (get_or (set after m x) i 0)
            go (inl u) = subst (λ (z : ℕ). P (get_or ids i 0) (get_or before i 0) z) (sym (get_or-set_other after m i x 0 (λ z. omega arith))) (h.each i a u)
            go (inr (inl u)) = subst (λ (z : ℕ). P (get_or ids z 0) (get_or before z 0) (get_or (set after m x) z 0)) (sym u) (subst (λ (z : ℕ). P (get_or ids m 0) (get_or before m 0) z) (sym here) p)
            go (inr (inr u)) = absurd (omega arith)

        front : (i : ℕ) → i < from → get_or (set after m x) i 0 ≡ get_or before i 0
        front i a = get_or-set_other after m i x 0 (λ z. omega arith) ∙ h.front i a

        rest : (i : ℕ) → m + 1 ≤ i → get_or (set after m x) i 0 ≡ get_or before i 0
        rest i a = get_or-set_other after m i x 0 (λ z. omega arith) ∙ h.rest i (omega arith)

-- a sweep that has come to the part's end is one over the part
pub swept_end : (P : ℕ → ℕ → ℕ → Type 0) (ids before after : List ℕ) (from m to : ℕ) → SweptBy P ids before from m after → m ≡ to → SweptBy P ids before from to after
swept_end P ids before after from m to h e = subst (λ (z : ℕ). SweptBy P ids before from z after) e h

-- a sweep over a part, which both lists have, that has come to m
pub record Sweeping (P : ℕ → ℕ → ℕ → Type 0) (ids before : List ℕ) (from to : ℕ) (after : List ℕ) (m : ℕ) : Type 0 where
  pub low : from ≤ m
  pub high : m ≤ to
  pub asked : to ≤ length ids
  pub room : to ≤ length before
  pub swept : SweptBy P ids before from m after

module _ {P : ℕ → ℕ → ℕ → Type 0} {ids before : List ℕ} {from to : ℕ} where
  -- a sweep over a part begins at its start, with the list as it was
  pub sweep_none : from ≤ to → to ≤ length ids → to ≤ length before → Sweeping P ids before from to before from
  sweep_none f a r = record { low = omega arith; high = f; asked = a; room = r; swept = swept_none P ids before from }

  module _ {after : List ℕ} {m : ℕ} (h : Sweeping P ids before from to after m) where
    -- a sweep over a part writes the next number, by the id and what still stands there, and comes one further
    pub sweep_next : m < to → {x : ℕ} → P (get_or ids m 0) (get_or after m 0) x → Sweeping P ids before from to (set after m x) (m + 1)
    sweep_next l {x} p =
        let r = h.room in
        let old : P (get_or ids m 0) (get_or before m 0) x = subst (λ (z : ℕ). P (get_or ids m 0) z x) (h.swept.rest m (omega arith)) p in
        record { low = omega arith; high = omega arith; asked = h.asked; room = r; swept = swept_next P ids before from m after h.swept h.low x (omega arith) old }

    -- what holds of the next id and of what stood beside it before the sweep holds of what stands there
    pub sweep_old : (Q : ℕ → ℕ → Type 0) → m < to → ((i : ℕ) → from ≤ i → i < to → Q (get_or ids i 0) (get_or before i 0)) → Q (get_or ids m 0) (get_or after m 0)
    sweep_old Q l q = subst (λ (z : ℕ). Q (get_or ids m 0) z) (sym (h.swept.rest m (omega arith))) (q m h.low l)

    -- a sweep over a part that has come to the part's end is done
    pub sweep_end : to ≤ m → SweptBy P ids before from to after
    sweep_end e = swept_end P ids before after from m to h.swept (omega arith)

-- a sweep after which P holds is one after which Q holds, where Q follows from P
pub swept_by : (P : ℕ → ℕ → ℕ → Type 0) (Q : ℕ → ℕ → Type 0) (ids xs ys : List ℕ) (from to : ℕ) → ((k r v : ℕ) → P k r v → Q k v) → SweptBy P ids xs from to ys → Swept Q ids xs from to ys
swept_by P Q ids xs ys from to f a = record { size = a.size; each = λ i h l. f (get_or ids i 0) (get_or xs i 0) (get_or ys i 0) (a.each i h l); front = a.front; rest = a.rest }

-- a second sweep over the same part is one over what stood there before the first
pub swept_then : (P Q : ℕ → ℕ → Type 0) (ids xs ys zs : List ℕ) (from to : ℕ) → Swept P ids xs from to ys → Swept Q ids ys from to zs → Swept Q ids xs from to zs
swept_then P Q ids xs ys zs from to a b =
    record { size = b.size ∙ a.size; each = b.each; front = λ i h. b.front i h ∙ a.front i h; rest = λ i h. b.rest i h ∙ a.rest i h }

-- a sweep after which P holds is one after which Q holds, where Q follows from P
pub swept_map : (P Q : ℕ → ℕ → Type 0) (ids xs ys : List ℕ) (from to : ℕ) → ((k v : ℕ) → P k v → Q k v) → Swept P ids xs from to ys → Swept Q ids xs from to ys
swept_map P Q ids xs ys from to f a = record { size = a.size; each = λ i h l. f (get_or ids i 0) (get_or ys i 0) (a.each i h l); front = a.front; rest = a.rest }

-- each of the rows that are told for the ids of a part is one of n, and has its id
abbrev pub AllStand : List ℕ → ℕ → List ℕ → List ℕ → ℕ → ℕ → Type 0
AllStand rows n ids found from to = (i : ℕ) → from ≤ i → i < to → row_has_id (id_of rows) n (get_or found i 0) (get_or ids i 0) ≡ true

-- rows that are told for the ids of a part and have them are each one of n, and have their ids
pub have_stand : (rows : List ℕ) (n : ℕ) (ids found : List ℕ) (from to : ℕ) → AllHave rows n ids found from to → AllStand rows n ids found from to
have_stand rows n ids found from to h i a l = rw (lt-ltb (get_or found i 0) n (h.below i a l)) (eq-eqb (id_of rows (get_or found i 0)) (get_or ids i 0) (h.have i a l))

-- hints that all have their ids are what the search tells
pub swept_stood : (rows slots : List ℕ) (b : Ids) (n : ℕ) (ids xs ys : List ℕ) (from to : ℕ) → n ≡ indexed_rows rows slots b → Swept (Hint rows slots b) ids xs from to ys → AllStand rows n ids ys from to → Swept (λ k v. v ≡ searched_number rows slots b k) ids xs from to ys
swept_stood rows slots b n ids xs ys from to room h s =
    record { size = h.size; each = λ i a l. hint_row rows slots b (get_or ids i 0) (get_or ys i 0) (h.each i a l) (subst (λ (m : ℕ). row_has_id (id_of rows) m (get_or ys i 0) (get_or ids i 0) ≡ true) room (s i a l)); front = h.front; rest = h.rest }

-- a sweep up to m and one from m on are one over both parts
pub swept_more : (P : ℕ → ℕ → Type 0) (ids xs ys zs : List ℕ) (from m to : ℕ) → from ≤ m → m ≤ to → Swept P ids xs from m ys → Swept P ids ys m to zs → Swept P ids xs from to zs
swept_more P ids xs ys zs from m to l o a b =
    record { size = b.size ∙ a.size; each = each; front = λ i h. b.front i (omega arith) ∙ a.front i h; rest = λ i h. b.rest i h ∙ a.rest i (omega arith) }
  where
    each : (i : ℕ) → from ≤ i → i < to → P (get_or ids i 0) (get_or zs i 0)
    each i h k = go (less_or i m)
      where
        go : (i < m) ⊎ (m ≤ i) → P (get_or ids i 0) (get_or zs i 0)
        go (inl u) = subst (λ (z : ℕ). P (get_or ids i 0) z) (sym (b.front i u)) (a.each i h u)
        go (inr u) = b.each i u k

-- a sweep over all ids is what is told of them
pub swept_told : (f : ℕ → ℕ) (ids before after : List ℕ) → length ids ≤ length before → Swept (λ k v. v ≡ f k) ids before 0 (length ids) after → RowsTold f ids before after
swept_told f ids before after l s = full l (record { size = s.size; tells = λ i h. s.each i (omega arith) h; rest = s.rest })
