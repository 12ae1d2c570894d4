-- The index is one: its slots are fixed, and so is what stands beside them; and what the code finds on the way.
-- Assumes nothing.
use Rattle.std.specs.Prelude.{ℕ, zero, suc, ◌+◌, ◌-◌, ◌*◌, ◌^◌, ◌≤◌, ◌<◌, ◌≡◌, refl, Bool, true, false, List, ◌⊎◌, length, get_or, drop}
use Rattle.std.proofs.Common.{sym, ◌∙◌, ap, subst, inl, inr, arith, ne_eqb, ext_get_or, get_or-drop}
use Rattle.common.specs.Compare.{ordered, less_or}
use Rattle.index.specs.KeyOrder.{slot_row, Rises, Steady, TestTells}
use Rattle.index.specs.declared.Ids.{Ids}
use Rattle.index.specs.declared.Spacing.{Spacing}
use Rattle.index.specs.Index.{KeySlot, Keeps, IsIndex, RowsStart, SlotsHold, IsShift, end_id, Built}

-- where there are rows, the id at an end of the slots is that of the row there
pub end_some : (f : ℕ → ℕ) (n r : ℕ) → 0 < n → end_id f n r ≡ f r
end_some f n r h = rw (ne_eqb n 0 (λ e. omega arith)) refl

-- what is found of the ids along n slots: whether they rise, and whether by one step
pub record Spaced (f g : ℕ → ℕ) (n : ℕ) (r : Spacing) : Type 0 where
  pub rises : TestTells r.rises (Rises f g n)
  pub even : TestTells r.even (Steady f g n)

-- the numbers that stand beside n slots, with what was found of the ids
pub record Beside (f : ℕ → ℕ) (slots : List ℕ) (n : ℕ) (filed single level : Bool) (b : Ids) : Type 0 where
  pub count : b.count ≡ n
  pub first : b.first ≡ end_id f n (slot_row filed slots 0)
  pub last : b.last ≡ end_id f n (slot_row filed slots (n - 1))
  pub direct : b.direct ≡ filed
  pub distinct : b.distinct ≡ single
  pub even : b.even ≡ level
  pub shift : IsShift (b.last - b.first) n b.shift

-- what laying the guide asks of n rows: their ids rise; and where a range has one id, each is one above the one before it
pub record Guiding (f : ℕ → ℕ) (n first shift : ℕ) : Type 0 where
  pub short : shift < 32
  pub few : n ≤ 1073741824
  pub rises : Rises f (λ i. i) n
  pub dense : shift ≡ 0 → (i : ℕ) → i < n → f i ≡ first + i

-- rows with ids below x are passed, from row r on: e is the first that has none, or n
pub record RowsPassed (f : ℕ → ℕ) (r n x e : ℕ) : Type 0 where
  pub on : r ≤ e
  pub inside : e ≤ n
  pub below : (i : ℕ) → r ≤ i → i < e → f i < x
  pub from : e < n → x ≤ f e

-- where the slots before i agree, the key in slot i of one index is not below the key in slot i of the other
not_below : (f : ℕ → ℕ) (n : ℕ) (xs ys : List ℕ) → IsIndex f n xs → IsIndex f n ys → (i : ℕ) → i < n → ((j : ℕ) → j < i → get_or xs j 0 ≡ get_or ys j 0) → get_or xs i 0 < get_or ys i 0 → ⊥
not_below f n xs ys a b i h e l = go (a.keys i h)
  where
    on : (k : Keeps f n (get_or xs i 0)) → (s : KeySlot f n k.row ys) → (s.slot < i) ⊎ ((s.slot ≡ i) ⊎ (i < s.slot)) → ⊥
    on k s (inl m) =
        let p : get_or xs s.slot 0 ≡ get_or xs i 0 = e s.slot m ∙ s.holds ∙ sym k.key in
        let o = a.order s.slot i m h in
        omega (arith, p, o)
    on k s (inr (inl m)) =
        let p : get_or ys i 0 ≡ get_or xs i 0 = ap (λ (z : ℕ). get_or ys z 0) (sym m) ∙ s.holds ∙ sym k.key in
        omega (arith, p, l)
    on k s (inr (inr m)) =
        let p : get_or ys s.slot 0 ≡ get_or xs i 0 = s.holds ∙ sym k.key in
        let o = b.order i s.slot m s.inside in
        omega (arith, p, o, l)

    go : Keeps f n (get_or xs i 0) → ⊥
    go k = let s = b.whole k.row k.inside in on k s (ordered s.slot i)

-- where the slots before m agree, those up to m agree
slot_next : (f : ℕ → ℕ) (n : ℕ) (xs ys : List ℕ) → IsIndex f n xs → IsIndex f n ys → (m : ℕ) → m < n → ((j : ℕ) → j < m → get_or xs j 0 ≡ get_or ys j 0) → (i : ℕ) → i < suc m → get_or xs i 0 ≡ get_or ys i 0
slot_next f n xs ys a b m h below i l = go (ordered i m)
  where
    here : (get_or xs m 0 < get_or ys m 0) ⊎ ((get_or xs m 0 ≡ get_or ys m 0) ⊎ (get_or ys m 0 < get_or xs m 0)) → get_or xs m 0 ≡ get_or ys m 0
    here (inl k) = absurd (not_below f n xs ys a b m h below k)
    here (inr (inl e)) = e
    here (inr (inr k)) = absurd (not_below f n ys xs b a m h (λ j o. sym (below j o)) k)

    go : (i < m) ⊎ ((i ≡ m) ⊎ (m < i)) → get_or xs i 0 ≡ get_or ys i 0
    go (inl k) = below i k
    go (inr (inl e)) = rw e (here (ordered (get_or xs m 0) (get_or ys m 0)))
    go (inr (inr k)) = absurd (omega arith)

-- there is one index of n rows: each slot is fixed
pub index_only : (f : ℕ → ℕ) (n : ℕ) (xs ys : List ℕ) → IsIndex f n xs → IsIndex f n ys → (m : ℕ) → m ≤ n → (i : ℕ) → i < m → get_or xs i 0 ≡ get_or ys i 0
index_only f n xs ys a b zero h i l = absurd (omega arith)
index_only f n xs ys a b (suc m) h i l = slot_next f n xs ys a b m h (index_only f n xs ys a b m (omega arith)) i l

-- two answers to one question are the same
pub says_one : (A : Type 0) (s t : Bool) → TestTells s A → TestTells t A → s ≡ t
says_one A true true a b = refl
says_one A true false a b = absurd (b a)
says_one A false true a b = absurd (a b)
says_one A false false a b = refl

-- two lists with the same first n numbers and the same rest are the same
joined : (n : ℕ) (xs ys : List ℕ) → length xs ≡ length ys → ((i : ℕ) → i < n → get_or xs i 0 ≡ get_or ys i 0) → drop n xs ≡ drop n ys → xs ≡ ys
joined n xs ys l e r = ext_get_or 0 xs ys l (λ i h. go i (less_or i n))
  where
    go : (i : ℕ) → (i < n) ⊎ (n ≤ i) → get_or xs i 0 ≡ get_or ys i 0
    go i (inl h) = e i h
    go i (inr h) = let q : n + (i - n) ≡ i = omega arith in ap (λ (z : ℕ). get_or xs z 0) (sym q) ∙ sym (get_or-drop n xs (i - n) 0) ∙ ap (λ (z : List ℕ). get_or z (i - n) 0) r ∙ get_or-drop n ys (i - n) 0 ∙ ap (λ (z : ℕ). get_or ys z 0) q

-- rows with ids from x on begin at one row only
pub starts_one : (f : ℕ → ℕ) (n x c d : ℕ) → RowsStart f n x c → RowsStart f n x d → c ≡ d
starts_one f n x c d h g = go (ordered c d)
  where
    go : (c < d) ⊎ ((c ≡ d) ⊎ (d < c)) → c ≡ d
    go (inl l) = let i = g.inside in let u = h.from c (omega arith) (omega arith) in let v = g.below c l in absurd (omega arith)
    go (inr (inl e)) = e
    go (inr (inr l)) = let i = h.inside in let u = g.from d (omega arith) (omega arith) in let v = h.below d l in absurd (omega arith)

-- a span and a number of rows have one shift only
pub shift_one : (span n s t : ℕ) → IsShift span n s → IsShift span n t → s ≡ t
shift_one span n s t h g = go (ordered s t)
  where
    go : (s < t) ⊎ ((s ≡ t) ⊎ (t < s)) → s ≡ t
    go (inl l) = let u = h.fits in let v = g.least s l in absurd (omega arith)
    go (inr (inl e)) = e
    go (inr (inr l)) = let u = g.fits in let v = h.least t l in absurd (omega arith)

-- what `build` leaves is one list of slots
pub built_slots_only : (f : ℕ → ℕ) (n : ℕ) (old xs ys : List ℕ) (a b : Ids) → Built f n old xs a → Built f n old ys b → xs ≡ ys
built_slots_only f n old xs ys a b h g = joined n xs ys (h.size ∙ sym g.size) (slots b.direct (says_one (Rises f (λ i. i) n) a.direct b.direct h.direct g.direct) refl) (h.rest ∙ sym g.rest)
  where
    slots : (t : Bool) → a.direct ≡ t → b.direct ≡ t → (i : ℕ) → i < n → get_or xs i 0 ≡ get_or ys i 0
    slots false p q = index_only f n xs ys (subst (λ (t : Bool). SlotsHold t f n a.first a.shift xs) p h.held) (subst (λ (t : Bool). SlotsHold t f n b.first b.shift ys) q g.held) n (omega arith)
    slots true p q = λ i l. starts_one f n (b.first + i * 2 ^ b.shift) (get_or xs i 0) (get_or ys i 0) (here i l) (subst (λ (t : Bool). SlotsHold t f n b.first b.shift ys) q g.held i l)
      where
        first : a.first ≡ b.first
        first = h.first ∙ ap (λ (t : Bool). end_id f n (slot_row t xs 0)) p ∙ sym (g.first ∙ ap (λ (t : Bool). end_id f n (slot_row t ys 0)) q)

        last : a.last ≡ b.last
        last = h.last ∙ ap (λ (t : Bool). end_id f n (slot_row t xs (n - 1))) p ∙ sym (g.last ∙ ap (λ (t : Bool). end_id f n (slot_row t ys (n - 1))) q)

        shift : a.shift ≡ b.shift
        shift = shift_one (b.last - b.first) n a.shift b.shift (subst (λ (x : ℕ). IsShift (x - b.first) n a.shift) last (subst (λ (x : ℕ). IsShift (a.last - x) n a.shift) first h.shift)) g.shift

        here : (i : ℕ) → i < n → RowsStart f n (b.first + i * 2 ^ b.shift) (get_or xs i 0)
        here i l = subst (λ (x : ℕ). RowsStart f n (x + i * 2 ^ b.shift) (get_or xs i 0)) first (subst (λ (s : ℕ). RowsStart f n (a.first + i * 2 ^ s) (get_or xs i 0)) shift (subst (λ (t : Bool). SlotsHold t f n a.first a.shift xs) p h.held i l))

-- what `build` leaves beside the slots is one set of numbers
pub built_only : (f : ℕ → ℕ) (n : ℕ) (old xs : List ℕ) (a b : Ids) → Built f n old xs a → Built f n old xs b → a ≡ b
built_only f n old xs a b h g = go (says_one (Rises f (λ i. i) n) a.direct b.direct h.direct g.direct)
  where
    go : a.direct ≡ b.direct → a ≡ b
    go e =
        same (h.count ∙ sym g.count) first last e
        (says_one (Rises f (slot_row b.direct xs) n) a.distinct b.distinct (subst (λ (d : Bool). TestTells a.distinct (Rises f (slot_row d xs) n)) e h.distinct) g.distinct)
        (says_one (Steady f (slot_row b.direct xs) n) a.even b.even (subst (λ (d : Bool). TestTells a.even (Steady f (slot_row d xs) n)) e h.even) g.even)
        (shift_one (b.last - b.first) n a.shift b.shift (subst (λ (x : ℕ). IsShift (x - b.first) n a.shift) last (subst (λ (x : ℕ). IsShift (a.last - x) n a.shift) first h.shift)) g.shift)
      where
        first : a.first ≡ b.first
        first = h.first ∙ ap (λ (d : Bool). end_id f n (slot_row d xs 0)) e ∙ sym g.first

        last : a.last ≡ b.last
        last = h.last ∙ ap (λ (d : Bool). end_id f n (slot_row d xs (n - 1))) e ∙ sym g.last

        same : a.count ≡ b.count → a.first ≡ b.first → a.last ≡ b.last → a.direct ≡ b.direct → a.distinct ≡ b.distinct → a.even ≡ b.even → a.shift ≡ b.shift → a ≡ b
        same p q r s t u v = λ i. record { count = p i; first = q i; last = r i; direct = s i; distinct = t i; even = u i; shift = v i }
