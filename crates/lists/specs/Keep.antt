-- What one item does to a list that is read while its first values are kept beside it: the laws that the first pass goes by, for every
-- kind of item. Assumes nothing.
use Rattle.std.specs.Prelude.{ℕ, zero, suc, ◌+◌, ◌-◌, ◌≤◌, ◌<◌, min, ◌≡◌, refl, Bool, List, [], ◌∷◌, ◌++◌, map, leb, length, take, drop, get_or, set}
use Rattle.std.proofs.Common.{sym, ◌∙◌, ap, subst, append_assoc, append-nil, arith, add-one, le-leb, length-drop, length-take, length-append, take_all, take-take, take_at, take-suc, drop-cons, length-take-le}
use Rattle.std.proofs.lemmas.List.{map-append, length-map, set_at, take-append-le}
use Rattle.std.proofs.Math.Decide.{dec_le}
use Rattle.std.proofs.lemmas.Bool.{lt-leb}
use Rattle.std.proofs.Math.Seq.{take-length, set_out}
use Rattle.common.specs.Compare.{clash}
use Rattle.common.specs.Pick.{pick}
use Rattle.error.specs.Refusal.{refusal, good, bad}
use Rattle.lists.specs.declared.Item.{Item}
use Rattle.lists.specs.declared.Shape.{Shape}
use Rattle.lists.specs.declared.Shape.TheVariants.{NotList, Blank, Full}
use Rattle.lists.specs.Items.{items_from, items_in, list_by, ItemAt, ShapeAt, Ready, filled, Kept, Held}
use Rattle.lists.specs.Answer.{Fate, fine, faulty, shifted, fated, mute, roomed, fits_in, count_of, written, values_of}
use Rattle.lists.specs.Lent.{kept_at}
use Rattle.lists.specs.Laws.{tally, tally_starts, tally_bad, tally_last, tally_more, list_none, list_blank, list_full, shape_none, shape_blank, shape_full, told_full}
use Rattle.lists.specs.ReadLaws.{roomed_told, roomed_bad, room_refused, room_written}

-- a list of values with one more behind them
abbrev pub snoc : {A : Type 0} → List A → A → List A
snoc ws v = ws ++ (v ∷ [])

-- values that are taken in one behind the other stand behind those that were taken in before
tally_snoc : {A : Type 0} (ws vs : List A) → tally snoc ws vs ≡ ws ++ vs
tally_snoc ws [] = sym (append-nil ws)
tally_snoc ws (v ∷ vs) = tally_snoc (snoc ws v) vs ∙ append_assoc ws (v ∷ []) vs

-- the values of a list, taken in from none on, are the list
tally_whole : {A : Type 0} (x : Fate (List A)) → fated (tally snoc []) x ≡ x
tally_whole (fine vs) = ap fine (tally_snoc [] vs)
tally_whole (faulty n o) = refl

module _ {A : Type 0} (ws old : List A) where
  -- the list beside, once values are written over its start as far as it goes, is as long as it was
  pub held_length : length (take (length old) (filled ws old)) ≡ length old
  held_length = omega (arith, length-take (length old) (filled ws old), length-append ws (drop (length ws) old), length-drop (length ws) old)

  -- one value more is written at its place in the list beside, or nowhere if that is too short
  pub held_more : (v : A) → set (take (length old) (filled ws old)) (length ws) v ≡ take (length old) (filled (snoc ws v) old)
  held_more v = go (dec_le (length old) (length ws))
    where
      n : length (snoc ws v) ≡ length ws + 1
      n = length-append ws (v ∷ [])

      go : Dec (length old ≤ length ws) → set (take (length old) (filled ws old)) (length ws) v ≡ take (length old) (filled (snoc ws v) old)
      go (yes h) =
          set_out (take (length old) (filled ws old)) (length ws) v (omega (arith, h, held_length)) ∙ take-append-le (length old) ws (drop (length ws) old) h
          ∙ sym (take-append-le (length old) (snoc ws v) (drop (length (snoc ws v)) old) (omega (arith, h, n)) ∙ take-append-le (length old) ws (v ∷ []) h)
      go (no h) =
          let a : take (length old) (filled ws old) ≡ filled ws old = take_all (length old) (filled ws old) (omega (arith, h, length-append ws (drop (length ws) old), length-drop (length ws) old)) in
          let b : take (length old) (filled (snoc ws v) old) ≡ filled (snoc ws v) old =
          take_all (length old) (filled (snoc ws v) old) (omega (arith, h, n, length-append (snoc ws v) (drop (length (snoc ws v)) old), length-drop (length (snoc ws v)) old)) in
          let d : drop (length ws) old ≡ get_or old (length ws) v ∷ drop (length ws + 1) old = rw add-one (drop-cons old (length ws) v (omega arith)) in
          ap (λ (x : List A). set x (length ws) v) a ∙ ap (λ (x : List A). set (ws ++ x) (length ws) v) d
          ∙ set_at ws (get_or old (length ws) v) (drop (length ws + 1) old) v (length ws) refl
          ∙ sym (b ∙ ap (λ (k : ℕ). snoc ws v ++ drop k old) n ∙ append_assoc ws (v ∷ []) (drop (length ws + 1) old))

-- so many items were read, and their values are those in `kept`: the list beside was old and is new, and i is the place of the next item
pub record Keeping {A : Type 0} (g : List ℕ → Fate A) (b : List ℕ) (old new : List A) (i n : ℕ) : Type 0 where
  pub kept : List A
  pub many : n ≡ length kept
  pub few : n ≤ i
  pub within : i ≤ length b
  pub rest : fated (tally snoc kept) (items_from (suc (length b) - n) g i (drop i b)) ≡ items_from (suc (length b)) g 0 b
  pub held : new ≡ take (length old) (filled kept old)

-- before the first item is read none is kept
pub keeping_starts : {A : Type 0} (g : List ℕ → Fate A) (b : List ℕ) (old : List A) → Keeping g b old old 0 0
keeping_starts g b old = record {
  kept = [];
  many = refl;
  few = omega arith;
  within = omega arith;
  rest = tally_starts g snoc [] b ∙ tally_whole (items_from (suc (length b)) g 0 b);
  held = sym (take-length old);
}

-- an item that reads has a value
mute_fine : {A : Type 0} (x : Fate A) → fine tt ≡ mute x → (v : A) × (fine v ≡ x)
mute_fine (fine v) e = (v, refl)
mute_fine (faulty k o) e = clash (cc)

-- an item that does not read is refused as it is where only its reading is told
mute_bad : {A : Type 0} (x : Fate A) (k o : ℕ) → faulty k o ≡ mute x → faulty k o ≡ x
mute_bad (fine v) k o e = clash (cc)
mute_bad (faulty l p) k o e = let x : k ≡ l = cc in let y : o ≡ p = cc in cc

-- The next item: the code told whether it reads, and put its value at its place in the list beside, which was `was` before.
module _ {A : Type 0} (g : List ℕ → Fate A) (b : List ℕ) (old was new : List A) (i n : ℕ) (f : Keeping g b old was i n) (r : Item) (found : ItemAt b (min i (length b)) r)
    (put : new ≡ kept_at n (g (take (r.stop - r.start) (drop r.start b))) was) where
  -- at most as many items were read as there are bytes
  few_enough : n ≤ length b
  few_enough = omega (arith, f.few, f.within)

  -- a bad item is the answer for the whole list, of which nothing need be kept
  pub keeping_bad : (k o : ℕ) → faulty k o ≡ mute (g (take (r.stop - r.start) (drop r.start b)))
      → (faulty k (r.start + o) ≡ fated length (items_in g b)) × Kept (items_in g b) old new
  keeping_bad k o e =
      let q = tally_bad g snoc b i n r found f.within few_enough f.kept _ f.rest k o (mute_bad (g (take (r.stop - r.start) (drop r.start b))) k o e) in
      (ap (fated length) q, subst (λ (x : Fate (List A)). Kept x old new) q tt)

  module _ (e : fine tt ≡ mute (g (take (r.stop - r.start) (drop r.start b)))) where
    -- the value of the item that was read
    value : (v : A) × (fine v ≡ g (take (r.stop - r.start) (drop r.start b)))
    value = mute_fine (g (take (r.stop - r.start) (drop r.start b))) e

    -- the value of the item that was read is kept in the list beside
    more : new ≡ take (length old) (filled (snoc f.kept value.0) old)
    more =
        put ∙ ap (λ (x : Fate A). kept_at n x was) (sym value.1) ∙ ap (λ (x : List A). set x n value.0) f.held
        ∙ ap (λ (k : ℕ). set (take (length old) (filled f.kept old)) k value.0) f.many ∙ held_more f.kept old value.0

    count : n + 1 ≡ length (snoc f.kept value.0)
    count = omega (arith, f.many, length-append f.kept (value.0 ∷ []))

    -- after the last item its number is the list's count, and the list's first values are kept
    pub keeping_last : r.bound ≡ length b → (fine (n + 1) ≡ fated length (items_in g b)) × Kept (items_in g b) old new
    keeping_last k =
        let q = tally_last g snoc b i n r found f.within few_enough f.kept _ f.rest value.0 value.1 k in
        (ap fine count ∙ ap (fated length) q, subst (λ (x : Fate (List A)). Kept x old new) q more)

    -- after an item before others its value is kept, and the reading goes on behind its comma
    pub keeping_goes : r.bound < length b → Keeping g b old new (r.bound + 1) (n + 1)
    keeping_goes k =
        record {
          kept = snoc f.kept value.0;
          many = count;
          few = omega (arith, f.few, found.above, f.within);
          within = omega arith;
          rest = tally_more g snoc b i n r found f.within few_enough f.kept _ f.rest value.0 value.1 k;
          held = more;
        }

-- what is kept of a list is kept of it seen from k bytes further back
kept_shifted : {A : Type 0} (k : ℕ) (x : Fate (List A)) (old new : List A) → Kept x old new → Kept (shifted k x) old new
kept_shifted k (fine vs) old new h = h
kept_shifted k (faulty n o) old new h = h

-- What is kept of a list, by what its text is.
module _ {A : Type 0} (g : List ℕ → Fate A) (t : List ℕ) (r : Shape) (h : ShapeAt t r) (old : List A) where
  -- of a text that is no list 12 is told, and the list beside stays as it was
  pub kept_none : r ≡ NotList → (faulty 12 0 ≡ fated length (list_by g t)) × Kept (list_by g t) old old
  kept_none e = let q = list_none g t (shape_none t r h e) in (ap (fated length) q, subst (λ (x : Fate (List A)). Kept x old old) q tt)

  -- of a list without items 0 is told, and the list beside stays as it was
  pub kept_blank : r ≡ Blank → (fine 0 ≡ fated length (list_by g t)) × Kept (list_by g t) old old
  kept_blank e = let (b, f, o) = shape_blank t r h e in let q = list_blank g t b f o in (ap (fated length) q, subst (λ (x : Fate (List A)). Kept x old old) q (sym (take-length old)))

  -- of a list with items is told and kept what is told and kept of the items between its parentheses
  pub kept_full : r ≡ Full → (a : Fate ℕ) (new : List A) → a ≡ fated length (items_in g (take (length t - 1 - 1) (drop 1 t)))
      → Kept (items_in g (take (length t - 1 - 1) (drop 1 t))) old new → (shifted 1 a ≡ fated length (list_by g t)) × Kept (list_by g t) old new
  kept_full e a new k l =
      let (n, f, o) = shape_full t r h e in
      let q = list_full g t (take (length t - 1 - 1) (drop 1 t)) f o in
      (told_full length g t r h e a k, subst (λ (x : Fate (List A)). Kept x old new) q (kept_shifted 1 (items_in g (take (length t - 1 - 1) (drop 1 t))) old new l))

-- what is kept of a list that reads is its values, where there are no more of them
pub kept_held : {A : Type 0} (x : Fate (List A)) (vs old new : List A) → x ≡ fine vs → Kept x old new → Held x new
kept_held {A} x vs old new e k = subst (λ (y : Fate (List A)). Held y new) (sym e) (go (subst (λ (y : Fate (List A)). Kept y old new) e k))
  where
    go : new ≡ take (length old) (filled vs old) → length vs ≤ length new → take (length vs) new ≡ vs
    go h l =
        let m : length vs ≤ length old = omega (arith, l, ap length h, held_length vs old) in
        ap (take (length vs)) h ∙ take-take (length vs) (length old) (filled vs old) m ∙ take_at vs (drop (length vs) old) (length vs) refl

-- what is kept of a list that reads is all its values, where there is room for them
pub kept_all : {A : Type 0} (x : Fate (List A)) (room : ℕ) (old new : List A) → room ≡ length old → Ready x room → Kept x old new → new ≡ filled (values_of x) old
kept_all {A} x room old new e (f, h) k =
    subst (λ (y : Fate (List A)). Kept y old new) f k
    ∙ take_all (length old) (filled (values_of x) old) (omega (arith, h, e, length-append (values_of x) (drop (length (values_of x)) old), length-drop (length (values_of x)) old))

-- a list that is counted reads
pub counted_reads : {A : Type 0} (x : Fate (List A)) (n : ℕ) → fine n ≡ fated length x → (vs : List A) × (x ≡ fine vs) × (n ≡ length vs)
counted_reads (fine vs) n e = (vs, refl, cc)
counted_reads (faulty k o) n e = clash (cc)

-- What is told of a list that starts at a, from its count.
module _ {A : Type 0} (x : Fate (List A)) (room a : ℕ) (out : List A) where
  -- a list's count, tested against the room, is what is told of the list
  tested : (c : Fate ℕ) → c ≡ fated length x → roomed (λ n. leb n room) a c ≡ count_of (roomed (fits_in room) a x)
  tested c e = ap (roomed (λ (n : ℕ). leb n room) a) e ∙ roomed_told length (λ (n : ℕ). leb n room) a x

  -- a list with a bad item is refused, and the lent numbers stay as they were
  pub kept_bad : (n o : ℕ) → faulty n o ≡ fated length x → (bad (refusal n 0 (a + o)) ≡ count_of (roomed (fits_in room) a x)) × (out ≡ written (roomed (fits_in room) a x) out)
  kept_bad n o e =
      let q = roomed_bad (λ (n : ℕ). leb n room) a n o (fated length x) e ∙ tested (fated length x) refl in
      (q, room_refused x room a (refusal n 0 (a + o)) out q)

  -- a list with more items than there is room for is refused with 16, and the lent numbers stay as they were
  pub kept_short : (n : ℕ) → fine n ≡ fated length x → room < n → (bad (refusal 16 0 a) ≡ count_of (roomed (fits_in room) a x)) × (out ≡ written (roomed (fits_in room) a x) out)
  kept_short n e h =
      let q = ap (λ (k : Bool). pick k (good n) (bad (refusal 16 0 a))) (sym (lt-leb n room h)) ∙ tested (fine n) e in
      (q, room_refused x room a (refusal 16 0 a) out q)

  -- a list that fits is told by its count, and its values are written into the lent numbers
  pub kept_fits : (n : ℕ) (w : List A) → fine n ≡ fated length x → n ≤ room → w ≡ filled (values_of x) out → (good n ≡ count_of (roomed (fits_in room) a x)) × (w ≡ written (roomed (fits_in room) a x) out)
  kept_fits n w e h k =
      let q = ap (λ (k : Bool). pick k (good n) (bad (refusal 16 0 a))) (sym (le-leb n room h)) ∙ tested (fine n) e in
      (q, room_written x room a n out w q k)

-- a list whose count fits is ready to be written, and what was kept of it is held
pub kept_ready : {A : Type 0} (x : Fate (List A)) (room n : ℕ) (old new : List A) → fine n ≡ fated length x → n ≤ room → Kept x old new → Ready x room × ((n ≡ length (values_of x)) × Held x new)
kept_ready x room n old new e h k =
    let (vs, q, c) = counted_reads x n e in
    let v : values_of x ≡ vs = ap values_of q in
    ((q ∙ ap fine (sym v), omega (arith, c, ap length v)), (c ∙ sym (ap length v), kept_held x vs old new q k))

-- to write the value at i is to have copied one value more
pub copy_store : {A : Type 0} (s out : List A) (i : ℕ) (z : A) → i < length s → i < length out → set (take i s ++ drop i out) i (get_or s i z) ≡ take (i + 1) s ++ drop (i + 1) out
copy_store {A} s out i z h k =
    let d : drop i out ≡ get_or out i z ∷ drop (i + 1) out = rw add-one (drop-cons out i z k) in
    let t : take (i + 1) s ≡ take i s ++ (get_or s i z ∷ []) = rw add-one (take-suc s i z h) in
    ap (λ (x : List A). set (take i s ++ x) i (get_or s i z)) d
    ∙ set_at (take i s) (get_or out i z) (drop (i + 1) out) (get_or s i z) i (length-take-le i s (omega arith))
    ∙ sym (ap (λ (x : List A). x ++ drop (i + 1) out) t ∙ append_assoc (take i s) (get_or s i z ∷ []) (drop (i + 1) out))

-- a lent list into whose start values are copied is as long as it was
pub copy_length : {A : Type 0} (s out w : List A) (i : ℕ) → i ≤ length s → i ≤ length out → w ≡ take i s ++ drop i out → length w ≡ length out
copy_length s out w i h k e = ap length e ∙ length-append (take i s) (drop i out) ∙ omega (arith, h, k, length-take-le i s h, length-drop i out)

-- Lists told by h, as a lent list of reals is by their bits.
module _ {A B : Type 0} (h : A → B) where
  -- the first n values of a list, told by h, are the first n of the list told by h
  pub map_take : (n : ℕ) (l : List A) → map h (take n l) ≡ take n (map h l)
  map_take zero l = refl
  map_take (suc n) [] = refl
  map_take (suc n) (a ∷ l) = ap (λ (x : List B). h a ∷ x) (map_take n l)

  -- the values from n on of a list, told by h, are those from n on of the list told by h
  pub map_drop : (n : ℕ) (l : List A) → map h (drop n l) ≡ drop n (map h l)
  map_drop zero l = refl
  map_drop (suc n) [] = refl
  map_drop (suc n) (a ∷ l) = map_drop n l

  -- a list with a value written at n, told by h, is the list told by h with that value told by h at n
  pub map_set : (l : List A) (n : ℕ) (v : A) → map h (set l n v) ≡ set (map h l) n (h v)
  map_set [] n v = refl
  map_set (x ∷ l) zero v = refl
  map_set (x ∷ l) (suc n) v = ap (λ (t : List B). h x ∷ t) (map_set l n v)

  -- a list that is copied from where its values are held is written whole, told by h
  pub copy_held : (x : Fate (List B)) (first out w : List A) (n : ℕ) → n ≡ length (values_of x) → n ≤ length first → Held x (map h first) → w ≡ take n first ++ drop n out → map h w ≡ filled (values_of x) (map h out)
  copy_held x first out w n c l k e =
      let t : take n (map h first) ≡ values_of x = ap (λ (m : ℕ). take m (map h first)) c ∙ k (omega (arith, length-map first h)) in
      ap (map h) e ∙ map-append h (take n first) (drop n out) ∙ ap (λ (l : List B). l ++ map h (drop n out)) (map_take n first ∙ t)
      ∙ ap (λ (l : List B). values_of x ++ l) (map_drop n out ∙ ap (λ (m : ℕ). drop m (map h out)) c)
