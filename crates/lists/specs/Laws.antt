-- What one item does to a list that is read, and what a text that is a list reads as: the laws that the code goes by.
-- Assumes nothing.
use Rattle.std.specs.Prelude.{ℕ, Ok, Err, suc, ◌+◌, ◌-◌, ◌≤◌, ◌<◌, min, ◌≡◌, Bool, true, ◌&&◌, eqb, drop, get_or}
use Rattle.std.proofs.Math.Path.{refl, sym, ap}
use Rattle.std.proofs.Common.{◌∙◌, subst, length-take, ne_eqb}
use Rattle.std.proofs.Math.Bool.{false}
use mathlib.Core.List.{List, [], ◌∷◌}
use native.Mathlib.Omega.{arith}
use Rattle.std.proofs.Math.ListN.{length, take, length-drop}
use Rattle.std.proofs.Math.Seq.{length-take-le}
use Rattle.common.specs.Pick.{pick}
use Rattle.common.specs.Lists.{split, drop_end}
use Rattle.lex.specs.Byte.{white}
use Rattle.record.specs.Text.{before, past}
use Rattle.record.specs.Word.{trimmed}
use Rattle.scalars.specs.Laws.{part_part}
use Rattle.params.specs.ParameterEnd.{cut_of}
use Rattle.params.specs.Answer.{ended_at, EndedIn}
use Rattle.params.specs.declared.Cut.{Cut}
use Rattle.lists.specs.declared.Item.{Item}
use Rattle.lists.specs.Answer.{Fate, fine, faulty, shifted, fated, consed}
use Rattle.lists.specs.Items.{bound_of, item_end, item_text, indent, item_by, headed, past_comma, items_from, is_none, is_blank, items_by, inside, bare, body_of, listed, list_by, ItemAt, ShapeAt}
use Rattle.lists.specs.declared.Shape.{Shape}
use Rattle.lists.specs.declared.Shape.TheVariants.{NotList, Blank, Full}

-- where the code's search for a parameter's end finds it, the item ends there, at or after its start
pub end_found : (b : List ℕ) (i a : ℕ) (c : Cut) → ended_at b (Ok c) ≡ cut_of (drop i b) → EndedIn a (length b) (Ok c) → (drop c.bound b ≡ item_end (drop i b)) × (a ≤ c.bound) × (c.bound ≤ length b)
unfolding item_end
end_found b i a c h (k, l, m) = (ap bound_of h, omega arith, m)

-- an open literal runs to the end of the list
pub end_open : (b : List ℕ) (i q : ℕ) → ended_at b (Err q) ≡ cut_of (drop i b) → drop (length b) b ≡ item_end (drop i b)
unfolding item_end
end_open b i q h = drop_end b (length b) (omega arith) ∙ ap bound_of h

-- the bytes of b from the place i up to the place j are the j - i bytes from i on
pub between : (b : List ℕ) (i j : ℕ) → i ≤ j → j ≤ length b → before (drop i b) (drop j b) ≡ take (j - i) (drop i b)
between b i j h k = let e : length (drop i b) - length (drop j b) ≡ j - i = omega (arith, length-drop i b, length-drop j b) in ap (λ (n : ℕ). take n (drop i b)) e

-- an item by its end and by what is left of it without whitespace
pub item_told_is : (b : List ℕ) (i j s z : ℕ) → i ≤ j → j ≤ length b → drop j b ≡ item_end (drop i b)
    → drop s (take (j - i) (drop i b)) ≡ past white (take (j - i) (drop i b)) → take (z - s) (drop s (take (j - i) (drop i b))) ≡ trimmed (take (j - i) (drop i b))
    → s ≤ z → z ≤ length (take (j - i) (drop i b)) → ItemAt b i (record { start = i + s; stop = i + z; bound = j })
unfolding item_text indent
item_told_is b i j s z h k e f g o l =
    let n : length (take (j - i) (drop i b)) ≡ j - i = simp (length-take, length-drop) (omega arith) in
    let t : before (drop i b) (item_end (drop i b)) ≡ take (j - i) (drop i b) = ap (before (drop i b)) (sym e) ∙ between b i j h k in
    let m : length (take (j - i) (drop i b)) - length (past white (take (j - i) (drop i b))) ≡ s = ap (λ (r : List ℕ). length (take (j - i) (drop i b)) - length r) (sym f) ∙ omega (arith, length-drop s (take (j - i) (drop i b))) in
    record {
      ends = e;
      text = sym (part_part b i (j - i) s z o (omega (arith, l, n))) ∙ g ∙ ap trimmed (sym t);
      begins = ap (λ (x : ℕ). i + x) (sym m) ∙ ap (λ (r : List ℕ). i + (length r - length (past white r))) (sym t);
      ordered = omega arith;
      short = omega (arith, l, n);
      above = h;
      within = k;
    }

-- an item that the code gives for a place in the list
pub item_in : (b : List ℕ) (i : ℕ) (r : Item) → i ≤ length b → ItemAt b (min i (length b)) r → ItemAt b i r
item_in b i r h k = let e : min i (length b) ≡ i = omega arith in subst (λ (j : ℕ). ItemAt b j r) e k

-- what is seen from k bytes and then from i bytes further back is seen from i + k bytes further back
shift_twice : {A : Type 0} (i k : ℕ) (a : Fate A) → shifted i (shifted k a) ≡ shifted (i + k) a
shift_twice i k (fine a) = refl
shift_twice i k (faulty n o) = let e : i + (k + o) ≡ i + k + o = omega arith in ap (faulty n) e

module _ {A : Type 0} (g : List ℕ → Fate A) (b : List ℕ) (i : ℕ) (r : Item) (h : ItemAt b i r) where
  -- what an item reads as, at its place in the list
  item_reads : shifted r.start (g (take (r.stop - r.start) (drop r.start b))) ≡ shifted i (item_by g (drop i b))
  unfolding item_by
  item_reads =
      ap (λ (t : List ℕ). shifted r.start (g t)) h.text
      ∙ ap (λ (k : ℕ). shifted k (g (item_text (drop i b)))) h.begins
      ∙ sym (shift_twice i (indent (drop i b)) (g (item_text (drop i b))))

  -- a bad item is the answer for the items from it on
  pub items_bad : (m n o : ℕ) → faulty n o ≡ g (take (r.stop - r.start) (drop r.start b)) → faulty n (r.start + o) ≡ items_from (suc m) g i (drop i b)
  unfolding items_from
  items_bad m n o e =
      ap (λ (x : Fate A). headed (shifted r.start x) (λ u. past_comma (item_end (drop i b)) (λ r. items_from m g (i + (length (drop i b) - length r)) r))) e
      ∙ ap (λ (x : Fate A). headed x (λ u. past_comma (item_end (drop i b)) (λ r. items_from m g (i + (length (drop i b) - length r)) r))) item_reads

  -- a good item's value goes in front of the values of the items that follow its comma
  good_item : (m : ℕ) (a : A) → fine a ≡ g (take (r.stop - r.start) (drop r.start b))
      → consed a (past_comma (drop r.bound b) (λ r. items_from m g (i + (length (drop i b) - length r)) r)) ≡ items_from (suc m) g i (drop i b)
  unfolding items_from
  good_item m a e =
      ap (λ (x : List ℕ). consed a (past_comma x (λ r. items_from m g (i + (length (drop i b) - length r)) r))) h.ends
      ∙ ap (λ (x : Fate A). headed (shifted r.start x) (λ u. past_comma (item_end (drop i b)) (λ r. items_from m g (i + (length (drop i b) - length r)) r))) e
      ∙ ap (λ (x : Fate A). headed x (λ u. past_comma (item_end (drop i b)) (λ r. items_from m g (i + (length (drop i b) - length r)) r))) item_reads

  -- a good item that ends at the end of the list is the only one from there on
  pub items_last : (m : ℕ) (a : A) → fine a ≡ g (take (r.stop - r.start) (drop r.start b)) → r.bound ≡ length b → fine (a ∷ []) ≡ items_from (suc m) g i (drop i b)
  items_last m a e k =
      ap (λ (x : List ℕ). consed a (past_comma x (λ r. items_from m g (i + (length (drop i b) - length r)) r))) (sym (drop_end b r.bound (omega arith)))
      ∙ good_item m a e

  -- a good item that ends at a comma has its value in front of those of the items behind that comma
  pub items_more : (m : ℕ) (a : A) → fine a ≡ g (take (r.stop - r.start) (drop r.start b)) → r.bound < length b
      → consed a (items_from m g (r.bound + 1) (drop (r.bound + 1) b)) ≡ items_from (suc m) g i (drop i b)
  items_more m a e k =
      let p : i + (length (drop i b) - length (drop (r.bound + 1) b)) ≡ r.bound + 1 = omega (arith, h.above, length-drop i b, length-drop (r.bound + 1) b) in
      ap (λ (n : ℕ). consed a (items_from m g n (drop (r.bound + 1) b))) (sym p)
      ∙ ap (λ (x : List ℕ). consed a (past_comma x (λ r. items_from m g (i + (length (drop i b) - length r)) r))) (sym (split b r.bound k))
      ∙ good_item m a e

-- values taken in one after another, from the first on
abbrev pub tally : {A S : Type 0} → (S → A → S) → S → List A → S
tally f s [] = s
tally f s (a ∷ vs) = tally f (f s a) vs

-- values taken in with a value more in front are taken in after that value
tally_consed : {A S : Type 0} (f : S → A → S) (s : S) (a : A) (x : Fate (List A)) → fated (tally f s) (consed a x) ≡ fated (tally f (f s a)) x
tally_consed f s a (fine vs) = refl
tally_consed f s a (faulty k o) = refl

-- What the loop that takes the items of a list in has found: s, and a is the answer.
module _ {A S : Type 0} (g : List ℕ → Fate A) (f : S → A → S) (b : List ℕ) (i n : ℕ) (r : Item) (found : ItemAt b (min i (length b)) r) (inside : i ≤ length b) (few : n ≤ length b) (s : S) (a : Fate S)
    (inv : fated (tally f s) (items_from (suc (length b) - n) g i (drop i b)) ≡ a) where
  -- one is counted off the number of items that may be left
  left : suc (length b) - n ≡ suc (length b - n)
  left = omega arith

  h : ItemAt b i r
  h = item_in b i r inside found

  -- a bad item is the answer for the list
  pub tally_bad : (k o : ℕ) → faulty k o ≡ g (take (r.stop - r.start) (drop r.start b)) → faulty k (r.start + o) ≡ a
  tally_bad k o e =
      ap (fated (tally f s)) (items_bad g b i r h (length b - n) k o e)
      ∙ ap (λ (m : ℕ). fated (tally f s) (items_from m g i (drop i b))) (sym left) ∙ inv

  -- once the last item's value is taken in, the answer is told
  pub tally_last : (v : A) → fine v ≡ g (take (r.stop - r.start) (drop r.start b)) → r.bound ≡ length b → fine (f s v) ≡ a
  tally_last v e k =
      ap (fated (tally f s)) (items_last g b i r h (length b - n) v e k)
      ∙ ap (λ (m : ℕ). fated (tally f s) (items_from m g i (drop i b))) (sym left) ∙ inv

  -- once the value of an item before others is taken in, those behind its comma are left to take in
  pub tally_more : (v : A) → fine v ≡ g (take (r.stop - r.start) (drop r.start b)) → r.bound < length b
      → fated (tally f (f s v)) (items_from (suc (length b) - (n + 1)) g (r.bound + 1) (drop (r.bound + 1) b)) ≡ a
  tally_more v e k =
      let m : suc (length b) - (n + 1) ≡ length b - n = omega arith in
      ap (λ (j : ℕ). fated (tally f (f s v)) (items_from j g (r.bound + 1) (drop (r.bound + 1) b))) m
      ∙ sym (tally_consed f s v (items_from (length b - n) g (r.bound + 1) (drop (r.bound + 1) b)))
      ∙ ap (fated (tally f s)) (items_more g b i r h (length b - n) v e k)
      ∙ ap (λ (j : ℕ). fated (tally f s) (items_from j g i (drop i b))) (sym left) ∙ inv

-- before the first item nothing is taken in, and all items are left to take in
pub tally_starts : {A S : Type 0} (g : List ℕ → Fate A) (f : S → A → S) (s : S) (b : List ℕ)
    → fated (tally f s) (items_from (suc (length b) - 0) g 0 b) ≡ fated (tally f s) (items_from (suc (length b)) g 0 b)
tally_starts g f s b = let m : suc (length b) - 0 ≡ suc (length b) = omega arith in ap (λ (n : ℕ). fated (tally f s) (items_from n g 0 b)) m

-- two tests, the second of which fails
and_false : (a b : Bool) → b ≡ false → a && b ≡ false
and_false true b e = e
and_false false b e = refl

-- the inside of a text with a byte or more, by its first byte and the last byte of the rest
body_split : (t : List ℕ) → 0 < length t
    → pick (eqb (get_or t 0 0) 40 && eqb (get_or (drop 1 t) (length (drop 1 t) - 1) 0) 41) (inside (take (length (drop 1 t) - 1) (drop 1 t))) bare ≡ body_of t
unfolding body_of
body_split [] h = absurd (omega arith)
body_split (c ∷ r) h = refl

-- the last byte of what follows a text's first byte is the text's last byte
last_byte : (t : List ℕ) → 1 < length t → get_or (drop 1 t) (length (drop 1 t) - 1) 0 ≡ get_or t (length t - 1) 0
last_byte [] h = absurd (omega arith)
last_byte (c ∷ []) h = absurd (omega arith)
last_byte (c ∷ d ∷ r) h = let e : length (c ∷ d ∷ r) - 1 ≡ suc (length (d ∷ r) - 1) = omega arith in sym (ap (λ (k : ℕ). get_or (c ∷ d ∷ r) k 0) e)

-- a text of less than two bytes is no list
pub body_short : (t : List ℕ) → length t < 2 → body_of t ≡ bare
unfolding body_of
body_short [] h = refl
body_short (c ∷ []) h = rw (and_false (eqb c 40) (eqb 0 41) refl) refl
body_short (c ∷ d ∷ r) h = absurd (omega arith)

-- a parameter whose first byte is no `(` is no list
pub body_first : (t : List ℕ) → 1 < length t → (get_or t 0 0 ≡ 40 → ⊥) → body_of t ≡ bare
body_first t h k = sym (body_split t (omega arith)) ∙ rw (ne_eqb (get_or t 0 0) 40 k) refl

-- a parameter whose last byte is no `)` is no list
pub body_last : (t : List ℕ) → 1 < length t → (get_or t (length t - 1) 0 ≡ 41 → ⊥) → body_of t ≡ bare
body_last t h k =
    sym (body_split t (omega arith))
    ∙ rw (last_byte t h, and_false (eqb (get_or t 0 0) 40) (eqb (get_or t (length t - 1) 0) 41) (ne_eqb (get_or t (length t - 1) 0) 41 k)) refl

-- a text of two bytes or more with `(` first and `)` last is a list, and its inside is what stands between them
pub body_full : (t : List ℕ) → 1 < length t → get_or t 0 0 ≡ 40 → get_or t (length t - 1) 0 ≡ 41 → body_of t ≡ inside (take (length t - 1 - 1) (drop 1 t))
body_full t h k l =
    let e : length (drop 1 t) - 1 ≡ length t - 1 - 1 = omega (arith, length-drop 1 t) in
    sym (body_split t (omega arith)) ∙ rw (last_byte t h, k, l, e) refl

module _ (xs : List ℕ) (s z : ℕ) (stops_before : take (z - s) (drop s xs) ≡ trimmed xs) (ordered : s ≤ z) (short : z ≤ length xs) where
  -- where nothing is left between the places s and z, the bytes are whitespace alone
  pub none_true : s ≡ z → is_blank xs ≡ true
  unfolding is_blank
  none_true h = let e : z - s ≡ 0 = omega arith in ap is_none (sym stops_before) ∙ ap (λ (n : ℕ). is_none (take n (drop s xs))) e

  -- where something is left between the places s and z, the bytes are not whitespace alone
  pub none_false : (s ≡ z → ⊥) → is_blank xs ≡ false
  unfolding is_blank
  none_false h = go (trimmed xs) stops_before
    where
      go : (t : List ℕ) → take (z - s) (drop s xs) ≡ t → is_none t ≡ false
      go [] e = let n : length (take (z - s) (drop s xs)) ≡ z - s = length-take-le (z - s) (drop s xs) (omega (arith, length-drop s xs)) in absurd (h (omega (arith, n, ap length e)))
      go (c ∷ r) e = refl

module _ {A : Type 0} (g : List ℕ → Fate A) (t : List ℕ) where
  -- a text that is no list is refused with 12 at its start
  pub list_none : body_of t ≡ bare → faulty 12 0 ≡ list_by g t
  unfolding list_by
  list_none e = ap (listed g) (sym e)

  -- a list with nothing but whitespace inside reads as no items
  pub list_blank : (b : List ℕ) → body_of t ≡ inside b → is_blank b ≡ true → fine [] ≡ list_by g t
  unfolding list_by items_by
  list_blank b e h = sym (ap (listed g) e ∙ rw h refl)

  -- a list with something inside reads as its items, seen from one byte further back
  pub list_full : (b : List ℕ) → body_of t ≡ inside b → is_blank b ≡ false → shifted 1 (items_from (suc (length b)) g 0 b) ≡ list_by g t
  unfolding list_by items_by
  list_full b e h = sym (ap (listed g) e ∙ rw h refl)

-- a text that the code calls no list has no inside
pub shape_none : (t : List ℕ) (r : Shape) → ShapeAt t r → r ≡ NotList → body_of t ≡ bare
shape_none t r h e = subst (ShapeAt t) e h

-- a text that the code calls a list without items has whitespace alone between its parentheses
pub shape_blank : (t : List ℕ) (r : Shape) → ShapeAt t r → r ≡ Blank → (b : List ℕ) × (body_of t ≡ inside b) × (is_blank b ≡ true)
shape_blank t r h e = subst (ShapeAt t) e h

-- a text that the code calls a list with items has something else than whitespace between its parentheses
pub shape_full : (t : List ℕ) (r : Shape) → ShapeAt t r → r ≡ Full
    → (2 ≤ length t) × (body_of t ≡ inside (take (length t - 1 - 1) (drop 1 t))) × (is_blank (take (length t - 1 - 1) (drop 1 t)) ≡ false)
shape_full t r h e = subst (ShapeAt t) e h

-- the inside of a list is two bytes shorter than the list
pub body_length : (t : List ℕ) → 2 ≤ length t → length (take (length t - 1 - 1) (drop 1 t)) ≡ length t - 2
body_length t h = simp (length-take, length-drop) (omega arith)

-- what f tells of the items in the inside of a list with items, seen from one byte further back, is what it tells of the list
pub told_full : {A B : Type 0} (f : List A → B) (g : List ℕ → Fate A) (t : List ℕ) (r : Shape) → ShapeAt t r → r ≡ Full → (a : Fate B)
    → a ≡ fated f (items_from (suc (length (take (length t - 1 - 1) (drop 1 t)))) g 0 (take (length t - 1 - 1) (drop 1 t))) → shifted 1 a ≡ fated f (list_by g t)
told_full {A} f g t r h e a k =
    let (n, s, o) = shape_full t r h e in
    ap (shifted 1) k ∙ go (items_from (suc (length (take (length t - 1 - 1) (drop 1 t)))) g 0 (take (length t - 1 - 1) (drop 1 t)))
    ∙ ap (fated f) (list_full g t (take (length t - 1 - 1) (drop 1 t)) s o)
  where
    go : (x : Fate (List A)) → shifted 1 (fated f x) ≡ fated f (shifted 1 x)
    go (fine vs) = refl
    go (faulty n o) = refl
