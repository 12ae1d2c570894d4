-- The answers of the readers of lists, put together from what the code's parts promise. Assumes nothing.
use Prim.Native.Nat.{ℕ, zero, suc, ◌+◌, ◌-◌}
use Rattle.std.specs.Prelude.{◌≡◌, Bool, take, drop}
use Rattle.std.proofs.Math.Path.{refl, ap}
use Rattle.std.proofs.Common.{sym, ◌∙◌}
use Rattle.std.proofs.Math.Bool.{true, false}
use mathlib.Core.List.{List, [], ◌∷◌, map}
use Rattle.std.proofs.Math.ListN.{length}
use Rattle.std.proofs.lemmas.List.{length-map}
use Rattle.common.specs.Pick.{pick}
use Rattle.common.specs.Compare.{clash}
use Rattle.error.specs.Refusal.{Refusal, refusal, Told, good, bad}
use Rattle.params.specs.Answer.{reading, Span, onward}
use Rattle.params.specs.Reader.{param_of}
use Rattle.lists.specs.declared.Shape.{Shape}
use Rattle.lists.specs.declared.Shape.TheVariants.{NotList, Full}
use Rattle.lists.specs.Answer.{Fate, fine, faulty, shifted, fated, mute, consed, roomed, next_by, fits_in, count_of, how_many, written, values_of}
use Rattle.lists.specs.Items.{item_end, item_text, indent, item_by, headed, past_comma, items_from, is_blank, items_by, Body, inside, bare, body_of, listed, list_by, Ready, filled, ShapeAt}
use Rattle.lists.specs.Laws.{list_none, list_full, shape_none, shape_full}

-- Items told by h: the list is the one of those whose items are told by h.
module _ {A B : Type 0} (h : A → B) where
  -- what h makes of a value is the same seen from k bytes further back
  map_shifted : (k : ℕ) (x : Fate A) → fated h (shifted k x) ≡ shifted k (fated h x)
  map_shifted k (fine a) = refl
  map_shifted k (faulty n o) = refl

  -- what h makes of each value of a list is the same seen from k bytes further back
  map_shifts : (k : ℕ) (x : Fate (List A)) → fated (map h) (shifted k x) ≡ shifted k (fated (map h) x)
  map_shifts k (fine a) = refl
  map_shifts k (faulty n o) = refl

  -- what h makes of a list with a value in front is what it makes of the value, in front of what it makes of the list
  map_consed : (a : A) (x : Fate (List A)) → fated (map h) (consed a x) ≡ consed (h a) (fated (map h) x)
  map_consed a (fine vs) = refl
  map_consed a (faulty n o) = refl

  -- what h makes of an item with those that follow it is what it makes of the item, with what it makes of those
  map_headed : (x : Fate A) (k : Unit {0} → Fate (List A)) (l : Unit {0} → Fate (List B)) → fated (map h) (k tt) ≡ l tt → fated (map h) (headed x k) ≡ headed (fated h x) l
  map_headed (fine a) k l e = map_consed a (k tt) ∙ ap (consed (h a)) e
  map_headed (faulty n o) k l e = refl

  -- what h makes of what follows a comma is what it makes of the rest behind that comma
  map_past : (xs : List ℕ) (k : List ℕ → Fate (List A)) (l : List ℕ → Fate (List B)) → ((r : List ℕ) → fated (map h) (k r) ≡ l r) → fated (map h) (past_comma xs k) ≡ past_comma xs l
  map_past [] k l e = refl
  map_past (c ∷ r) k l e = e r

  module _ (g : List ℕ → Fate A) where
    -- what h makes of an item that g reads is the item read by g and then h
    map_item : (o : ℕ) (t : List ℕ) → fated h (shifted o (item_by g t)) ≡ shifted o (item_by (λ u. fated h (g u)) t)
    unfolding item_by
    map_item o t = map_shifted o (shifted (indent t) (g (item_text t))) ∙ ap (shifted o) (map_shifted (indent t) (g (item_text t)))

    -- what h makes of the items from a rest on is those items read by g and then h
    map_from : (n o : ℕ) (xs : List ℕ) → fated (map h) (items_from n g o xs) ≡ items_from n (λ u. fated h (g u)) o xs
    unfolding items_from
    map_from zero o xs = refl
    map_from (suc n) o xs =
        map_headed (shifted o (item_by g xs)) _ _ (map_past (item_end xs) _ _ (λ r. map_from n (o + (length xs - length r)) r))
        ∙ ap (λ (x : Fate B). headed x (λ u. past_comma (item_end xs) (λ r. items_from n (λ v. fated h (g v)) (o + (length xs - length r)) r))) (map_item o xs)

    -- what h makes of each value of a list is the list whose items are read by g and then h
    pub list_map : (t : List ℕ) → fated (map h) (list_by g t) ≡ list_by (λ u. fated h (g u)) t
    unfolding list_by items_by
    list_map t = go (body_of t)
      where
        none_same : (k : Bool) (b : List ℕ) → fated (map h) (pick k (fine []) (items_from (suc (length b)) g 0 b)) ≡ pick k (fine []) (items_from (suc (length b)) (λ u. fated h (g u)) 0 b)
        none_same true b = refl
        none_same false b = map_from (suc (length b)) 0 b

        go : (b : Body) → fated (map h) (listed g b) ≡ listed (λ u. fated h (g u)) b
        go (inside b) = map_shifts 1 (pick (is_blank b) (fine []) (items_from (suc (length b)) g 0 b)) ∙ ap (shifted 1) (none_same (is_blank b) b)
        go bare = refl

-- items are counted whatever they read as
pub count_mute : {A : Type 0} (g : List ℕ → Fate A) (t : List ℕ) → fated length (list_by (λ u. mute (g u)) t) ≡ fated length (list_by g t)
count_mute {A} g t = ap (fated length) (sym (list_map (λ (a : A). tt {0}) g t)) ∙ go (list_by g t)
  where
    go : (x : Fate (List A)) → fated length (fated (map (λ (a : A). tt {0})) x) ≡ fated length x
    go (fine vs) = ap fine (length-map vs (λ (a : A). tt {0}))
    go (faulty n o) = refl

-- what is told of a value by h fits or not as the value does
pub roomed_told : {A B : Type 0} (h : A → B) (fits : B → Bool) (a : ℕ) (x : Fate A) → roomed fits a (fated h x) ≡ onward (λ v. good (h v)) (roomed (λ v. fits (h v)) a x)
roomed_told h fits a (fine v) = go (fits (h v))
  where
    go : (k : Bool) → pick k (good (h v)) (bad (refusal 16 0 a)) ≡ onward (λ w. good (h w)) (pick k (good v) (bad (refusal 16 0 a)))
    go true = refl
    go false = refl
roomed_told h fits a (faulty n o) = refl

-- a text that starts at a and does not read is refused
pub roomed_bad : {A : Type 0} (fits : A → Bool) (a n o : ℕ) (x : Fate A) → faulty n o ≡ x → bad (refusal n 0 (a + o)) ≡ roomed fits a x
roomed_bad fits a n o x h = ap (roomed fits a) h

-- a text of which something is told reads and fits
pub roomed_good : {A B : Type 0} (h : A → B) (fits : A → Bool) (a : ℕ) (x : Fate A) (b : B) → good b ≡ onward (λ v. good (h v)) (roomed fits a x)
    → (v : A) × (x ≡ fine v) × (fits v ≡ true) × (roomed fits a x ≡ good v)
roomed_good {A} {B} h fits a (fine v) b e = go (fits v) refl e
  where
    go : (k : Bool) → fits v ≡ k → good b ≡ onward (λ w. good (h w)) (pick k (good v) (bad (refusal 16 0 a)))
        → (w : A) × (fine v ≡ fine w) × (fits w ≡ true) × (pick (fits v) (good v) (bad (refusal 16 0 a)) ≡ good w)
    go true k e = (v, refl, k, rw k refl)
    go false k e = clash (cc)
roomed_good h fits a (faulty n o) b e = clash (cc)

-- a refusal is told as itself
pub onward_bad : {A B : Type 0} (h : A → B) (x : Told A) (q : Refusal) → bad q ≡ onward (λ v. good (h v)) x → x ≡ bad q
onward_bad h (good v) q e = clash (cc)
onward_bad h (bad p) q e = let k : p ≡ q = cc in ap bad k

-- a list that is counted is written
pub room_written : {A : Type 0} (x : Fate (List A)) (room a n : ℕ) (out w : List A) → good n ≡ count_of (roomed (fits_in room) a x) → w ≡ filled (values_of x) out → w ≡ written (roomed (fits_in room) a x) out
room_written x room a n out w e h = let (v, k, l, r) = roomed_good length (fits_in room) a x n e in rw r (rw k at h)

-- a list that is refused leaves the lent numbers as they were
pub room_refused : {A : Type 0} (x : Fate (List A)) (room a : ℕ) (q : Refusal) (out : List A) → bad q ≡ count_of (roomed (fits_in room) a x) → out ≡ written (roomed (fits_in room) a x) out
room_refused x room a q out e = rw (onward_bad length (roomed (fits_in room) a x) q e) refl

-- The next parameter, read by g, from what the code cuts.
module _ {A : Type 0} (g : List ℕ → Fate A) (fits : A → Bool) (s : List ℕ) (p e : ℕ) where
  -- where no parameter is cut, the refusal of the cut is the reader's answer
  pub next_uncut : (q : Refusal) (p' e' : ℕ) → reading (bad q) p' e' ≡ param_of s p e → reading (bad q) p' e' ≡ next_by g fits s p e
  unfolding next_by
  next_uncut q p' e' h = rw (← h) refl

  -- where a parameter is cut, its text is read from its place in the file
  pub next_cut : (w : Span) (p' e' : ℕ) → reading (good w) p' e' ≡ param_of s p e → reading (roomed fits w.start (g (take (w.stop - w.start) (drop w.start s)))) p' e' ≡ next_by g fits s p e
  unfolding next_by
  next_cut w p' e' h = rw (← h) refl

module _ {A : Type 0} (g : List ℕ → Fate (List A)) (out : List A) (room : ℕ) (s : List ℕ) (p e : ℕ) where
  -- where no parameter is cut, a reader of lists answers the cut's refusal, and the lent list stays as it was
  pub lists_uncut : (q : Refusal) (p' e' : ℕ) → reading (bad q) p' e' ≡ param_of s p e
      → (reading (bad q) p' e' ≡ how_many (next_by g (fits_in room) s p e)) × (out ≡ written (next_by g (fits_in room) s p e).answer out)
  lists_uncut q p' e' h = let k = next_uncut g (fits_in room) s p e q p' e' h in (rw (← k) refl, rw (← k) refl)

  -- where a parameter is cut, a reader of lists answers its text's count or refusal, and writes what the text's list writes
  pub lists_cut : (w : Span) (p' e' : ℕ) → reading (good w) p' e' ≡ param_of s p e → (r : Told ℕ) (v : List A) → r ≡ count_of (roomed (fits_in room) w.start (g (take (w.stop - w.start) (drop w.start s))))
      → v ≡ written (roomed (fits_in room) w.start (g (take (w.stop - w.start) (drop w.start s)))) out
      → (reading r p' e' ≡ how_many (next_by g (fits_in room) s p e)) × (v ≡ written (next_by g (fits_in room) s p e).answer out)
  lists_cut w p' e' h r v k l =
      let n = next_cut g (fits_in room) s p e w p' e' h in (rw (← n) (ap (λ (y : Told ℕ). reading y p' e') k), rw (← n) l)

-- what a list that reads writes, by what it is
module _ {A : Type 0} (g : List ℕ → Fate A) (t : List ℕ) (r : Shape) (h : ShapeAt t r) (room : ℕ) (fit : Ready (list_by g t) room) where
  -- a text that reads as a list is not told to be no list
  pub fills_none : r ≡ NotList → ⊥
  fills_none e = clash (cc (list_none g t (shape_none t r h e), fit.0))

  -- the values of a list with items that reads are those of the items between its parentheses, and there is room for them
  pub fills_full : r ≡ Full → (values_of (list_by g t) ≡ values_of (items_from (suc (length (take (length t - 1 - 1) (drop 1 t)))) g 0 (take (length t - 1 - 1) (drop 1 t))))
      × Ready (items_from (suc (length (take (length t - 1 - 1) (drop 1 t)))) g 0 (take (length t - 1 - 1) (drop 1 t))) room
  fills_full e =
      let (n, f, o) = shape_full t r h e in
      let q = list_full g t (take (length t - 1 - 1) (drop 1 t)) f o in
      let (x, y) = go (items_from (suc (length (take (length t - 1 - 1) (drop 1 t)))) g 0 (take (length t - 1 - 1) (drop 1 t))) q in
      (x, (y, rw x at fit.1))
    where
      go : (x : Fate (List A)) → shifted 1 x ≡ list_by g t → (values_of (list_by g t) ≡ values_of x) × (x ≡ fine (values_of x))
      go (fine vs) q = (ap values_of (sym q), refl)
      go (faulty k o) q = clash (cc (q, fit.0))
