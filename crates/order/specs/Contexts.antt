-- What the units see of a closed record is the same wherever its text stands. Assumes nothing.
use Rattle.std.specs.Prelude.{ℕ, ◌≡◌, refl, Bool, true, false, List, [], ◌∷◌, ◌++◌, map, length, Option, None, Some}
use Rattle.std.proofs.Common.{sym, append-nil}
use Rattle.common.specs.Pick.{pick}
use Rattle.error.specs.Refusal.{Told, good}
use Rattle.statement.specs.Rows.{Row}
use Rattle.statement.specs.Row.{record_of}
use Rattle.statement.specs.Closed.{ClosedData}
use Rattle.statement.specs.ClosedRight.{row_from, record_row}
use Rattle.params.specs.Answer.{onward}
use Rattle.factors.specs.SeenRecords.{UnitPart, SeenRecord, seen_record_at, seen_record_of, seen_record_found}
use Rattle.units.specs.Answer.{is_context}
use Rattle.alike.specs.Alike.{BothTold, BothList, AlikeRecord, AlikeFound, AlikeFind, Every}
use Rattle.alike.specs.Closed.{closed_seen_good, closed_parts_good, closed_seen_alike}
use Rattle.alike.specs.Contexts.{contexts_of, ContextsAsked, context_told, context_same}
use Rattle.lookup.specs.Records.{last_of}
use Rattle.order.specs.Order.{those, of_id, context_text, contexts_in}
use Rattle.order.specs.Shape.{RowSays, AllSay}
use Rattle.order.specs.SameRecords.{FoundSay, last_text, found_says}

-- the record of a row that is a closed text's has no fault
says_thing : {f : List ℕ} {w : Row} {b : List ℕ} → RowSays f w b → seen_record_of f w ≡ good (seen_record_at f w)
says_thing {f} {w} {b} k = go f w k.shape k.row
  where
    go : (f : List ℕ) (w : Row) → f ≡ k.front ++ (b ++ k.back) → w ≡ row_from (length k.front) k.closed → seen_record_of f w ≡ good (seen_record_at f w)
    go f w e h = rw (e, h) (closed_seen_good k.closed k.front k.back)

-- the parts of a record that is a closed text's have no fault
says_parts : {f : List ℕ} {w : Row} {b : List ℕ} → RowSays f w b → (ps : List UnitPart) × ((seen_record_at f w).parts ≡ good ps)
says_parts {f} {w} {b} k = go f w k.shape k.row
  where
    go : (f : List ℕ) (w : Row) → f ≡ k.front ++ (b ++ k.back) → w ≡ row_from (length k.front) k.closed → (ps : List UnitPart) × ((seen_record_at f w).parts ≡ good ps)
    go f w e h = rw (e, h) (closed_parts_good k.closed k.front k.back)

-- two records of one closed text are alike
says_alike : {f g : List ℕ} {w v : Row} {b : List ℕ} → RowSays f w b → RowSays g v b → AlikeRecord Every f g (seen_record_at f w) (seen_record_at g v)
says_alike {f} {g} {w} {v} {b} k l = go f g w v k.shape l.shape k.row l.row
  where
    go : (f g : List ℕ) (w v : Row) → f ≡ k.front ++ (b ++ k.back) → g ≡ l.front ++ (b ++ l.back) → w ≡ row_from (length k.front) k.closed
        → v ≡ row_from (length l.front) l.closed → AlikeRecord Every f g (seen_record_at f w) (seen_record_at g v)
    go f g w v e h i j = rw (e, h, i, j) (closed_seen_alike k.closed l.closed (λ n m. tt) k.front k.back l.front l.back)

-- ---- lookups
-- two records that are served for one text, or none for none, are alike
found_alike : (f g : List ℕ) (x y : Option Row) (z : Option (List ℕ)) → FoundSay f x z → FoundSay g y z → AlikeFound Every f g (seen_record_found f x) (seen_record_found g y)
found_alike f g None None None h k = tt
found_alike f g None (Some v) None h k = absurd k
found_alike f g (Some w) y None h k = absurd h
found_alike f g None y (Some b) h k = absurd h
found_alike f g (Some w) None (Some b) h k = absurd k
found_alike f g (Some w) (Some v) (Some b) h k = rw (says_thing h, says_thing k) (says_alike h k)

-- all lookups are alike, where the order of records with equal ids is kept
pub finds_alike : (f g : List ℕ) (ws vs : List Row) (ts us : List (List ℕ)) → AllSay f ws ts → AllSay g vs us → ((k : ℕ) → of_id k ts ≡ of_id k us)
    → AlikeFind Every f g (λ k. seen_record_found f (last_of k ws)) (λ k. seen_record_found g (last_of k vs))
finds_alike f g ws vs ts us a b e = record {
  found = λ k n. found_alike f g (last_of k ws) (last_of k vs) (last_text (of_id k us)) (rw (e k) at (found_says k f ws ts a)) (found_says k g vs us b);
}

-- ---- contexts
-- a closed text says what it says as a file of its own too
own : {b : List ℕ} (c : ClosedData b) → RowSays b (row_from 0 c) b
own {b} c = record { closed = c; front = []; back = []; shape = sym (append-nil b); row = refl }

-- the row of a closed text as a file of its own
own_row : {b : List ℕ} (c : ClosedData b) → record_of b b b ≡ good (row_from 0 c)
own_row {b} c = simp append-nil at (record_row c [] [])

-- a record is a unit context in its file just where its text is one
pub says_context : {f : List ℕ} {w : Row} {b : List ℕ} → RowSays f w b → onward (is_context f) (seen_record_of f w) ≡ good (context_text b)
unfolding context_text
says_context {f} {w} {b} k =
    let o = own k.closed in
    let (ps, p) = says_parts o in
    let (x, e) = context_told b (seen_record_at b (row_from 0 k.closed)) ps p in
    let g : is_context f (seen_record_at f w) ≡ good x = context_same (says_alike o k) x e in
    rw (says_thing k, own_row k.closed, says_thing o, e, g) refl

-- of each record that is a closed text's it is told whether it is a unit context
pub all_asked : (f : List ℕ) (ws : List Row) (ts : List (List ℕ)) → AllSay f ws ts → ContextsAsked f (map (seen_record_of f) ws)
all_asked f [] [] a = tt
all_asked f [] (b ∷ ts) a = absurd a
all_asked f (w ∷ ws) [] a = absurd a
all_asked f (w ∷ ws) (b ∷ ts) (k, a) = ((context_text b, says_context k), all_asked f ws ts a)

-- what is told of a record is that of a row of the text b
abbrev ThingSay : List ℕ → Told SeenRecord → List ℕ → Type 0
ThingSay f x b = (w : Row) × RowSays f w b × (x ≡ seen_record_of f w)

-- the unit contexts of a file are the records of the texts that are unit contexts
contexts_say : (f : List ℕ) (ws : List Row) (ts : List (List ℕ)) → AllSay f ws ts → BothList (ThingSay f) (contexts_of f (map (seen_record_of f) ws)) (those context_text ts)
unfolding contexts_of those
contexts_say f [] [] a = tt
contexts_say f [] (b ∷ ts) a = absurd a
contexts_say f (w ∷ ws) [] a = absurd a
contexts_say f (w ∷ ws) (b ∷ ts) (k, a) = rw (says_context k) (go (context_text b) (contexts_of f (map (seen_record_of f) ws)) (those context_text ts) (contexts_say f ws ts a))
  where
    go : (t : Bool) (xs : List (Told SeenRecord)) (bs : List (List ℕ)) → BothList (ThingSay f) xs bs
        → BothList (ThingSay f) (pick t (seen_record_of f w ∷ xs) xs) (pick t (b ∷ bs) bs)
    go true xs bs h = ((w, k, refl), h)
    go false xs bs h = h

-- lists of records of the same texts are alike, two by two in order
things_alike : (f g : List ℕ) (xs ys : List (Told SeenRecord)) (bs : List (List ℕ)) → BothList (ThingSay f) xs bs → BothList (ThingSay g) ys bs
    → BothList (BothTold (AlikeRecord Every f g)) xs ys
things_alike f g [] [] [] h k = tt
things_alike f g [] (y ∷ ys) [] h k = absurd k
things_alike f g [] ys (b ∷ bs) h k = absurd h
things_alike f g (x ∷ xs) ys [] h k = absurd h
things_alike f g (x ∷ xs) [] (b ∷ bs) h k = absurd k
things_alike f g (x ∷ xs) (y ∷ ys) (b ∷ bs) ((w, p, i), h) ((v, q, j), k) = (rw (i, j, says_thing p, says_thing q) (says_alike p q), things_alike f g xs ys bs h k)

-- the unit contexts of two files are alike, two by two in order, where their texts are the same in order
pub contexts_alike : (f g : List ℕ) (ws vs : List Row) (ts us : List (List ℕ)) → AllSay f ws ts → AllSay g vs us → contexts_in ts ≡ contexts_in us
    → BothList (BothTold (AlikeRecord Every f g)) (contexts_of f (map (seen_record_of f) ws)) (contexts_of g (map (seen_record_of g) vs))
contexts_alike f g ws vs ts us a b e = things_alike f g (contexts_of f (map (seen_record_of f) ws)) (contexts_of g (map (seen_record_of g) vs)) (contexts_in us) (rw e at (contexts_say f ws ts a)) (contexts_say g vs us b)
