-- "each id then yields a record with the same keyword and argument bytes, or none as before". Assumes nothing.
use Rattle.std.specs.Prelude.{ℕ, ◌≡◌, refl, Bool, true, false, List, [], ◌∷◌, eqb, length, Option, None, Some}
use Rattle.std.proofs.Common.{sym, ◌∙◌, ap}
use Rattle.common.specs.Pick.{pick}
use Rattle.error.specs.Refusal.{Told, good}
use Rattle.record.specs.Head.{data_head}
use Rattle.statement.specs.Rows.{Row}
use Rattle.statement.specs.Closed.{ClosedData, Content, content}
use Rattle.statement.specs.ClosedRight.{row_from, record_row, record_content, alone, alone_is}
use Rattle.lookup.specs.Records.{last_of, or_else}
use Rattle.order.specs.Order.{head_has_id, those, of_id, content_found}
use Rattle.order.specs.Shape.{RowSays, AllSay}

-- the last of some texts; none where there is none
abbrev pub last_text : List (List ℕ) → Option (List ℕ)
last_text [] = None
last_text (b ∷ bs) = or_else (last_text bs) (Some b)

-- the row that is served is that of a text, or there is neither
abbrev pub FoundSay : List ℕ → Option Row → Option (List ℕ) → Type 0
FoundSay f None None = Unit {0}
FoundSay f None (Some b) = ⊥
FoundSay f (Some w) None = ⊥
FoundSay f (Some w) (Some b) = RowSays f w b

-- a text is read to one row, however it is shown to be closed
pub says_row : {f : List ℕ} {w : Row} {b : List ℕ} (k : RowSays f w b) (c : ClosedData b) → w ≡ row_from (length k.front) c
says_row {f} {w} {b} k c = let x = record_row k.closed k.front k.back in let y = record_row c k.front k.back in k.row ∙ good_one (sym x ∙ y)
  where
    good_one : {v u : Row} → ◌≡◌ {A = Told Row} (good v) (good u) → v ≡ u
    good_one e = cc

-- a row has the id of its text
says_id : (k : ℕ) {f : List ℕ} {w : Row} {b : List ℕ} → RowSays f w b → head_has_id k (data_head b) ≡ eqb w.id k
says_id k {f} {w} {b} y = go (length y.front) y.closed y.row
  where
    go : (n : ℕ) (c : ClosedData b) → w ≡ row_from n c → head_has_id k (data_head b) ≡ eqb w.id k
    go n (ClosedData.simple e c) h = rw (e, h) refl
    go n (ClosedData.complex e c p) h = rw (e, h) refl

-- the record that is served for an id is that of the last text with the id
pub found_says : (k : ℕ) (f : List ℕ) (ws : List Row) (bs : List (List ℕ)) → AllSay f ws bs → FoundSay f (last_of k ws) (last_text (of_id k bs))
unfolding last_of those
found_says k f [] [] a = tt
found_says k f [] (b ∷ bs) a = absurd a
found_says k f (w ∷ ws) [] a = absurd a
found_says k f (w ∷ ws) (b ∷ bs) (y, a) = rw (says_id k y) (go (eqb w.id k) (last_of k ws) (of_id k bs) (found_says k f ws bs a))
  where
    first : (x : Option Row) (z : Option (List ℕ)) → FoundSay f x z → FoundSay f (or_else x (Some w)) (or_else z (Some b))
    first None None h = y
    first None (Some c) h = absurd h
    first (Some v) None h = absurd h
    first (Some v) (Some c) h = h

    other : (x : Option Row) (z : Option (List ℕ)) → FoundSay f x z → FoundSay f (or_else x None) z
    other None z h = h
    other (Some v) z h = h

    go : (t : Bool) (x : Option Row) (z : List (List ℕ)) → FoundSay f x (last_text z)
        → FoundSay f (or_else x (pick t (Some w) None)) (last_text (pick t (b ∷ z) z))
    go true x z h = first x (last_text z) h
    go false x z h = other x (last_text z) h

-- what a row says is what its text says by itself
pub says_content : {f : List ℕ} {w : Row} {b : List ℕ} → RowSays f w b → alone b ≡ good (content f w)
says_content {f} {w} {b} y = alone_is y.closed ∙ ap good (sym (ap (λ (g : List ℕ). content g w) y.shape ∙ ap (content _) y.row ∙ record_content y.closed y.front y.back))

-- two rows of one text, or none for none, say the same
pub same_content : (f g : List ℕ) (x y : Option Row) (z : Option (List ℕ)) → FoundSay f x z → FoundSay g y z → content_found f x ≡ content_found g y
same_content f g None None None h k = refl
same_content f g None (Some v) None h k = absurd k
same_content f g (Some w) y None h k = absurd h
same_content f g None y (Some b) h k = absurd h
same_content f g (Some w) None (Some b) h k = absurd k
same_content f g (Some w) (Some v) (Some b) h k = ap Some (good_one (sym (says_content h) ∙ says_content k))
  where
    good_one : {p q : Content} → ◌≡◌ {A = Told Content} (good p) (good q) → p ≡ q
    good_one e = cc
