-- Items counted whatever they read as: a list that any reader reads has as many. Assumes nothing.
use Prim.Native.Nat.{ℕ, zero, suc, ◌+◌, ◌-◌}
use Rattle.std.specs.Prelude.{◌≡◌, refl, Bool}
use Rattle.std.proofs.Common.{◌∙◌}
use Rattle.std.proofs.Math.Path.{ap}
use Rattle.std.proofs.Math.Bool.{true, false}
use mathlib.Core.List.{List, [], ◌∷◌, map}
use Rattle.std.proofs.Math.ListN.{length}
use Rattle.common.specs.Pick.{pick}
use Rattle.common.specs.Compare.{clash}
use Rattle.lists.specs.Answer.{Fate, fine, faulty, shifted, consed, anything}
use Rattle.lists.specs.Items.{item_end, item_text, indent, item_by, headed, past_comma, items_from, is_blank, items_by, Body, inside, bare, body_of, listed, list_by}
use Rattle.lists.specs.Rules.{Listed}
use Rattle.lists.specs.RulesRight.{listed_is, listed_only}

-- the rule of an item that any text is: it reads, whatever it is
abbrev pub Anything : List ℕ → Fate (Unit {0}) → Type 0
Anything u a = a ≡ fine tt

-- the items of a list by the rules of document 01, whatever they read as, are those that are computed
pub items_are : (t : List ℕ) → Listed Anything t (list_by anything t)
items_are t = listed_is Anything anything (λ u. refl) t

-- the items of a list by the rules of document 01, whatever they read as, are no others than those that are computed
pub items_only : {t : List ℕ} {a : Fate (List (Unit {0}))} → Listed Anything t a → a ≡ list_by anything t
items_only d = listed_only Anything anything (λ u a e. e) d

-- the rows of a grid by the rules of document 01, whatever their items read as, are those that are computed
pub rows_are : (t : List ℕ) → Listed (Listed Anything) t (list_by (list_by anything) t)
rows_are t = listed_is (Listed Anything) (list_by anything) items_are t

-- the rows of a grid by the rules of document 01, whatever their items read as, are no others than those that are computed
pub rows_only : {t : List ℕ} {a : Fate (List (List (Unit {0})))} → Listed (Listed Anything) t a → a ≡ list_by (list_by anything) t
rows_only d = listed_only (Listed Anything) (list_by anything) (λ u a. items_only) d

-- ---- a list that g reads is read by h, which reads what g reads
-- a text that reads as a value seen from k bytes further back reads as that value
shifted_fine : {A : Type 0} (k : ℕ) (x : Fate A) (v : A) → shifted k x ≡ fine v → x ≡ fine v
shifted_fine k (fine a) v e = e
shifted_fine k (faulty n o) v e = clash (cc)

module _ {A B : Type 0} (k : A → B) where
  -- an item with those that follow it, which g reads, is read by h, where h reads the item and those that follow it
  headed_also : (x : Fate A) (y : Fate B) (p : Unit {0} → Fate (List A)) (q : Unit {0} → Fate (List B)) → ((v : A) → x ≡ fine v → y ≡ fine (k v)) → ((ws : List A) → p tt ≡ fine ws → q tt ≡ fine (map k ws))
      → (vs : List A) → headed x p ≡ fine vs → headed y q ≡ fine (map k vs)
  headed_also (fine a) y p q f g vs e = go (p tt) refl e
    where
      go : (r : Fate (List A)) → p tt ≡ r → consed a r ≡ fine vs → headed y q ≡ fine (map k vs)
      go (fine ws) h d = let w : a ∷ ws ≡ vs = cc in ap (λ (z : Fate B). headed z q) (f a refl) ∙ ap (consed (k a)) (g ws h) ∙ ap (λ (us : List A). fine (map k us)) w
      go (faulty n o) h d = clash (cc)
  headed_also (faulty n o) y p q f g vs e = clash (cc)

  -- what follows a comma and is read by g is read by h, where h reads every rest that g reads
  past_also : (xs : List ℕ) (p : List ℕ → Fate (List A)) (q : List ℕ → Fate (List B)) → ((r : List ℕ) (ws : List A) → p r ≡ fine ws → q r ≡ fine (map k ws)) → (vs : List A) → past_comma xs p ≡ fine vs → past_comma xs q ≡ fine (map k vs)
  past_also [] p q f vs e = let w : [] ≡ vs = cc in ap (λ (us : List A). fine (map k us)) w
  past_also (c ∷ r) p q f vs e = f r vs e

  module _ (g : List ℕ → Fate A) (h : List ℕ → Fate B) (also : (u : List ℕ) (v : A) → g u ≡ fine v → h u ≡ fine (k v)) where
    -- an item that g reads is read by h, where h reads each text that g reads
    item_also : (o : ℕ) (t : List ℕ) (v : A) → shifted o (item_by g t) ≡ fine v → shifted o (item_by h t) ≡ fine (k v)
    unfolding item_by
    item_also o t v e =
        let f = shifted_fine (indent t) (g (item_text t)) v (shifted_fine o (shifted (indent t) (g (item_text t))) v e) in
        ap (λ (x : Fate B). shifted o (shifted (indent t) x)) (also (item_text t) v f)

    -- the items from a rest on that g reads are read by h, where h reads each text that g reads
    from_also : (n o : ℕ) (xs : List ℕ) (vs : List A) → items_from n g o xs ≡ fine vs → items_from n h o xs ≡ fine (map k vs)
    unfolding items_from
    from_also zero o xs vs e = let w : [] ≡ vs = cc in ap (λ (us : List A). fine (map k us)) w
    from_also (suc n) o xs vs e =
        headed_also (shifted o (item_by g xs)) (shifted o (item_by h xs)) (λ u. past_comma (item_end xs) (λ r. items_from n g (o + (length xs - length r)) r)) (λ u. past_comma (item_end xs) (λ r. items_from n h (o + (length xs - length r)) r))
        (item_also o xs)
        (past_also (item_end xs) (λ r. items_from n g (o + (length xs - length r)) r) (λ r. items_from n h (o + (length xs - length r)) r) (λ r ws. from_also n (o + (length xs - length r)) r ws))
        vs e

    -- a list that g reads is read by h, with k of each value, where h reads each text that g reads with k of its value
    pub list_also : (t : List ℕ) (vs : List A) → list_by g t ≡ fine vs → list_by h t ≡ fine (map k vs)
    unfolding list_by items_by
    list_also t vs e = go (body_of t) e
      where
        inner : (b : List ℕ) (z : Bool) → pick z (fine []) (items_from (suc (length b)) g 0 b) ≡ fine vs → pick z (fine []) (items_from (suc (length b)) h 0 b) ≡ fine (map k vs)
        inner b true d = let w : [] ≡ vs = cc in ap (λ (us : List A). fine (map k us)) w
        inner b false d = from_also (suc (length b)) 0 b vs d

        go : (b : Body) → listed g b ≡ fine vs → listed h b ≡ fine (map k vs)
        go (inside b) d = ap (shifted 1) (inner b (is_blank b) (shifted_fine 1 (pick (is_blank b) (fine []) (items_from (suc (length b)) g 0 b)) vs d))
        go bare d = clash (cc)

-- a list that is read has as many items as are counted
pub list_counted : {A : Type 0} (g : List ℕ → Fate A) (t : List ℕ) (vs : List A) → list_by g t ≡ fine vs → list_by anything t ≡ fine (map (λ (a : A). tt {0}) vs)
list_counted {A} g t vs e = list_also (λ (a : A). tt {0}) g anything (λ u v d. refl) t vs e

-- a grid that is read has as many rows, and each as many items, as are counted
pub rows_counted : {A : Type 0} (g : List ℕ → Fate A) (t : List ℕ) (vs : List (List A)) → list_by (list_by g) t ≡ fine vs → list_by (list_by anything) t ≡ fine (map (map (λ (a : A). tt {0})) vs)
rows_counted {A} g t vs e = list_also (map (λ (a : A). tt {0})) (list_by g) (list_by anything) (list_counted g) t vs e
