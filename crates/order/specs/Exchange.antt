-- Rearrangements that a user meets: none, one after the other, two neighbours, and two records whose ids nobody else has.
-- Assumes nothing.
use Rattle.std.specs.Prelude.{ℕ, ◌≡◌, Bool, ◌&&◌}
use Rattle.std.proofs.Math.Path.{refl, ap}
use Rattle.std.proofs.Common.{sym, ◌∙◌}
use Rattle.std.proofs.Math.Bool.{true, false}
use mathlib.Core.List.{List, [], ◌∷◌, ◌++◌}
use Rattle.common.specs.Pick.{pick}
use Rattle.common.specs.Compare.{clash}
use Rattle.record.specs.Head.{data_head}
use Rattle.order.specs.Order.{Permuted, head_has_id, those, of_id, context_text, Rearranged}

-- ---- the same texts in another order
-- texts are themselves in another order, where nothing changes places
pub permuted_same : (ts : List (List ℕ)) → Permuted ts ts
permuted_same [] = Permuted.empty
permuted_same (b ∷ ts) = Permuted.front (permuted_same ts)

-- texts in another order are so behind others that stay
permuted_behind : (xs : List (List ℕ)) {ts us : List (List ℕ)} → Permuted ts us → Permuted (xs ++ ts) (xs ++ us)
permuted_behind [] p = p
permuted_behind (x ∷ xs) p = Permuted.front (permuted_behind xs p)

-- a text comes to the front
permuted_first : (ys : List (List ℕ)) (b : List ℕ) (zs : List (List ℕ)) → Permuted (ys ++ (b ∷ zs)) (b ∷ (ys ++ zs))
permuted_first [] b zs = permuted_same (b ∷ zs)
permuted_first (y ∷ ys) b zs = Permuted.then (Permuted.front (permuted_first ys b zs)) Permuted.swap

-- a text goes from the front to a place behind others
permuted_back : (ys : List (List ℕ)) (b : List ℕ) (zs : List (List ℕ)) → Permuted (b ∷ (ys ++ zs)) (ys ++ (b ∷ zs))
permuted_back [] b zs = permuted_same (b ∷ zs)
permuted_back (y ∷ ys) b zs = Permuted.then Permuted.swap (Permuted.front (permuted_back ys b zs))

-- two texts change places
permuted_two : (xs : List (List ℕ)) (a : List ℕ) (ys : List (List ℕ)) (b : List ℕ) (zs : List (List ℕ))
    → Permuted (xs ++ (a ∷ (ys ++ (b ∷ zs)))) (xs ++ (b ∷ (ys ++ (a ∷ zs))))
permuted_two xs a ys b zs =
    permuted_behind xs
    (Permuted.then (Permuted.front (permuted_first ys b zs)) (Permuted.then Permuted.swap (Permuted.front (permuted_back ys a zs))))

-- ---- the order of those of which a test holds
module _ (p : List ℕ → Bool) where
  -- the texts of two lists of which a test holds are those of each
  those_join : (xs ys : List (List ℕ)) → those p (xs ++ ys) ≡ those p xs ++ those p ys
  unfolding those
  those_join [] ys = refl
  those_join (x ∷ xs) ys = go (p x) (those_join xs ys)
    where
      go : (t : Bool) → those p (xs ++ ys) ≡ those p xs ++ those p ys
          → pick t (x ∷ those p (xs ++ ys)) (those p (xs ++ ys)) ≡ pick t (x ∷ those p xs) (those p xs) ++ those p ys
      go true e = ap (λ (z : List (List ℕ)). x ∷ z) e
      go false e = e

  -- where the test holds of the first text, that comes first among the texts of which it holds
  those_one : (b : List ℕ) (bs : List (List ℕ)) → p b ≡ true → those p (b ∷ bs) ≡ b ∷ those p bs
  unfolding those
  those_one b bs h = rw h refl

  -- where the test does not hold of the first text, that drops out of the texts of which it holds
  those_not : (b : List ℕ) (bs : List (List ℕ)) → p b ≡ false → those p (b ∷ bs) ≡ those p bs
  unfolding those
  those_not b bs h = rw h refl

  -- neighbours of which the test does not hold at once change places, and the texts of which it holds stay in order
  pub those_swap : (a b : List ℕ) (zs : List (List ℕ)) → (p a && p b) ≡ false → those p (a ∷ b ∷ zs) ≡ those p (b ∷ a ∷ zs)
  unfolding those
  those_swap a b zs = go (p a) (p b)
    where
      go : (t u : Bool) → (t && u) ≡ false
          → pick t (a ∷ pick u (b ∷ those p zs) (those p zs)) (pick u (b ∷ those p zs) (those p zs)) ≡ pick u (b ∷ pick t (a ∷ those p zs) (those p zs)) (pick t (a ∷ those p zs) (those p zs))
      go true true h = clash (cc)
      go true false h = refl
      go false u h = refl

  -- where the texts of which the test holds are the same in two lists, they are so behind others that stay
  those_behind : (xs ts us : List (List ℕ)) → those p ts ≡ those p us → those p (xs ++ ts) ≡ those p (xs ++ us)
  those_behind xs ts us e = those_join xs ts ∙ ap (λ (z : List (List ℕ)). those p xs ++ z) e ∙ sym (those_join xs us)

  -- a text goes past others of which the test does not hold, and the texts of which it holds stay in order
  those_past : (a : List ℕ) (ys zs : List (List ℕ)) → those p ys ≡ [] → those p (a ∷ (ys ++ zs)) ≡ those p (ys ++ (a ∷ zs))
  unfolding those
  those_past a ys zs e = rw (those_join ys zs, those_join ys (a ∷ zs), e) refl

  -- where the test holds of none in two lists joined, it holds of none in the first
  those_fore : (xs ys : List (List ℕ)) → those p (xs ++ ys) ≡ [] → those p xs ≡ []
  those_fore xs ys e = go (those p xs) (those p ys) (sym (those_join xs ys) ∙ e)
    where
      go : (ws vs : List (List ℕ)) → ws ++ vs ≡ [] → ws ≡ []
      go [] vs e = refl
      go (w ∷ ws) vs e = clash (cc)

  -- where the test holds of none in two lists joined, it holds of none in the second
  those_aft : (xs ys : List (List ℕ)) → those p (xs ++ ys) ≡ [] → those p ys ≡ []
  those_aft xs ys e = go (those p xs) (those p ys) (sym (those_join xs ys) ∙ e)
    where
      go : (ws vs : List (List ℕ)) → ws ++ vs ≡ [] → vs ≡ []
      go [] vs e = e
      go (w ∷ ws) vs e = clash (cc)

  -- two texts change places, each of which the test holds of only if of no other there, and the texts of which it holds stay in order
  those_two : (a : List ℕ) (ys : List (List ℕ)) (b : List ℕ) (zs : List (List ℕ)) → (p a ≡ true → those p (ys ++ (b ∷ zs)) ≡ [])
      → (p b ≡ true → those p (a ∷ (ys ++ zs)) ≡ []) → those p (a ∷ (ys ++ (b ∷ zs))) ≡ those p (b ∷ (ys ++ (a ∷ zs)))
  those_two a ys b zs h k = go (p a) (p b) refl refl
    where
      go : (t u : Bool) → p a ≡ t → p b ≡ u → those p (a ∷ (ys ++ (b ∷ zs))) ≡ those p (b ∷ (ys ++ (a ∷ zs)))
      go false false i j = those_not a _ i ∙ those_behind ys (b ∷ zs) (a ∷ zs) (those_not b zs j ∙ sym (those_not a zs i)) ∙ sym (those_not b _ j)
      go true false i j =
          those_past a ys (b ∷ zs) (those_fore ys (b ∷ zs) (h i))
          ∙ those_behind ys (a ∷ b ∷ zs) (a ∷ zs) (those_one a _ i ∙ ap (λ (z : List (List ℕ)). a ∷ z) (those_not b zs j) ∙ sym (those_one a zs i))
          ∙ sym (those_not b _ j)
      go false true i j =
          those_not a _ i
          ∙ those_behind ys (b ∷ zs) (b ∷ a ∷ zs) (those_one b zs j ∙ ap (λ (z : List (List ℕ)). b ∷ z) (sym (those_not a zs i)) ∙ sym (those_one b _ j))
          ∙ sym (those_past b ys (a ∷ zs) (those_fore ys zs (sym (those_not a _ i) ∙ k j)))
      go true true i j = clash (cc (those_one a (ys ++ zs) i, k j))

-- ---- rearrangements
-- a rearrangement in which nothing changes places
pub rearranged_same : (ts : List (List ℕ)) → Rearranged ts ts
rearranged_same ts = record { whole = permuted_same ts; ids = λ k. refl; contexts = refl }

-- one rearrangement after the other is a rearrangement
pub rearranged_then : {ts us vs : List (List ℕ)} → Rearranged ts us → Rearranged us vs → Rearranged ts vs
rearranged_then a b = record { whole = Permuted.then a.whole b.whole; ids = λ k. a.ids k ∙ b.ids k; contexts = a.contexts ∙ b.contexts }

-- neighbours with different ids that are not both unit contexts may change places, behind others that stay
pub rearranged_swap : (xs : List (List ℕ)) (a b : List ℕ) (zs : List (List ℕ)) → ((k : ℕ) → (head_has_id k (data_head a) && head_has_id k (data_head b)) ≡ false)
    → (context_text a && context_text b) ≡ false → Rearranged (xs ++ (a ∷ b ∷ zs)) (xs ++ (b ∷ a ∷ zs))
rearranged_swap xs a b zs h k = record {
  whole = permuted_behind xs Permuted.swap;
  ids = λ i. those_behind (λ c. head_has_id i (data_head c)) xs _ _ (those_swap (λ c. head_has_id i (data_head c)) a b zs (h i));
  contexts = those_behind context_text xs _ _ (those_swap context_text a b zs k);
}

-- "a record whose id no other record has, and that is no unit context": rs are the other records' texts
pub record Lone (b : List ℕ) (rs : List (List ℕ)) : Type 0 where
  pub id : (k : ℕ) → head_has_id k (data_head b) ≡ true → of_id k rs ≡ []
  pub plain : context_text b ≡ false

-- a record whose id no other has, and that is no unit context, "may change places with any other such record"
pub rearranged_lone : (xs : List (List ℕ)) (a : List ℕ) (ys : List (List ℕ)) (b : List ℕ) (zs : List (List ℕ))
    → Lone a (xs ++ (ys ++ (b ∷ zs))) → Lone b (xs ++ (a ∷ (ys ++ zs)))
    → Rearranged (xs ++ (a ∷ (ys ++ (b ∷ zs)))) (xs ++ (b ∷ (ys ++ (a ∷ zs))))
rearranged_lone xs a ys b zs h k = record {
  whole = permuted_two xs a ys b zs;
  ids = λ i. by (λ c. head_has_id i (data_head c)) (λ e. h.id i e) (λ e. k.id i e);
  contexts = by context_text (λ e. clash (cc (h.plain, e))) (λ e. clash (cc (k.plain, e)));
}
  where
    by : (p : List ℕ → Bool) → (p a ≡ true → those p (xs ++ (ys ++ (b ∷ zs))) ≡ []) → (p b ≡ true → those p (xs ++ (a ∷ (ys ++ zs))) ≡ [])
        → those p (xs ++ (a ∷ (ys ++ (b ∷ zs)))) ≡ those p (xs ++ (b ∷ (ys ++ (a ∷ zs))))
    by p u v = those_behind p xs _ _ (those_two p a ys b zs (λ e. those_aft p xs _ (u e)) (λ e. those_aft p xs _ (v e)))
