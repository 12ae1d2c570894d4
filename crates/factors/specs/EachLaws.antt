-- The first and the last of a list: laws, and the last one computed. Assumes nothing.
use Rattle.std.specs.Prelude.{◌≡◌, refl, ◌⊎◌, List, [], ◌∷◌, ◌++◌, Option, Some, None}
use Rattle.std.proofs.Common.{sym, ◌∙◌, ap, subst, inl, inr}
use Rattle.common.specs.Compare.{clash}
use Rattle.lookup.specs.Records.{or_else}
use Rattle.factors.specs.Each.{Each, IsFirst, LastToldForm}

module _ {A : Type 0} (P : A → Type 0) where
  -- of an empty list each member is as P says
  pub each_nil : Each P []
  each_nil [] back x e = clash cc
  each_nil (v ∷ front) back x e = clash cc

  -- where a member in front is so and each of the others is, each is
  pub each_more : (v : A) (xs : List A) → P v → Each P xs → Each P (v ∷ xs)
  each_more v xs p h [] back x e = let q : v ≡ x = cc in subst P q p
  each_more v xs p h (u ∷ front) back x e = h front back x cc

  -- where each member is so, the first is
  pub each_head : (v : A) (xs : List A) → Each P (v ∷ xs) → P v
  each_head v xs h = h [] xs v refl

  -- where each member is so, each after the first is
  pub each_less : (v : A) (xs : List A) → Each P (v ∷ xs) → Each P xs
  each_less v xs h front back x e = h (v ∷ front) back x (ap (λ (ys : List A). v ∷ ys) e)

module _ {A R : Type 0} (Passed : A → Type 0) (Gives : A → R → Type 0) where
  -- the first to give an answer is the first also behind one more in front that is passed over
  pub first_more : (v : A) (xs : List A) (a : R) → Passed v → IsFirst Passed Gives xs a → IsFirst Passed Gives (v ∷ xs) a
  first_more v xs a p h = record { front = v ∷ h.front; one = h.one; back = h.back; cut = ap (λ (ys : List A). v ∷ ys) h.cut; before = each_more Passed v h.front p h.before; gives = h.gives }

  -- where each member is passed over or gives an answer, all are passed over, or there is a first that gives one
  pub first_comes : ((x : A) → Passed x ⊎ ((a : R) × Gives x a)) → (xs : List A) → Each Passed xs ⊎ ((a : R) × IsFirst Passed Gives xs a)
  first_comes d [] = inl (each_nil Passed)
  first_comes d (v ∷ xs) = go (d v) (first_comes d xs)
    where
      go : Passed v ⊎ ((a : R) × Gives v a) → Each Passed xs ⊎ ((a : R) × IsFirst Passed Gives xs a) → Each Passed (v ∷ xs) ⊎ ((a : R) × IsFirst Passed Gives (v ∷ xs) a)
      go (inr (a, g)) h = inr (a, record { front = []; one = v; back = xs; cut = refl; before = each_nil Passed; gives = g })
      go (inl p) (inl h) = inl (each_more Passed v xs p h)
      go (inl p) (inr (a, h)) = inr (a, first_more v xs a p h)

  -- what is computed from a list, where a member that is passed over changes nothing and one that gives an answer decides
  module _ {S : Type 0} (say : R → S) (f : List A → S) (on : (x : A) (xs : List A) → Passed x → f xs ≡ f (x ∷ xs)) (here : (x : A) (xs : List A) (a : R) → Gives x a → say a ≡ f (x ∷ xs)) where
    -- where all members are passed over, what is computed is that of the empty list
    pub first_never : (xs : List A) → Each Passed xs → f [] ≡ f xs
    first_never [] h = refl
    first_never (v ∷ xs) h = first_never xs (each_less Passed v xs h) ∙ on v xs (each_head Passed v xs h)

    -- where a member gives an answer behind some that are passed over, it decides
    first_behind : (front : List A) (x : A) (back : List A) (a : R) → Each Passed front → Gives x a → say a ≡ f (front ++ (x ∷ back))
    first_behind [] x back a p g = here x back a g
    first_behind (v ∷ front) x back a p g = first_behind front x back a (each_less Passed v front p) g ∙ on v (front ++ (x ∷ back)) (each_head Passed v front p)

    -- the first member that gives an answer decides
    pub first_decides : (xs : List A) (a : R) → IsFirst Passed Gives xs a → say a ≡ f xs
    first_decides xs a h = first_behind h.front h.one h.back a h.before h.gives ∙ ap f (sym h.cut)

-- what g tells of the last member of which it tells something, computed: that of the later members, or else of this one
abbrev pub last_by : {A R : Type 0} → (A → Option R) → List A → Option R
last_by g [] = None
last_by g (x ∷ xs) = or_else (last_by g xs) (g x)

module _ {A R : Type 0} (g : A → Option R) where
  -- what `last_by` computes is what g tells of the last member, or there is none
  pub last_told_is : (xs : List A) → LastToldForm g xs (last_by g xs)
  last_told_is [] = each_nil (λ x. g x ≡ None)
  last_told_is (v ∷ xs) = go (last_by g xs) (last_told_is xs) (g v) refl
    where
      go : (o : Option R) → LastToldForm g xs o → (w : Option R) → g v ≡ w → LastToldForm g (v ∷ xs) (or_else o w)
      go (Some a) h w e = record { front = v ∷ h.front; one = h.one; back = h.back; cut = ap (λ (ys : List A). v ∷ ys) h.cut; gives = h.gives; after = h.after }
      go None h (Some a) e = record { front = []; one = v; back = xs; cut = refl; gives = e; after = h }
      go None h None e = each_more (λ x. g x ≡ None) v xs e h

  -- where g tells nothing of each member, `last_by` computes none
  last_none : (xs : List A) → Each (λ x. g x ≡ None) xs → None ≡ last_by g xs
  last_none [] h = refl
  last_none (v ∷ xs) h = rw (← last_none xs (each_less (λ x. g x ≡ None) v xs h)) (sym (each_head (λ x. g x ≡ None) v xs h))

  -- the last member of which g tells something, behind any others, is what `last_by` computes
  last_behind : (front : List A) (x : A) (back : List A) (a : R) → g x ≡ Some a → Each (λ x. g x ≡ None) back → Some a ≡ last_by g (front ++ (x ∷ back))
  last_behind [] x back a e h = rw (← last_none back h) (sym e)
  last_behind (v ∷ front) x back a e h = rw (← last_behind front x back a e h) refl

  -- nothing but what `last_by` computes is told of the last member
  pub last_told_only : (xs : List A) (o : Option R) → LastToldForm g xs o → o ≡ last_by g xs
  last_told_only xs None h = last_none xs h
  last_told_only xs (Some a) h = last_behind h.front h.one h.back a h.gives h.after ∙ ap (last_by g) (sym h.cut)
