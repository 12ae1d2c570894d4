-- Lists told without a loop: that each member of a list is so, which one is the first to give an answer, and which one the last. A list
-- is cut around a member into those before it and those after it. Assumes nothing.
-- Definitions to be believed: no law, and nothing computed that no theorem ties (docs/BELIEVE.md).
use Rattle.std.specs.Prelude.{◌≡◌, List, ◌∷◌, ◌++◌, Option, Some, None}

-- P holds of each member of a list, wherever it is cut around one
abbrev pub Each : {A : Type 0} → (A → Type 0) → List A → Type 0
Each {A} P xs = (front back : List A) (x : A) → xs ≡ front ++ (x ∷ back) → P x

-- the first member of a list that gives an answer: it gives a, and each before it is passed over
pub record IsFirst {A R : Type 0} (Passed : A → Type 0) (Gives : A → R → Type 0) (xs : List A) (a : R) : Type 0 where
  pub front : List A
  pub one : A
  pub back : List A
  pub cut : xs ≡ front ++ (one ∷ back)
  pub before : Each Passed front
  pub gives : Gives one a

-- the last member of a list of which g tells something: it tells a, and of each after it g tells nothing
pub record IsLastTold {A R : Type 0} (g : A → Option R) (xs : List A) (a : R) : Type 0 where
  pub front : List A
  pub one : A
  pub back : List A
  pub cut : xs ≡ front ++ (one ∷ back)
  pub gives : g one ≡ Some a
  pub after : Each (λ x. g x ≡ None) back

-- what g tells of the last member of which it tells something, or that there is none
abbrev pub LastToldForm : {A R : Type 0} → (A → Option R) → List A → Option R → Type 0
LastToldForm g xs None = Each (λ x. g x ≡ None) xs
LastToldForm g xs (Some a) = IsLastTold g xs a
