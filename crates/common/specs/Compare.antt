-- Laws of numbers: how two of them stand to each other, and that two which differ are not equal.
-- Assumes nothing.
use Rattle.std.specs.Prelude.{ℕ, ◌≤◌, ◌<◌, ◌≡◌, refl, Bool, true, false, ◌⊎◌, ltb, eqb}
use Rattle.std.proofs.Common.{inl, inr, arith, ltb-true, ltb-false, eqb-true}
use Rattle.std.proofs.lemmas.Bool.{eqb-false}

-- from 0 being 1 anything follows
pub clash : {A : Type 0} → ◌≡◌ {A = ℕ} 0 1 → A
clash e = absurd (omega arith)

-- of two numbers one is less, or they are equal
pub ordered : (a b : ℕ) → (a < b) ⊎ ((a ≡ b) ⊎ (b < a))
ordered a b = go (ltb a b) refl
  where
    same : (t : Bool) → eqb a b ≡ t → b ≤ a → (a ≡ b) ⊎ (b < a)
    same true e h = inl (eqb-true a b e)
    same false e h = let d = eqb-false a b e in inr (omega arith)

    go : (t : Bool) → ltb a b ≡ t → (a < b) ⊎ ((a ≡ b) ⊎ (b < a))
    go true e = inl (ltb-true a b e)
    go false e = inr (same (eqb a b) refl (ltb-false a b e))

-- of two numbers a and b, a is less than b, or b is at most a
pub less_or : (a b : ℕ) → (a < b) ⊎ (b ≤ a)
less_or a b = go (ltb a b) refl
  where
    go : (t : Bool) → ltb a b ≡ t → (a < b) ⊎ (b ≤ a)
    go true e = inl (ltb-true a b e)
    go false e = inr (ltb-false a b e)
