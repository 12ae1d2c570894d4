use Prim.Native.Nat.{ℕ, suc, ◌+◌, ◌-◌, ◌≤◌, ◌<◌}
use Rattle.std.specs.Prelude.{◌≡◌, List, ◌∷◌, take, drop, get_or, length, refl}
use Rattle.std.proofs.Common.{◌∙◌, ap, subst, arith, add-one, drop-cons}
use Rattle.eights.specs.Told.{EightTold}
use Rattle.reals.specs.DigitLoop.{eight_at, eight_from}
use Rattle.reals.proofs.eight_at.Goals as goal

-- `reals::eight_at` meets its contract: what is told of the eight bytes. Assumes nothing.

-- the bytes from a place on begin with the one there
step : (t : List ℕ) (i j n : ℕ) → j ≡ i + 1 → i < length t → take (suc n) (drop i t) ≡ get_or t i 0 ∷ take n (drop j t)
step t i j n e h = rw (e, add-one, drop-cons t i 0 h) refl

-- the eight bytes from a place on, one by one
taken : (t : List ℕ) (i : ℕ) → i + 8 ≤ length t → take 8 (drop i t) ≡ eight_from t i
taken t i h =
    step t i (i + 1) 7 refl (omega arith)
    ∙ ap (λ (r : List ℕ). get_or t i 0 ∷ r) (step t (i + 1) (i + 2) 6 (omega arith) (omega arith)
    ∙ ap (λ (r : List ℕ). get_or t (i + 1) 0 ∷ r) (step t (i + 2) (i + 3) 5 (omega arith) (omega arith)
    ∙ ap (λ (r : List ℕ). get_or t (i + 2) 0 ∷ r) (step t (i + 3) (i + 4) 4 (omega arith) (omega arith)
    ∙ ap (λ (r : List ℕ). get_or t (i + 3) 0 ∷ r) (step t (i + 4) (i + 5) 3 (omega arith) (omega arith)
    ∙ ap (λ (r : List ℕ). get_or t (i + 4) 0 ∷ r) (step t (i + 5) (i + 6) 2 (omega arith) (omega arith)
    ∙ ap (λ (r : List ℕ). get_or t (i + 5) 0 ∷ r) (step t (i + 6) (i + 7) 1 (omega arith) (omega arith)
    ∙ ap (λ (r : List ℕ). get_or t (i + 6) 0 ∷ r) (step t (i + 7) (i + 8) 0 (omega arith) (omega arith))))))))

-- a slice of eight bytes
sliced : (t : List ℕ) (i j : ℕ) → j ≡ i + 8 → j ≤ length t → take (j - i) (drop i t) ≡ eight_from t i
sliced t i j e h = let l : j - i ≡ 8 = omega arith in ap (λ (n : ℕ). take n (drop i t)) l ∙ taken t i (omega arith)

pub returns : goal.returns
returns c =
    let a = c.args in
    eight_at a.t.now a.at c.number.result (subst (λ (bs : List ℕ). EightTold bs c.number.result) (c.in-Ok.ensures.1.same ∙ sliced a.t.now a.at (a.at + 8) refl (omega arith)) c.number.ensures)
