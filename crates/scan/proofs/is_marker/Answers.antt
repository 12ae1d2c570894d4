use Rattle.std.proofs.Common.{◌≡◌, refl, sym, ◌∙◌, ap, ap₂, arith, ℕ, ◌-◌, Bool, true, false, ◌&&◌, List, [], ◌∷◌, length, take, drop, take_all, length-drop, eqb, eq-eqb, ne_eqb, eqb-true}
use Rattle.std.proofs.lemmas.Bool.{eqb-false}
use Rattle.record.specs.Word.{same_bytes, marker}
use Rattle.scan.proofs.is_marker.Goals as goal

-- two bytes are the same either way round
eqb_swap : (a b : ℕ) → eqb a b ≡ eqb b a
eqb_swap a b = go (eqb a b) refl
  where
    go : (t : Bool) → eqb a b ≡ t → eqb a b ≡ eqb b a
    go true e = e ∙ sym (eq-eqb b a (sym (eqb-true a b e)))
    go false e = e ∙ sym (ne_eqb b a (λ k. eqb-false a b e (sym k)))

-- two texts are the same either way round
same_swap : (x y : List ℕ) → same_bytes x y ≡ same_bytes y x
same_swap [] [] = refl
same_swap [] (b ∷ y) = refl
same_swap (a ∷ x) [] = refl
same_swap (a ∷ x) (b ∷ y) = ap₂ ◌&&◌ (eqb_swap a b) (same_swap x y)

pub returns : goal.returns
returns c = let t = c.args.t.now in
    let n = c.leading_space-a.result in
    c.starts_with.ensures.value ∙ same_swap marker (take 12 (take (length t - n) (drop n t)))
    ∙ ap (λ (l : List ℕ). same_bytes (take 12 l) marker) (take_all (length t - n) (drop n t) (omega (arith, length-drop n t)) ∙ c.leading_space-a.ensures.b_value)
