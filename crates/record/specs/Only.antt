-- "that two allowed answers coincide is proved": a rest of a text begins at one place, and digits are one number. Assumes nothing.
use Rattle.std.specs.Prelude.{ℕ, ◌≤◌, ◌≡◌, refl, List, length, drop, Option, Some, None}
use Rattle.std.proofs.Common.{sym, ◌∙◌, ap, arith, length-drop}
use Rattle.lex.specs.Byte.{white}
use Rattle.record.specs.Text.{past, trail, NumberAndRest, number_and_rest, Numbered}

-- a rest begins at one place
place_only : (b l : List ℕ) (p q : ℕ) → drop p b ≡ l → p ≤ length b → drop q b ≡ l → q ≤ length b → p ≡ q
place_only b l p q e h f k = omega (arith, length-drop p b, length-drop q b, ap length (e ∙ sym f))

-- `leading_space` has one answer: the place of the first byte that is not white
pub leading_only : (b : List ℕ) (p q : ℕ) → drop p b ≡ past white b → p ≤ length b → drop q b ≡ past white b → q ≤ length b → p ≡ q
leading_only b = place_only b (past white b)

-- `trail_at`
pub trail_one : (b : List ℕ) (from p q : ℕ) → drop p b ≡ trail (drop from b) → p ≤ length b → drop q b ≡ trail (drop from b) → q ≤ length b → p ≡ q
trail_one b from = place_only b (trail (drop from b))

-- `digits_at`
pub digits_one : (b : List ℕ) (from : ℕ) (x y : Option (ℕ × ℕ)) → Numbered b from x → Numbered b from y → x ≡ y
digits_one b from None None h k = refl
digits_one b from None (Some (n, p)) h (e, l, m, o) = let v = ap (λ (d : NumberAndRest). d.value) e in absurd (omega (arith, v))
digits_one b from (Some (n, p)) None (e, l, m, o) h = let v = ap (λ (d : NumberAndRest). d.value) e in absurd (omega (arith, v))
digits_one b from (Some (n, p)) (Some (k, q)) (e, l, m, o) (f, i, j, c) =
    let g : number_and_rest n (drop p b) ≡ number_and_rest k (drop q b) = sym e ∙ f in
    let u : n ≡ k = ap (λ (d : NumberAndRest). d.value) g in
    let r = ap (λ (d : NumberAndRest). length d.rest) g in
    let v : p ≡ q = omega (arith, r, length-drop p b, length-drop q b) in
    cc
