-- From a place back to the rest: what an answer of the code, a place, says of the search that it answers.
-- Assumes nothing.
use Rattle.std.specs.Prelude.{ℕ, ◌+◌, ◌≤◌, ◌<◌, ◌≡◌, refl, List, ◌∷◌, ◌++◌, length, drop}
use Rattle.std.proofs.Common.{sym, ◌∙◌, ap, arith, length-drop, length-append, drop-drop}
use Rattle.std.proofs.Math.Seq.{drop-append_seam}
use Rattle.error.specs.Refusal.{Refusal, refusal, good, bad}
use Rattle.lex.specs.Byte.{place}
use Rattle.lex.specs.Search.{trivia, record_end}
use Rattle.lex.specs.Answer.{Sought, at, fault, placed}
use Rattle.lex.specs.Local.{end_local}
use Rattle.lex.specs.Right.{trivia_local, end_is}

-- the rest r of the file s begins at p, at or after i
pub record RestAt (s : List ℕ) (i p : ℕ) (r : List ℕ) : Type 0 where
  pub rest : r ≡ drop p s
  pub after : i ≤ p
  pub within : p ≤ length s

-- what is left after some bytes of the rest from i is a rest of the file, and begins at or after i
rest_at : (s : List ℕ) (i : ℕ) (b r : List ℕ) → i ≤ length s → drop i s ≡ b ++ r → RestAt s i (place s r) r
rest_at s i b r h e =
    let n : length (drop i s) ≡ length b + length r = ap length e ∙ length-append b r in
    let p : place s r ≡ i + length b = omega (arith, length-drop i s) in
    let q : drop (i + length b) s ≡ r = sym (drop-drop (length b) i s) ∙ ap (drop (length b)) e ∙ drop-append_seam b r in
    record {
      rest = sym q ∙ ap (λ (k : ℕ). drop k s) (sym p);
      after = omega arith;
      within = omega arith;
    }

-- an answer that is a place is not a refusal
no_place : {A : Type 0} (p : ℕ) (q : Refusal) → good p ≡ bad q → A
no_place p q e = let z : ◌≡◌ {A = ℕ} 0 1 = cc in absurd (omega arith)

-- trivia from i on end at the place that was answered
pub trivia_at : (s : List ℕ) (i p : ℕ) → i ≤ length s → good p ≡ placed s (trivia (drop i s)) → (trivia (drop i s) ≡ at (drop p s)) × (i ≤ p) × (p ≤ length s)
trivia_at s i p h = go (trivia (drop i s)) refl
  where
    go : (x : Sought) → trivia (drop i s) ≡ x → good p ≡ placed s x → (trivia (drop i s) ≡ at (drop p s)) × (i ≤ p) × (p ≤ length s)
    go (fault n o) e k = no_place p (refusal n 0 (place s o)) k
    go (at ys) e k =
        let (b, q, l) = trivia_local (drop i s) ys e in
        let r : RestAt s i (place s ys) ys = rest_at s i b ys h q in
        let f : p ≡ place s ys = cc in
        (e ∙ ap at (r.rest ∙ ap (λ (j : ℕ). drop j s) (sym f)), omega arith, omega arith)

-- a record from i on ends at the place that was answered, where a `;` stands
pub end_at : (s : List ℕ) (i p : ℕ) → i ≤ length s → good p ≡ placed s (record_end (drop i s)) → (record_end (drop i s) ≡ at (drop p s)) × (i ≤ p) × (p < length s)
end_at s i p h = go (record_end (drop i s)) refl
  where
    go : (x : Sought) → record_end (drop i s) ≡ x → good p ≡ placed s x → (record_end (drop i s) ≡ at (drop p s)) × (i ≤ p) × (p < length s)
    go (fault n o) e k = no_place p (refusal n 0 (place s o)) k
    go (at ys) e k =
        let (t, w, u) = end_is (drop i s) ys e in
        let (b, q, l) = end_local (drop i s) t (e ∙ ap at w) in
        let r : RestAt s i (place s (59 ∷ t)) (59 ∷ t) = rest_at s i b (59 ∷ t) h q in
        let f : p ≡ place s (59 ∷ t) = cc in
        let n : length (drop p s) ≡ length (59 ∷ t) = ap length (ap (λ (j : ℕ). drop j s) f ∙ sym r.rest) in
        (e ∙ ap at (w ∙ r.rest ∙ ap (λ (j : ℕ). drop j s) (sym f)), omega arith, omega (arith, length-drop p s))
