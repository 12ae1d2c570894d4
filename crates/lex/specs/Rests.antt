-- Rests of a list of bytes: what follows trivia, a comment or a string is one, and a place, which is the number of bytes before a rest, points at
-- that rest. Assumes nothing.
use Rattle.std.specs.Prelude.{ℕ, ◌-◌, ◌≤◌, ◌≡◌, refl, List, [], ◌∷◌, ◌++◌, length, drop}
use Rattle.std.proofs.Common.{sym, ◌∙◌, ap, append_assoc, arith, length-append, drop_at}
use Rattle.lex.specs.Byte.{place}
use Rattle.lex.specs.Grammar.{Comment, Quotation, Trivia}

-- r is a rest of xs: some bytes, and then r
abbrev pub Rest : List ℕ → List ℕ → Type 0
Rest xs r = (b : List ℕ) × (xs ≡ b ++ r)

-- the whole of a list is a rest of it
pub rest_all : {xs : List ℕ} → Rest xs xs
rest_all = ([], refl)

-- a rest of a list is a rest of that list with one more byte in front
pub rest_on : {c : ℕ} {xs r : List ℕ} → Rest xs r → Rest (c ∷ xs) r
rest_on {c} (b, e) = (c ∷ b, cc)

-- a rest of a rest is a rest of the whole
pub rest_of : {xs ys r : List ℕ} → Rest xs ys → Rest ys r → Rest xs r
rest_of {r} (b, e) (c, f) = (b ++ c, e ∙ ap (λ (l : List ℕ). b ++ l) f ∙ sym (append_assoc b c r))

-- a rest is no longer than the list
pub rest_within : {xs r : List ℕ} → Rest xs r → length r ≤ length xs
rest_within (b, e) = omega (arith, simp length-append at (ap length e))

-- a place points at the rest that it was given for
pub rest_place : {xs r : List ℕ} → Rest xs r → drop (place xs r) xs ≡ r
rest_place {r} (b, e) = rw e (drop_at b r (length (b ++ r) - length r) (simp length-append (omega arith)))

-- what follows a comment is a rest
pub comment_rest_lem : {xs r : List ℕ} → Comment xs r → Rest xs r
comment_rest_lem {r} q = (47 ∷ 42 ∷ (q.body ++ (42 ∷ 47 ∷ [])), q.shape ∙ ap (λ (l : List ℕ). 47 ∷ 42 ∷ l) (sym (append_assoc q.body (42 ∷ 47 ∷ []) r)))

-- what follows a string is a rest
pub string_rest_lem : {xs r : List ℕ} → Quotation xs r → Rest xs r
string_rest_lem {r} q = (39 ∷ (q.body ++ (39 ∷ [])), q.shape ∙ ap (λ (l : List ℕ). 39 ∷ l) (sym (append_assoc q.body (39 ∷ []) r)))

-- what follows trivia is a rest
pub trivia_rest : {xs ys : List ℕ} → Trivia xs ys → Rest xs ys
trivia_rest Trivia.none = rest_all
trivia_rest (Trivia.blank h r) = rest_on (trivia_rest r)
trivia_rest (Trivia.comment q r) = rest_of (comment_rest_lem q) (trivia_rest r)
