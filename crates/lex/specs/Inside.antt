-- The closing `)` has to do with the text up to it alone: it is found there whatever follows.
-- Assumes nothing.
use Rattle.std.specs.Prelude.{ℕ, ◌≡◌, List, [], ◌∷◌, ◌++◌}
use Rattle.std.proofs.Common.{sym, ◌∙◌, append_assoc, append-nil}
use Rattle.std.proofs.lemmas.List.{append_cancel_right}
use Rattle.lex.specs.Grammar.{Closes}
use Rattle.lex.specs.Search.{closing}
use Rattle.lex.specs.Answer.{at}
use Rattle.lex.specs.Local.{closing_local}
use Rattle.lex.specs.Right.{closing_only, closing_is}

-- a `)` that is found in t when z follows t is found there whatever else follows t
pub closing_inside : (c : ℕ) (t v z : List ℕ) → closing (c ∷ (t ++ z)) ≡ at (41 ∷ (v ++ z))
    → (y : List ℕ) → closing (c ∷ (t ++ y)) ≡ at (41 ∷ (v ++ y))
closing_inside c t v z h y =
    let (a, e, l) = closing_local c (t ++ z) (v ++ z) h in
    let k : t ≡ a ++ (41 ∷ v) = append_cancel_right t (a ++ (41 ∷ v)) z (e ∙ sym (append_assoc a (41 ∷ v) z)) in
    rw (k, append_assoc a (41 ∷ v) y) (l (v ++ y))

-- "closes before that record's `;`" is that the `(` closes in the record's own text t: z is the `;` and what follows
pub closes_own : (t v z : List ℕ) → closing (40 ∷ (t ++ z)) ≡ at (41 ∷ (v ++ z)) → Closes t v
closes_own t v z h =
    let e : closing (40 ∷ t) ≡ at (41 ∷ v) = simp append-nil at (closing_inside 40 t v z h []) in
    let (r, g, k) = closing_is 40 t (41 ∷ v) e in
    let f : r ≡ v = cc in
    rw f at k

-- a `(` that closes in a record's text has its `)` found there, whatever follows the text
pub closes_any : {t v : List ℕ} → Closes t v → (y : List ℕ) → closing (40 ∷ (t ++ y)) ≡ at (41 ∷ (v ++ y))
closes_any {t} {v} h = closing_inside 40 t v [] (simp append-nil (closing_only 40 h))
