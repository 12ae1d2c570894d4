-- Document 01, 'What each answer owes': the carrying reader's contracts allow one answer and one reader after it. That what an answer tells
-- fixes the answer is shown where the answers are (`params` and `scalars`: `specs/Only`).
-- Assumes nothing.
use Rattle.std.specs.Prelude.{ℕ, ◌≡◌, List}
use Rattle.std.proofs.Common.{sym, ◌∙◌, ap}
use Rattle.std.specs.Borrow.{Bor}
use Rattle.error.specs.Only.{result_only}
use Rattle.error.specs.Refusal.{told_result}
use Rattle.params.specs.Answer.{Read}
use Rattle.args.specs.declared.Args.{Args}
use Rattle.args.specs.declared.Opening.{Opening}
use Rattle.args.specs.CarryingReader.{standing, opened_at, OpensReader, Forwards}

-- two answers that forwarding allows are the same, and so is the reader after them
pub forwards_only : {A : Type 0} (f : List ℕ → ℕ → ℕ → Read A) (w z y : Args) (a b : Read A) → Forwards f w z a → Forwards f w y b → (a ≡ b) × (z ≡ y)
forwards_only f w z y a b g h =
    let e : a ≡ b = g.0 ∙ sym h.0 in
    (e, g.1 ∙ ap (standing w) e ∙ sym h.1)

-- two openings of a reader that are allowed are the same, and so is the reader, after a refusal too
pub opens_only : (file : Bor (List ℕ)) (p e : ℕ) (r q : Opening) → OpensReader file p e r → OpensReader file p e q → r ≡ q
opens_only file p e r q g h =
    let same : told_result r.opened ≡ told_result q.opened = g.0 ∙ sym h.0 in
    let answer = result_only r.opened q.opened same in
    let reader : r.args ≡ q.args = g.1 ∙ (λ i. record { file = file; at = opened_at (same i) }) ∙ sym h.1 in
    λ i. record { opened = answer i; args = reader i }
