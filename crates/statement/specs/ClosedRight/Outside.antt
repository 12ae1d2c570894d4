-- What it means that a place of a record's text lies outside strings and comments: a `;` there would end the record. And it then lies
-- outside in the file. Assumes nothing.
use Rattle.std.specs.Prelude.{ℕ, ◌≤◌, ◌<◌, ◌≡◌, refl, List, [], ◌∷◌, ◌++◌, length, take}
use Rattle.std.proofs.Common.{◌∙◌, ap, append_assoc, arith, length-append, take_at}
use Rattle.std.proofs.lemmas.List.{append_cancel_right}
use Rattle.std.proofs.lemmas.Bool.{eqb-false}
use Rattle.lex.specs.Grammar.{Begins, OpensComment, Comment, Quotation, RecordRuns}
use Rattle.lex.specs.Search.{record_end}
use Rattle.lex.specs.Answer.{at}
use Rattle.lex.specs.Right.{end_only, end_is}
use Rattle.statement.specs.Closed.{OutsideBoth, ClosedAt}

-- what is left of a list after bytes outside strings and comments is no longer than the list
pub runs_longer : {xs ys : List ℕ} → RecordRuns xs ys → length ys ≤ length xs
runs_longer RecordRuns.none = omega arith
runs_longer (RecordRuns.byte h k l r) = omega (arith, runs_longer r)
runs_longer (RecordRuns.string q r) = omega (arith, runs_longer r, simp length-append at (ap length q.shape))
runs_longer (RecordRuns.comment q r) = omega (arith, runs_longer r, simp length-append at (ap length q.shape))

-- More bytes z behind a list change no string and no comment that ends before the list does.
module _ (z : List ℕ) where
  begins_more : (a : ℕ) (xs : List ℕ) → 0 < length xs → Begins a (xs ++ z) → Begins a xs
  begins_more a [] h b = absurd (omega arith)
  begins_more a (c ∷ xs) h (r, e) = (xs, cc)

  -- where a byte follows c in the list, a comment that opens at c with more bytes behind the list opens there without them
  pub opens_more : (c : ℕ) (xs : List ℕ) → 0 < length xs → OpensComment (c ∷ (xs ++ z)) → OpensComment (c ∷ xs)
  opens_more c [] h b = absurd (omega arith)
  opens_more c (d ∷ xs) h (r, e) = (xs, cc)

  -- a string that ends before the list does is one with more bytes behind the list too
  pub quotation_more : {xs zs : List ℕ} → Quotation xs zs → 0 < length zs → Quotation (xs ++ z) (zs ++ z)
  quotation_more {zs} q h = record {
    body = q.body;
    inside = q.inside;
    shape = cc (append_assoc q.body (39 ∷ zs) z);
    single = λ b. q.single (begins_more 39 zs h b);
  }

  -- a comment that ends in the list is one with more bytes behind the list too
  pub comment_more : {xs zs : List ℕ} → Comment xs zs → Comment (xs ++ z) (zs ++ z)
  comment_more {zs} q = record { body = q.body; first = q.first; shape = cc (append_assoc q.body (42 ∷ 47 ∷ zs) z) }

  -- what lies outside strings and comments in a record's text lies outside them in the file
  pub outside_more : {xs : List ℕ} {c : ℕ} {r : List ℕ} → OutsideBoth xs (c ∷ r) → OutsideBoth (xs ++ z) (c ∷ (r ++ z))
  outside_more RecordRuns.none = RecordRuns.none
  outside_more (RecordRuns.byte {c} {xs} h k l r) = RecordRuns.byte h k (λ o. l (opens_more c xs (omega (arith, runs_longer r)) o)) (outside_more r)
  outside_more (RecordRuns.string q r) = RecordRuns.string (quotation_more q (omega (arith, runs_longer r))) (outside_more r)
  outside_more (RecordRuns.comment q r) = RecordRuns.comment (comment_more q) (outside_more r)

-- a place outside strings and comments is one whatever byte stands there, but for a quote or a `*`, and whatever follows it
runs_swap : {xs ys : List ℕ} → RecordRuns xs ys
    → (f : List ℕ) × (xs ≡ f ++ ys) × ((d : ℕ) (y : List ℕ) → (d ≡ 39 → ⊥) → (d ≡ 42 → ⊥) → RecordRuns (f ++ (d ∷ y)) (d ∷ y))
runs_swap RecordRuns.none = ([], refl, λ d y m n. RecordRuns.none)
runs_swap {ys} (RecordRuns.byte {c} {xs} h k l r) =
    let (f, e, g) = runs_swap r in
    (c ∷ f, cc, λ d y m n. RecordRuns.byte h k (λ o. l (opens f xs e d y n o)) (g d y m n))
  where
    opens : (f xs : List ℕ) → xs ≡ f ++ ys → (d : ℕ) (y : List ℕ) → (d ≡ 42 → ⊥) → OpensComment (c ∷ (f ++ (d ∷ y))) → OpensComment (c ∷ xs)
    opens [] xs e d y n (u, o) = absurd (n (cc))
    opens (a ∷ f) xs e d y n (u, o) = (f ++ ys, cc)
runs_swap {ys} (RecordRuns.string {zs} q r) =
    let (f, e, g) = runs_swap r in
    (39 ∷ (q.body ++ (39 ∷ f)), cc (append_assoc q.body (39 ∷ f) ys), λ d y m n. RecordRuns.string (quoted f e d y m) (g d y m n))
  where
    begins : (f : List ℕ) → zs ≡ f ++ ys → (d : ℕ) (y : List ℕ) → (d ≡ 39 → ⊥) → Begins 39 (f ++ (d ∷ y)) → Begins 39 zs
    begins [] e d y m (u, o) = absurd (m (cc))
    begins (a ∷ f) e d y m (u, o) = (f ++ ys, cc)

    quoted : (f : List ℕ) → zs ≡ f ++ ys → (d : ℕ) (y : List ℕ) → (d ≡ 39 → ⊥) → Quotation ((39 ∷ (q.body ++ (39 ∷ f))) ++ (d ∷ y)) (f ++ (d ∷ y))
    quoted f e d y m = record {
      body = q.body;
      inside = q.inside;
      shape = cc (append_assoc q.body (39 ∷ f) (d ∷ y));
      single = λ o. q.single (begins f e d y m o);
    }
runs_swap {ys} (RecordRuns.comment q r) =
    let (f, e, g) = runs_swap r in
    (47 ∷ 42 ∷ (q.body ++ (42 ∷ 47 ∷ f)), cc (append_assoc q.body (42 ∷ 47 ∷ f) ys), λ d y m n. RecordRuns.comment (remark f (d ∷ y)) (g d y m n))
  where
    remark : (f y : List ℕ) → Comment ((47 ∷ 42 ∷ (q.body ++ (42 ∷ 47 ∷ f))) ++ y) (f ++ y)
    remark f y = record { body = q.body; first = q.first; shape = cc (append_assoc q.body (42 ∷ 47 ∷ f) y) }

-- a place outside strings and comments is one where a `;` would end the record
pub outside_seen : (f t : List ℕ) → OutsideBoth (f ++ t) t → (y : List ℕ) → record_end (f ++ (59 ∷ y)) ≡ at (59 ∷ y)
outside_seen f t h y =
    let (g, e, k) = runs_swap h in
    let p : f ≡ g = append_cancel_right f g t e in
    rw p (end_only (k 59 y (eqb-false 59 39 refl) (eqb-false 59 42 refl)))

-- a `(` that stands where a `;` would end the record lies outside strings and comments
pub outside_of : (f t y : List ℕ) → record_end (f ++ (59 ∷ y)) ≡ at (59 ∷ y) → OutsideBoth (f ++ (40 ∷ t)) (40 ∷ t)
outside_of f t y h =
    let (r, e, k) = end_is (f ++ (59 ∷ y)) (59 ∷ y) h in
    let (g, p, l) = runs_swap k in
    let q : f ≡ g = append_cancel_right f g (59 ∷ y) (cc) in
    rw q (l 40 t (eqb-false 40 39 refl) (eqb-false 40 42 refl))

-- where a closed record's `(` stands, a `;` would end the record
pub closed_seen : {b : List ℕ} {o : ℕ} → ClosedAt b o → (y : List ℕ) → record_end (take o b ++ (59 ∷ y)) ≡ at (59 ∷ y)
closed_seen {b} {o} c y =
    let t : List ℕ = 40 ∷ (c.args ++ (41 ∷ c.back)) in
    let e : take o b ≡ c.front = ap (take o) c.shape ∙ take_at c.front t o c.place in
    rw e (outside_seen c.front t (rw c.shape at c.outside) y)
