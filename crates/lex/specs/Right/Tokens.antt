-- Every list of bytes reads as tokens: bytes outside, whole strings and whole comments, up to its end or to a string or a comment
-- that never ends. Assumes nothing.
use Rattle.std.specs.Prelude.{ℕ, zero, suc, ◌≤◌, ◌<◌, ◌≡◌, refl, ◌⊎◌, List, [], ◌∷◌, ◌++◌, length}
use Rattle.std.proofs.Common.{ap, inl, inr, arith, length-append}
use Rattle.std.proofs.Math.Decide.{ℕ_discrete}
use Rattle.common.specs.Compare.{clash}
use Rattle.lex.specs.Search.{Look, halt}
use Rattle.common.specs.Walk.{walk}
use Rattle.lex.specs.Grammar.{Begins, OpensComment, Remarked, Comment, Inside, Quotation, OpenText, OpenRemark}
use Rattle.lex.specs.Right.Steps.{Pair, Starless, pair_swap, text_shut, text_open}

-- whether the list begins with this byte
begins : (a : ℕ) (xs : List ℕ) → Dec (Begins a xs)
begins a [] = no (λ (r, e). clash (cc))
begins a (x ∷ xs) = go (ℕ_discrete x a)
  where
    go : Dec (x ≡ a) → Dec (Begins a (x ∷ xs))
    go (yes p) = yes (xs, cc)
    go (no h) = no (λ (r, e). h (cc))

-- whether the list begins with these two bytes
pair : (a b : ℕ) (xs : List ℕ) → Dec (Pair a b xs)
pair a b [] = no (λ (r, e). clash (cc))
pair a b (x ∷ xs) = go (ℕ_discrete x a) (begins b xs)
  where
    go : Dec (x ≡ a) → Dec (Begins b xs) → Dec (Pair a b (x ∷ xs))
    go (yes p) (yes (r, q)) = yes (r, cc)
    go (yes p) (no h) = no (λ (r, e). h (r, cc))
    go (no h) k = no (λ (r, e). h (cc))

-- a list without `*/`, with one more byte in front at which no `*/` begins, has none
starless_cons : (c : ℕ) (xs : List ℕ) → (Pair 42 47 (c ∷ xs) → ⊥) → Starless xs → Starless (c ∷ xs)
starless_cons c xs h k [] v e = h (v, e)
starless_cons c xs h k (x ∷ u) v e = k u v (cc)

-- an empty list has no `*/`
starless_nil : Starless []
starless_nil [] v e = clash (cc)
starless_nil (x ∷ u) v e = clash (cc)

-- a comment's inside ends at the first `*/`, and rest follows
record Shut (t : List ℕ) : Type 0 where
  body : List ℕ
  rest : List ℕ
  first : Remarked body
  shape : t ≡ body ++ (42 ∷ 47 ∷ rest)

-- a comment ends, or no `*/` follows
remark_ends : (t : List ℕ) → Shut t ⊎ Starless t
remark_ends [] = inr starless_nil
remark_ends (c ∷ t) = go (pair 42 47 (c ∷ t)) (remark_ends t)
  where
    go : Dec (Pair 42 47 (c ∷ t)) → Shut t ⊎ Starless t → Shut (c ∷ t) ⊎ Starless (c ∷ t)
    go (yes (r, e)) k = inl (record { body = []; rest = r; first = starless_cons 42 [] (λ (v, g). clash (cc)) starless_nil; shape = e })
    go (no h) (inl s) = inl (record {
      body = c ∷ s.body;
      rest = s.rest;
      shape = cc;
      first = starless_cons c (s.body ++ (42 ∷ [])) (λ p. h (rw s.shape (pair_swap c s.body [] (47 ∷ s.rest) p))) s.first;
    })
    go (no h) (inr k) = inr (starless_cons c t h k)

-- a string's inside ends at a quote, and rest follows, which begins with none
record Closed (t : List ℕ) : Type 0 where
  body : List ℕ
  rest : List ℕ
  inside : Inside body
  shape : t ≡ body ++ (39 ∷ rest)
  single : Begins 39 rest → ⊥

-- one more byte in front that is no quote: a string's inside ends as before, or never
inside_cons : (c : ℕ) (t : List ℕ) → (c ≡ 39 → ⊥) → Closed t ⊎ Inside t → Closed (c ∷ t) ⊎ Inside (c ∷ t)
inside_cons c t h (inl s) = inl (record { body = c ∷ s.body; rest = s.rest; inside = Inside.other h s.inside; shape = cc; single = s.single })
inside_cons c t h (inr i) = inr (Inside.other h i)

-- one more pair of quotes in front: a string's inside ends as before, or never
inside_pair : (t : List ℕ) → Closed t ⊎ Inside t → Closed (39 ∷ 39 ∷ t) ⊎ Inside (39 ∷ 39 ∷ t)
inside_pair t (inl s) = inl (record { body = 39 ∷ 39 ∷ s.body; rest = s.rest; inside = Inside.doubled s.inside; shape = cc; single = s.single })
inside_pair t (inr i) = inr (Inside.doubled i)

-- a single quote ends a string's inside
inside_ends : (t : List ℕ) → (Begins 39 t → ⊥) → Closed (39 ∷ t) ⊎ Inside (39 ∷ t)
inside_ends t h = inl (record { body = []; rest = t; inside = Inside.none; shape = refl; single = h })

-- a string ends, or all that follows is its inside
text_ends : (t : List ℕ) → Closed t ⊎ Inside t
text_ends [] = inr Inside.none
text_ends (c ∷ []) = go (ℕ_discrete c 39)
  where
    go : Dec (c ≡ 39) → Closed (c ∷ []) ⊎ Inside (c ∷ [])
    go (yes p) = rw p (inside_ends [] (λ (r, e). clash (cc)))
    go (no h) = inside_cons c [] h (inr Inside.none)
text_ends (c ∷ e ∷ t) = go (ℕ_discrete c 39) (ℕ_discrete e 39) (text_ends (e ∷ t)) (text_ends t)
  where
    go : Dec (c ≡ 39) → Dec (e ≡ 39) → Closed (e ∷ t) ⊎ Inside (e ∷ t) → Closed t ⊎ Inside t → Closed (c ∷ e ∷ t) ⊎ Inside (c ∷ e ∷ t)
    go (yes p) (yes q) j k = rw (p, q) (inside_pair t k)
    go (yes p) (no h) j k = rw p (inside_ends (e ∷ t) (λ (r, g). h (cc)))
    go (no h) q j k = inside_cons c (e ∷ t) h j

-- a search that halts at the first byte outside strings and comments
abbrev first_outside : ℕ → ℕ → Look
first_outside d c = halt

-- bytes that are all a string's inside hold no end of that string: else the search `first_outside` would answer twice
pub string_unended : {t : List ℕ} → Inside t → (r : List ℕ) → Quotation (39 ∷ t) r → ⊥
unfolding walk
string_unended i [] q = clash (cc (text_open first_outside 5 [] 0 [] i, text_shut first_outside 5 [] 0 [] [] [] q.inside q.single))
string_unended i (c ∷ r) q = clash (cc (text_open first_outside 5 [] 0 [] i, text_shut first_outside 5 [] 0 [] [] (c ∷ r) q.inside q.single))

-- a string has one end
pub one_end : (t r z : List ℕ) → Quotation (39 ∷ t) r → Quotation (39 ∷ t) z → r ≡ z
unfolding walk
one_end t [] [] p q = refl
one_end t [] (c ∷ z) p q = clash (cc (text_shut first_outside 5 [] 0 [] [] [] p.inside p.single, text_shut first_outside 5 [] 0 [] [] (c ∷ z) q.inside q.single))
one_end t (c ∷ r) [] p q = clash (cc (text_shut first_outside 5 [] 0 [] [] (c ∷ r) p.inside p.single, text_shut first_outside 5 [] 0 [] [] [] q.inside q.single))
one_end t (c ∷ r) (e ∷ z) p q = cc (text_shut first_outside 5 [] 0 [] [] (c ∷ r) p.inside p.single, text_shut first_outside 5 [] 0 [] [] (e ∷ z) q.inside q.single)

-- a string that opens and never ends: all that follows its quote is its inside
pub open_text : {xs : List ℕ} → OpenText xs → (t : List ℕ) × (xs ≡ 39 ∷ t) × Inside t
open_text {xs} ((t, e), h) = go (text_ends t)
  where
    go : Closed t ⊎ Inside t → (t : List ℕ) × (xs ≡ 39 ∷ t) × Inside t
    go (inl s) = absurd (h s.rest (record { body = s.body; inside = s.inside; shape = cc; single = s.single }))
    go (inr i) = (t, e, i)

-- a comment that opens and never ends: no `*/` follows
pub open_remark : {xs : List ℕ} → OpenRemark xs → (t : List ℕ) × (xs ≡ 47 ∷ 42 ∷ t) × Starless t
open_remark {xs} ((t, e), h) = go (remark_ends t)
  where
    go : Shut t ⊎ Starless t → (t : List ℕ) × (xs ≡ 47 ∷ 42 ∷ t) × Starless t
    go (inl s) = absurd (h s.rest (record { body = s.body; first = s.first; shape = cc }))
    go (inr k) = (t, e, k)

-- a list of bytes read as tokens
pub data ReadsAsTokens : List ℕ → Type 0 where
  end : ReadsAsTokens []
  byte : {c : ℕ} {t : List ℕ} → (c ≡ 39 → ⊥) → (OpensComment (c ∷ t) → ⊥) → ReadsAsTokens t → ReadsAsTokens (c ∷ t)
  string : {xs zs : List ℕ} → Quotation xs zs → ReadsAsTokens zs → ReadsAsTokens xs
  comment : {xs zs : List ℕ} → Comment xs zs → ReadsAsTokens zs → ReadsAsTokens xs
  text : {xs : List ℕ} → OpenText xs → ReadsAsTokens xs
  remark : {xs : List ℕ} → OpenRemark xs → ReadsAsTokens xs

-- what follows a string is shorter than what begins with it
pub quotation_shorter : {xs r : List ℕ} → Quotation xs r → length r < length xs
quotation_shorter q = omega (arith, simp length-append at (ap length q.shape))

-- what follows a comment is shorter than what begins with it
pub comment_shorter : {xs r : List ℕ} → Comment xs r → length r < length xs
comment_shorter q = omega (arith, simp length-append at (ap length q.shape))

-- every list of at most n bytes reads as tokens
tokens_to : (n : ℕ) (xs : List ℕ) → length xs ≤ n → ReadsAsTokens xs
tokens_to zero [] h = ReadsAsTokens.end
tokens_to zero (c ∷ t) h = absurd (omega arith)
tokens_to (suc n) [] h = ReadsAsTokens.end
tokens_to (suc n) (c ∷ t) h = go (ℕ_discrete c 39) (pair 47 42 (c ∷ t)) (λ r k. tokens_to n r (omega arith))
  where
    texts : c ≡ 39 → Closed t ⊎ Inside t → ((r : List ℕ) → length r < length (c ∷ t) → ReadsAsTokens r) → ReadsAsTokens (c ∷ t)
    texts p (inl s) ih =
        let q : Quotation (c ∷ t) s.rest = record { body = s.body; inside = s.inside; shape = cc; single = s.single } in
        ReadsAsTokens.string q (ih s.rest (quotation_shorter q))
    texts p (inr i) ih = ReadsAsTokens.text {xs = c ∷ t} ((t, cc), rw p (string_unended i))

    remarks : (r : List ℕ) → c ∷ t ≡ 47 ∷ 42 ∷ r → Shut r ⊎ Starless r → ((r : List ℕ) → length r < length (c ∷ t) → ReadsAsTokens r) → ReadsAsTokens (c ∷ t)
    remarks r e (inl s) ih =
        let q : Comment (c ∷ t) s.rest = record { body = s.body; first = s.first; shape = cc } in
        ReadsAsTokens.comment q (ih s.rest (comment_shorter q))
    remarks r e (inr k) ih = ReadsAsTokens.remark ((r, e), λ v q. k q.body v (cc))

    go : Dec (c ≡ 39) → Dec (OpensComment (c ∷ t)) → ((r : List ℕ) → length r < length (c ∷ t) → ReadsAsTokens r) → ReadsAsTokens (c ∷ t)
    go (yes p) q ih = texts p (text_ends t) ih
    go (no k) (yes (r, e)) ih = remarks r e (remark_ends r) ih
    go (no k) (no l) ih = ReadsAsTokens.byte k l (ih t (omega arith))

-- every list of bytes reads as tokens
pub tokens : (xs : List ℕ) → ReadsAsTokens xs
tokens xs = tokens_to (length xs) xs (omega arith)
