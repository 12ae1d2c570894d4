-- Where a comment ends, by the places of its bytes: the laws of the loop that seeks a comment's end. What a comment is stands in Grammar.antt
-- (`Comment`, `OpenRemark`), and what the code's answer says, in the grammar's words, in Answer.antt (`CommentEnds`). Assumes nothing.
use Rattle.std.specs.Prelude.{ℕ, ◌+◌, ◌-◌, ◌≤◌, ◌<◌, min, ◌≡◌, refl, List, [], ◌∷◌, ◌++◌, length, take, drop, get_or}
use Rattle.std.proofs.Common.{sym, ◌∙◌, ap, arith, length-drop, length-append, length-take-le, take-append-drop, drop-drop}
use Rattle.std.proofs.Math.Decide.{dec_lt}
use Rattle.std.proofs.lemmas.List.{get_or-append-add, get_or_append_left, get_or_at, get_or-take, get_or-drop}
use Rattle.common.specs.Lists.{split}
use Rattle.lex.specs.Answer.{Lacks, Stopped}
use Rattle.lex.specs.Grammar.{Remarked, Comment, OpenRemark}

-- no `*/` begins from i on and before j
pub record Unshut (s : List ℕ) (i j : ℕ) : Type 0 where
  pub none : (k : ℕ) → i ≤ k → k < j → k + 1 < length s → get_or s k 0 ≡ 42 → get_or s (k + 1) 0 ≡ 47 → ⊥

-- where there are no bytes, no `*/` begins
pub unshut_start : (s : List ℕ) (i j : ℕ) → j ≤ i → Unshut s i j
unshut_start s i j h = record { none = λ k a b c d e. absurd (omega arith) }

-- no `*/` begins up to the next star
pub unshut_on : (s : List ℕ) (i j r : ℕ) → j ≤ length s → Unshut s i j → Stopped 42 s (min j (length s)) (length s) r → Unshut s i r
unfolding Lacks
unshut_on s i j r h u t = record { none = λ k a b c d e. go k a b c d e (dec_lt k j) }
  where
    go : (k : ℕ) → i ≤ k → k < r → k + 1 < length s → get_or s k 0 ≡ 42 → get_or s (k + 1) 0 ≡ 47 → Dec (k < j) → ⊥
    go k a b c d e (yes l) = u.none k a l c d e
    go k a b c d e (no l) = t.lacks k (omega arith) b d

-- no `*/` begins at a star that no slash follows
pub unshut_next : (s : List ℕ) (i r : ℕ) → Unshut s i r → (r + 1 < length s → get_or s (r + 1) 0 ≡ 47 → ⊥) → Unshut s i (r + 1)
unshut_next s i r u h = record { none = λ k a b c d e. go k a b c d e (dec_lt k r) }
  where
    go : (k : ℕ) → i ≤ k → k < r + 1 → k + 1 < length s → get_or s k 0 ≡ 42 → get_or s (k + 1) 0 ≡ 47 → Dec (k < r) → ⊥
    go k a b c d e (yes l) = u.none k a l c d e
    go k a b c d e (no l) = let q : k ≡ r = omega arith in h (rw (← q) c) (rw (← q) e)

-- the bytes of a `*/` after some bytes, by their places
shut_bytes : (u v : List ℕ) → (get_or (u ++ (42 ∷ 47 ∷ v)) (length u) 0 ≡ 42) × (get_or (u ++ (42 ∷ 47 ∷ v)) (length u + 1) 0 ≡ 47)
shut_bytes u v = (get_or_at u 42 (47 ∷ v) 0 (length u) refl, get_or-append-add u (42 ∷ 47 ∷ v) 1 0)

-- where no `*/` begins up to the end, the comment never ends
pub comment_never : (s : List ℕ) (i r : ℕ) → length s ≤ r → Unshut s i r → OpenRemark (47 ∷ 42 ∷ drop i s)
comment_never s i r h u = ((drop i s, refl), λ z q. go z q)
  where
    go : (z : List ℕ) → Comment (47 ∷ 42 ∷ drop i s) z → ⊥
    go z q =
        let e : drop i s ≡ q.body ++ (42 ∷ 47 ∷ z) = cc q.shape in
        let n : length (drop i s) ≡ length q.body + length (42 ∷ 47 ∷ z) = ap length e ∙ length-append q.body (42 ∷ 47 ∷ z) in
        let (a, b) = shut_bytes q.body z in
        let x : get_or s (i + length q.body) 0 ≡ 42 = sym (get_or-drop i s (length q.body) 0) ∙ ap (λ (l : List ℕ). get_or l (length q.body) 0) e ∙ a in
        let y : get_or s (i + (length q.body + 1)) 0 ≡ 47 = sym (get_or-drop i s (length q.body + 1) 0) ∙ ap (λ (l : List ℕ). get_or l (length q.body + 1) 0) e ∙ b in
        let w : i + (length q.body + 1) ≡ i + length q.body + 1 = omega arith in
        let m : i + length q.body + 1 < length s = omega (arith, length-drop i s) in
        u.none (i + length q.body) (omega arith) (omega arith) m x (rw w at y)

-- where no `*/` begins before a star, no `*/` begins in the bytes up to it, when a `*` follows them
unshut_remarked : (s : List ℕ) (i n : ℕ) → i + n + 1 < length s → Unshut s i (i + n) → Remarked (take n (drop i s))
unshut_remarked s i n h o u v e =
    let t : List ℕ = take n (drop i s) in
    let l : length t ≡ n = length-take-le n (drop i s) (omega (arith, length-drop i s)) in
    let m : length (t ++ (42 ∷ [])) ≡ length u + length (42 ∷ 47 ∷ v) = ap length e ∙ length-append u (42 ∷ 47 ∷ v) in
    let k : length (t ++ (42 ∷ [])) ≡ n + 1 = length-append t (42 ∷ []) ∙ ap (λ (x : ℕ). x + 1) l in
    let (a, b) = shut_bytes u v in
    let x : get_or (t ++ (42 ∷ [])) (length u) 0 ≡ 42 = ap (λ (y : List ℕ). get_or y (length u) 0) e ∙ a in
    let y : get_or (t ++ (42 ∷ [])) (length u + 1) 0 ≡ 47 = ap (λ (y : List ℕ). get_or y (length u + 1) 0) e ∙ b in
    go l (omega arith) x y (dec_lt (length u + 1) n)
  where
    -- the byte at a place of the part that is read
    read : (j : ℕ) → j < n → length (take n (drop i s)) ≡ n → get_or (take n (drop i s) ++ (42 ∷ [])) j 0 ≡ get_or s (i + j) 0
    read j k l = get_or_append_left (take n (drop i s)) (42 ∷ []) 0 j (omega arith) ∙ get_or-take n (drop i s) j 0 k ∙ get_or-drop i s j 0

    go : length (take n (drop i s)) ≡ n → length u + 1 ≤ n → get_or (take n (drop i s) ++ (42 ∷ [])) (length u) 0 ≡ 42 → get_or (take n (drop i s) ++ (42 ∷ [])) (length u + 1) 0 ≡ 47 → Dec (length u + 1 < n) → ⊥
    go l k x y (yes p) =
        let w : i + (length u + 1) ≡ i + length u + 1 = omega arith in
        let f : get_or s (i + length u) 0 ≡ 42 = sym (read (length u) (omega arith) l) ∙ x in
        let g : get_or s (i + (length u + 1)) 0 ≡ 47 = sym (read (length u + 1) p l) ∙ y in
        o.none (i + length u) (omega arith) (omega arith) (omega arith) f (rw w at g)
    go l k x y (no p) =
        let q : get_or (take n (drop i s) ++ (42 ∷ [])) (length u + 1) 0 ≡ 42 = get_or_at (take n (drop i s)) 42 [] 0 (length u + 1) (omega arith) in
        absurd (omega arith)

-- where no `*/` begins before the star at r, and a slash follows that star, the comment ends behind the slash
pub comment_ended : (s : List ℕ) (i r : ℕ) → i ≤ r → r + 1 < length s → get_or s r 0 ≡ 42 → get_or s (r + 1) 0 ≡ 47 → Unshut s i r → Comment (47 ∷ 42 ∷ drop i s) (drop (r + 2) s)
comment_ended s i r h k a b u =
    let n : ℕ = r - i in
    let e : i + n ≡ r = omega arith in
    let j : r + 1 + 1 ≡ r + 2 = omega arith in
    let x : drop r s ≡ 42 ∷ 47 ∷ drop (r + 2) s = split s r (omega arith) ∙ rw (a, split s (r + 1) k, b, j) refl in
    let g : n + i ≡ r = omega arith in
    let y : drop i s ≡ take n (drop i s) ++ drop r s = sym (take-append-drop n (drop i s)) ∙ ap (λ (l : List ℕ). take n (drop i s) ++ l) (drop-drop n i s ∙ ap (λ (m : ℕ). drop m s) e) in
    record {
      body = take n (drop i s);
      first = unshut_remarked s i n (omega arith) (rw (← e) at u);
      shape = ap (λ (l : List ℕ). 47 ∷ 42 ∷ l) (y ∙ ap (λ (l : List ℕ). take n (drop i s) ++ l) x);
    }
