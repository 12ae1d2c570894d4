-- Blocks of 64 bytes that are passed one after another: what they keep, and that where a step has one answer `pass_blocks` has one too.
-- Assumes nothing.
use Rattle.std.specs.Prelude.{ℕ, ◌+◌, ◌*◌, ◌≤◌, ◌<◌, ◌≡◌, refl, ◌⊎◌, Option, Some, None}
use Rattle.std.proofs.Common.{inl, inr, arith}
use Rattle.common.specs.Compare.{clash, less_or}
use Rattle.lex.specs.Blocks.{BlocksPassed}

-- what each block that P allows keeps, all blocks keep
pub blocks_keep : {A : Type 0} {P : ℕ → A → A → Type 0} (Q : ℕ → A → ℕ → A → Type 0) → ((i : ℕ) (s : A) → Q i s i s)
    → ((i r : ℕ) (s t u : A) → Q i s r t → P r t u → Q i s (r + 64) u) → {i : ℕ} {s : A} {r : ℕ} {t : A} → BlocksPassed P i s r t → Q i s r t
blocks_keep Q z m BlocksPassed.none = z _ _
blocks_keep Q z m (BlocksPassed.more b p) = m _ _ _ _ _ (blocks_keep Q z m b) p

-- whole blocks are passed
blocks_many : {A : Type 0} {P : ℕ → A → A → Type 0} {i : ℕ} {s : A} {r : ℕ} {t : A} → BlocksPassed P i s r t → (k : ℕ) × (r ≡ i + 64 * k)
blocks_many BlocksPassed.none = (0, omega arith)
blocks_many (BlocksPassed.more b p) = let (k, e) = blocks_many b in (k + 1, omega arith)

-- where each block leaves one state, all up to a place leave one
one_state : {A : Type 0} {P : ℕ → A → A → Type 0} → ((i : ℕ) (s t u : A) → P i s t → P i s u → t ≡ u)
    → {i : ℕ} {s : A} {r q : ℕ} {t u : A} → BlocksPassed P i s r t → BlocksPassed P i s q u → r ≡ q → t ≡ u
one_state f BlocksPassed.none BlocksPassed.none e = refl
one_state f BlocksPassed.none (BlocksPassed.more c p) e = let (k, h) = blocks_many c in absurd (omega arith)
one_state f (BlocksPassed.more b p) BlocksPassed.none e = let (k, h) = blocks_many b in absurd (omega arith)
one_state {P = P} f (BlocksPassed.more {r} {t} {u} b p) (BlocksPassed.more {r = q} {t = v} {u = w} c o) e =
    let x : r ≡ q = omega arith in
    let y : t ≡ v = one_state f b c x in
    let z : P r t w = rw (x, y) o in
    f r t u w p z

-- where blocks are passed up to r, and up to q and one more, P allows the block at r
at_less : {A : Type 0} {P : ℕ → A → A → Type 0} → ((i : ℕ) (s t u : A) → P i s t → P i s u → t ≡ u) → {i : ℕ} {s : A} (r q : ℕ) (t v w : A)
    → BlocksPassed P i s r t → BlocksPassed P i s q v → P q v w → r < q + 64 → (r < q → (u : A) × P r t u) → (u : A) × P r t u
at_less {A} {P} f r q t v w b c o l h = go (less_or r q)
  where
    go : (r < q) ⊎ (q ≤ r) → (u : A) × P r t u
    go (inl k) = h k
    go (inr k) = let (m, d) = blocks_many b in
        let (n, e) = blocks_many c in
        let x : r ≡ q = omega arith in
        let y : t ≡ v = one_state f b c x in
        (w, rw (x, y) o)

-- at a place that blocks were passed beyond, P allows a block
passed_beyond : {A : Type 0} {P : ℕ → A → A → Type 0} → ((i : ℕ) (s t u : A) → P i s t → P i s u → t ≡ u)
    → {i : ℕ} {s : A} {r q : ℕ} {t u : A} → BlocksPassed P i s r t → BlocksPassed P i s q u → r < q → (v : A) × P r t v
passed_beyond f b BlocksPassed.none l = let (k, e) = blocks_many b in absurd (omega arith)
passed_beyond f b (BlocksPassed.more c o) l = at_less f _ _ _ _ _ b c o l (λ k. passed_beyond f b c k)

-- `pass_blocks` has one answer where its step has: two places and states that its contract allows are one. Q says what the step answers, of n bytes
pub blocks_only : {A : Type 0} {n : ℕ} {Q : ℕ → A → Option A → Type 0} → ((i : ℕ) (s : A) (x y : Option A) → Q i s x → Q i s y → x ≡ y)
    → {i : ℕ} {s : A} (p q : ℕ) (t u : A)
    → BlocksPassed (λ i t u. (i + 64 ≤ n) × Q i t (Some u)) i s p t → (p + 64 ≤ n → Q p t None)
    → BlocksPassed (λ i t u. (i + 64 ≤ n) × Q i t (Some u)) i s q u → (q + 64 ≤ n → Q q u None) → (p ≡ q) × (t ≡ u)
blocks_only {A} {n} {Q} f {i} {s} p q t u b j c k = go (less_or p q) (less_or q p)
  where
    one : (i : ℕ) (s t u : A) → (i + 64 ≤ n) × Q i s (Some t) → (i + 64 ≤ n) × Q i s (Some u) → t ≡ u
    one i s t u (_, x) (_, y) = let e = f i s (Some t) (Some u) x y in cc

    never : (p q : ℕ) (t u : A) → BlocksPassed (λ i t u. (i + 64 ≤ n) × Q i t (Some u)) i s p t → (p + 64 ≤ n → Q p t None)
        → BlocksPassed (λ i t u. (i + 64 ≤ n) × Q i t (Some u)) i s q u → p < q → ⊥
    never p q t u b j c l = let (v, (h, o)) = passed_beyond one b c l in let e = f p t None (Some v) (j h) o in clash cc

    go : (p < q) ⊎ (q ≤ p) → (q < p) ⊎ (p ≤ q) → (p ≡ q) × (t ≡ u)
    go (inl l) _ = absurd (never p q t u b j c l)
    go (inr h) (inl l) = absurd (never q p u t c k b l)
    go (inr h) (inr l) = let e : p ≡ q = omega arith in (e, one_state one b c e)
