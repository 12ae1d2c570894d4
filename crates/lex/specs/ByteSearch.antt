-- Leaps: bytes that a search passes without looking at each. A byte is sought; and in a comment a search stays as it is until a `*`.
-- Assumes nothing.
use Rattle.std.specs.Prelude.{ℕ, zero, suc, ◌+◌, ◌-◌, ◌≤◌, ◌<◌, min, ◌≡◌, refl, Bool, true, false, List, ◌⊎◌, ltb, length, drop, get_or}
use Rattle.std.proofs.Common.{sym, ◌∙◌, ap, subst, inl, inr, arith, ne_eqb, ltb-true, ltb-false}
use Rattle.common.specs.Walk.{Turn, on, walk, walk_goes}
use Rattle.lex.specs.Lexer.{calm, next_mode}
use Rattle.lex.specs.Search.{Seen, seen, Look, seek_turn}
use Rattle.lex.specs.Answer.{Sought, Lacks, Stopped}
use Rattle.lex.specs.declared.Mode.{Mode}
use Rattle.lex.specs.declared.Mode.TheVariants.{Remark}

-- r lies from i on and in the bytes, and none between is b
pub record NoneBetween (b : ℕ) (xs : List ℕ) (i r : ℕ) : Type 0 where
  pub on : i ≤ r
  pub inside : r ≤ length xs
  pub lacks : Lacks b xs i r

-- a search in mode m that reads the bytes from i on and before r stays as it is
pub record Leapt (m : Mode) (xs : List ℕ) (i r : ℕ) : Type 0 where
  pub on : i ≤ r
  pub inside : r ≤ length xs
  pub same : (j : ℕ) → i ≤ j → j < r → next_mode m (get_or xs j 0) ≡ m
  pub quiet : (j : ℕ) → i ≤ j → j < r → calm m (get_or xs j 0) ≡ false

-- of two numbers a and b, a is less than b, or b is at most a
less_or : (a b : ℕ) → (a < b) ⊎ (b ≤ a)
less_or a b = go (ltb a b) refl
  where
    go : (t : Bool) → ltb a b ≡ t → (a < b) ⊎ (b ≤ a)
    go true e = inl (ltb-true a b e)
    go false e = inr (ltb-false a b e)

-- where there are no bytes from i on and before r, none of them is b
pub lacks_none : (b : ℕ) (xs : List ℕ) (i r : ℕ) → r ≤ i → Lacks b xs i r
unfolding Lacks
lacks_none b xs i r q j h l e = omega arith

-- bytes that lack b, and bytes after them that lack b, together lack b
pub lacks_on : (b : ℕ) (xs : List ℕ) (i k r : ℕ) → Lacks b xs i k → Lacks b xs k r → Lacks b xs i r
unfolding Lacks
lacks_on b xs i k r f g j h l e = go (less_or j k)
  where
    go : (j < k) ⊎ (k ≤ j) → ⊥
    go (inl m) = f j h m e
    go (inr m) = g j m l e

-- bytes that lack b, and one byte after them that is not b, together lack b
pub lacks_next : (b : ℕ) (xs : List ℕ) (i k : ℕ) → Lacks b xs i k → (get_or xs k 0 ≡ b → ⊥) → Lacks b xs i (k + 1)
unfolding Lacks
lacks_next b xs i k f g = lacks_on b xs i k (k + 1) f (λ j h l e. let q : j ≡ k = omega arith in g (subst (λ (n : ℕ). get_or xs n 0 ≡ b) q e))

-- A walk whose turns leave its state as it is over some bytes.
module _ {S A : Type 0} (t : S → ℕ → List ℕ → Turn S A) (z : S → A) (s : S) (xs : List ℕ) where
  pub walk_stays : (n i : ℕ) → i + n ≤ length xs → ((j : ℕ) → i ≤ j → j < i + n → t s (get_or xs j 0) (drop (j + 1) xs) ≡ on s) → walk t z s (drop i xs) ≡ walk t z s (drop (i + n) xs)
  walk_stays zero i h f = let e : i + 0 ≡ i = omega arith in ap (λ (k : ℕ). walk t z s (drop k xs)) (sym e)
  walk_stays (suc n) i h f =
      let e : i + 1 + n ≡ i + suc n = omega arith in
      walk_goes t z s s xs i (omega arith) (f i (omega arith) (omega arith))
      ∙ walk_stays n (i + 1) (omega arith) (λ j a b. f j (omega arith) (omega arith))
      ∙ ap (λ (k : ℕ). walk t z s (drop k xs)) e

-- a search for what f looks for answers from the end of a leap as from its start
pub seek_leaps : (f : ℕ → ℕ → Look) (z : Seen → Sought) (xs : List ℕ) (m : Mode) (d : ℕ) (o : List ℕ) (i r : ℕ) → Leapt m xs i r → walk (seek_turn f) z (seen m d o) (drop i xs) ≡ walk (seek_turn f) z (seen m d o) (drop r xs)
seek_leaps f z xs m d o i r h =
    let a : i ≤ r = h.on in
    let b : r ≤ length xs = h.inside in
    let e : i + (r - i) ≡ r = omega arith in
    walk_stays (seek_turn f) z (seen m d o) xs (r - i) i (omega arith) (λ j p q. rw (h.quiet j p (omega arith), h.same j p (omega arith)) refl)
    ∙ ap (λ (k : ℕ). walk (seek_turn f) z (seen m d o) (drop k xs)) e

-- in a comment a search leaps to the first `*`
pub leapt_remark : (xs : List ℕ) (i r : ℕ) → i ≤ length xs → Stopped 42 xs (min i (length xs)) (length xs) r → Leapt Remark xs i r
unfolding Lacks
leapt_remark xs i r h s =
    let a : min i (length xs) ≤ r = s.on in
    let b : r ≤ length xs = s.inside in
    record { on = omega arith; inside = b; same = λ j p q. rw (ne_eqb (get_or xs j 0) 42 (s.lacks j (omega arith) q)) refl; quiet = λ j p q. refl }

-- the first place of b before a nearer end, where there is one, is the first before the farther end too
pub stopped_near : (b : ℕ) (xs : List ℕ) (i near end r : ℕ) → Stopped b xs i near r → r < near → near ≤ end → Stopped b xs i end r
stopped_near b xs i near end r s l h =
    let a : r ≤ near = s.inside in
    record { on = s.on; inside = omega arith; lacks = s.lacks; here = λ _. s.here l }

-- where the bytes up to `far` lack b, the first place of b from `far` on is the first of all
pub stopped_far : (b : ℕ) (xs : List ℕ) (i k far end r : ℕ) → i ≤ k → Lacks b xs i k → NoneBetween b xs k far → Stopped b xs far end r → Stopped b xs i end r
stopped_far b xs i k far end r h l w s =
    let p : k ≤ far = w.on in
    let q : far ≤ r = s.on in
    record { on = omega arith; inside = s.inside; lacks = lacks_on b xs i k r l (lacks_on b xs k far r w.lacks s.lacks); here = s.here }

-- two places that `Stopped` allows are one
pub stopped_only : (b : ℕ) (xs : List ℕ) (i end p q : ℕ) → Stopped b xs i end p → Stopped b xs i end q → p ≡ q
unfolding Lacks
stopped_only b xs i end p q s t = go (less_or p q) (less_or q p)
  where
    never : (a c : ℕ) → Stopped b xs i end a → Stopped b xs i end c → a < c → ⊥
    never a c u v l =
        let m : c ≤ end = v.inside in
        v.lacks a u.on l (u.here (omega arith))

    go : (p < q) ⊎ (q ≤ p) → (q < p) ⊎ (p ≤ q) → p ≡ q
    go (inl l) _ = absurd (never p q s t l)
    go (inr h) (inl l) = absurd (never q p t s l)
    go (inr h) (inr k) = omega arith
