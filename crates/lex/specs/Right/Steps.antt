-- What a byte outside, a whole string, a whole comment and one that never ends do to a search, over every search.
-- Assumes nothing.
use Rattle.std.specs.Prelude.{ℕ, ◌≡◌, Bool}
use Rattle.std.proofs.Math.Path.{refl}
use Rattle.std.proofs.Common.{◌∙◌}
use Rattle.std.proofs.Math.Bool.{true, false}
use mathlib.Core.List.{List, [], ◌∷◌, ◌++◌, append-nil}
use Rattle.std.proofs.Math.Dec.{eqb}
use borrow.Author.Tests.{eqb-true, eqb-false, ne_eqb}
use Rattle.common.specs.Walk.{Turn, on, walk}
use Rattle.lex.specs.Lexer.{calm, fresh, next_mode}
use Rattle.lex.specs.Search.{seen, Look, look, seek_turn, missed}
use Rattle.lex.specs.Answer.{Sought, fault}
use Rattle.lex.specs.Grammar.{Begins, OpensComment, Remarked, Comment, Inside, Quotation}
use Rattle.lex.specs.Local.{seek, seek_within, seek_past}
use Rattle.lex.specs.declared.Mode.{Mode}
use Rattle.lex.specs.declared.Mode.TheVariants.{Plain, Slash, Text, Quoted, Remark, Starred}

-- the list begins with these two bytes
abbrev pub Pair : ℕ → ℕ → List ℕ → Type 0
Pair a b xs = (r : List ℕ) × (xs ≡ a ∷ b ∷ r)

-- no `*/` in the list
abbrev pub Starless : List ℕ → Type 0
Starless xs = (u v : List ℕ) → xs ≡ u ++ (42 ∷ 47 ∷ v) → ⊥

-- where the list has no `*/`, what follows its first byte has none
pub starless_tail : (c : ℕ) (xs : List ℕ) → Starless (c ∷ xs) → Starless xs
starless_tail c xs h u v e = h (c ∷ u) v (cc)

-- where a `*/` begins has to do with two bytes alone
pub pair_swap : (c : ℕ) (b x y : List ℕ) → Pair 42 47 (c ∷ (b ++ (42 ∷ x))) → Pair 42 47 (c ∷ (b ++ (42 ∷ y)))
pair_swap c [] x y (r, e) = absurd (eqb-false 42 47 refl (cc))
pair_swap c (a ∷ b) x y (r, e) = (b ++ (42 ∷ y), cc)

-- in strings and comments a search is deaf: only its mode moves, and where the bytes end a star in a comment is no matter.
-- st is its state by the mode
pub record Deaf {S A : Type 0} (t : S → ℕ → List ℕ → Turn S A) (z : S → A) (st : Mode → S) : Type 0 where
  pub quiet : (m : Mode) (c : ℕ) (r : List ℕ) → calm m c ≡ false → t (st m) c r ≡ on (st (next_mode m c))
  pub starred : z (st Starred) ≡ z (st Remark)

module _ {S A : Type 0} (t : S → ℕ → List ℕ → Turn S A) (z : S → A) (st : Mode → S) (deaf : Deaf t z st) where
  -- in a comment, a star that no slash follows leaves a deaf search as it was before the star
  pub unstarred : (xs : List ℕ) → (Begins 47 xs → ⊥) → walk t z (st Starred) xs ≡ walk t z (st Remark) xs
  unfolding walk
  unstarred [] h = deaf.starred
  unstarred (c ∷ r) h = rw (deaf.quiet Starred c r refl, deaf.quiet Remark c r refl, ne_eqb c 47 (λ e. h (r, cc)))

  -- in a comment, a deaf search stays as it is at a byte at which no `*/` begins
  remark_step : (c : ℕ) (xs : List ℕ) → (Pair 42 47 (c ∷ xs) → ⊥) → walk t z (st Remark) (c ∷ xs) ≡ walk t z (st Remark) xs
  unfolding walk
  remark_step c xs h = go (eqb c 42) refl
    where
      go : (k : Bool) → eqb c 42 ≡ k → walk t z (st Remark) (c ∷ xs) ≡ walk t z (st Remark) xs
      go true e = rw (deaf.quiet Remark c xs refl, e) (unstarred xs (λ (r, g). h (r, cc (eqb-true c 42 e))))
      go false e = rw (deaf.quiet Remark c xs refl, e)

  -- a deaf search in a comment is outside again after the comment's first `*/`
  pub remark_shut : (b r : List ℕ) → Remarked b → walk t z (st Remark) (b ++ (42 ∷ 47 ∷ r)) ≡ walk t z (st Plain) r
  unfolding walk
  remark_shut [] r h = rw (deaf.quiet Remark 42 (47 ∷ r) refl, deaf.quiet Starred 47 r refl)
  remark_shut (c ∷ b) r h =
      remark_step c (b ++ (42 ∷ 47 ∷ r)) (λ p. let (v, e) = pair_swap c b (47 ∷ r) [] p in h [] v e)
      ∙ remark_shut b r (starless_tail c (b ++ (42 ∷ [])) h)

  -- a deaf search in a comment that never ends stays in it up to the bytes' end
  pub remark_open : (xs : List ℕ) → Starless xs → walk t z (st Remark) xs ≡ z (st Remark)
  unfolding walk
  remark_open [] h = refl
  remark_open (c ∷ xs) h = remark_step c xs (λ (v, e). h [] v e) ∙ remark_open xs (starless_tail c xs h)

  -- a deaf search in a string stays as it is over the inside of a string
  pub inside_step : (ys : List ℕ) {b : List ℕ} → Inside b → walk t z (st Text) (b ++ ys) ≡ walk t z (st Text) ys
  unfolding walk
  inside_step ys Inside.none = refl
  inside_step ys (Inside.other {c} {b} h i) = rw (deaf.quiet Text c (b ++ ys) refl, ne_eqb c 39 h) (inside_step ys i)
  inside_step ys (Inside.doubled {b} i) = rw (deaf.quiet Text 39 (39 ∷ (b ++ ys)) refl, deaf.quiet Quoted 39 (b ++ ys) refl) (inside_step ys i)

  -- a deaf search in a string has seen the quote that ends it after the string's inside
  pub text_ends : (r : List ℕ) {b : List ℕ} → Inside b → walk t z (st Text) (b ++ (39 ∷ r)) ≡ walk t z (st Quoted) r
  unfolding walk
  text_ends r i = inside_step (39 ∷ r) i ∙ rw (deaf.quiet Text 39 r refl) refl

  -- a deaf search in a string that never ends stays in it up to the bytes' end
  pub text_over : {b : List ℕ} → Inside b → walk t z (st Text) b ≡ z (st Text)
  unfolding walk
  text_over {b} i = rw (append-nil b) at (inside_step [] i)

-- a search passes over strings and comments: neither the quote that opens one nor the slash changes its depth
pub record Passing (f : ℕ → ℕ → Look) : Type 0 where
  pub quote : (d : ℕ) → f d 39 ≡ look d
  pub slash : (d : ℕ) → f d 47 ≡ look d

-- a search outside strings and comments, with d open parentheses; without what it seeks, refusal n at w
abbrev pub plainly : (ℕ → ℕ → Look) → ℕ → List ℕ → ℕ → List ℕ → Sought
plainly f n w d xs = seek f (missed n w) Plain d xs xs

module _ (f : ℕ → ℕ → Look) (n : ℕ) (w : List ℕ) where
  -- outside strings and comments, where the last byte outside stood has no part in the answer
  pub outside_forgotten : (d : ℕ) (o p xs : List ℕ) → seek f (missed n w) Plain d o xs ≡ seek f (missed n w) Plain d p xs
  unfolding walk
  outside_forgotten d o p [] = refl
  outside_forgotten d o p (c ∷ r) = refl

  -- after a slash that no star follows, a search goes on as outside strings and comments
  pub unslashed : (d : ℕ) (o p xs : List ℕ) → (Begins 42 xs → ⊥) → seek f (missed n w) Slash d o xs ≡ seek f (missed n w) Plain d p xs
  unfolding walk
  unslashed d o p [] h = refl
  unslashed d o p (c ∷ r) h = rw (ne_eqb c 42 (λ e. h (r, cc)))

  -- after a quote that ends a string and that no quote follows, a search goes on as outside strings and comments
  pub unquoted : (d : ℕ) (o p xs : List ℕ) → (Begins 39 xs → ⊥) → seek f (missed n w) Quoted d o xs ≡ seek f (missed n w) Plain d p xs
  unfolding walk
  unquoted d o p [] h = refl
  unquoted d o p (c ∷ r) h = rw (ne_eqb c 39 (λ e. h (r, cc)))

  -- in strings and comments a search is deaf
  pub seek_deaf : (d : ℕ) (o : List ℕ) → Deaf (seek_turn f) (missed n w) (λ m. seen m d o)
  seek_deaf d o = record { quiet = λ m c r h. rw h; starred = refl }

  -- a search in a string that ends goes on outside after it
  pub text_shut : (d : ℕ) (o p r : List ℕ) {b : List ℕ} → Inside b → (Begins 39 r → ⊥)
      → seek f (missed n w) Text d o (b ++ (39 ∷ r)) ≡ seek f (missed n w) Plain d p r
  text_shut d o p r i h = text_ends (seek_turn f) (missed n w) (λ m. seen m d o) (seek_deaf d o) r i ∙ unquoted d o p r h

  -- a search in a string that never ends is refused with 4
  pub text_open : (d : ℕ) (o : List ℕ) {b : List ℕ} → Inside b → seek f (missed n w) Text d o b ≡ fault 4 o
  text_open d o i = text_over (seek_turn f) (missed n w) (λ m. seen m d o) (seek_deaf d o) i

  -- a search goes on after a byte that opens no string and no comment, at the depth that the byte leaves
  pub byte_step : (d e c : ℕ) (t : List ℕ) → (c ≡ 39 → ⊥) → (OpensComment (c ∷ t) → ⊥) → f d c ≡ look e
      → plainly f n w d (c ∷ t) ≡ plainly f n w e t
  byte_step d e c t h k l = seek_past f (missed n w) Plain d (c ∷ t) c t e refl l ∙ go (eqb c 47) refl
    where
      go : (b : Bool) → eqb c 47 ≡ b → seek f (missed n w) (fresh c) e (c ∷ t) t ≡ plainly f n w e t
      go true p = rw (ne_eqb c 39 h, p) (unslashed e (c ∷ t) t t (λ (r, g). k (r, cc (eqb-true c 47 p))))
      go false p = rw (ne_eqb c 39 h, p) (outside_forgotten e (c ∷ t) t t)

  module _ (passing : Passing f) (d : ℕ) where
    -- a quote opens a string
    text_start : (t : List ℕ) → plainly f n w d (39 ∷ t) ≡ seek f (missed n w) Text d (39 ∷ t) t
    text_start t = seek_past f (missed n w) Plain d (39 ∷ t) 39 t d refl (passing.quote d)

    -- a slash and a star open a comment
    remark_start : (t : List ℕ) → plainly f n w d (47 ∷ 42 ∷ t) ≡ seek f (missed n w) Remark d (47 ∷ 42 ∷ t) t
    remark_start t = seek_past f (missed n w) Plain d (47 ∷ 42 ∷ t) 47 (42 ∷ t) d refl (passing.slash d)
        ∙ seek_within f (missed n w) Slash d (47 ∷ 42 ∷ t) 42 t refl

    -- a search goes on after a whole string
    pub string_step : {xs zs : List ℕ} → Quotation xs zs → plainly f n w d xs ≡ plainly f n w d zs
    string_step {zs} q = rw q.shape (text_start (q.body ++ (39 ∷ zs)) ∙ text_shut d _ zs zs q.inside q.single)

    -- a search goes on after a whole comment
    pub comment_step : {xs zs : List ℕ} → Comment xs zs → plainly f n w d xs ≡ plainly f n w d zs
    comment_step {zs} q = let xs₀ : List ℕ = 47 ∷ 42 ∷ (q.body ++ (42 ∷ 47 ∷ zs)) in rw q.shape (remark_start (q.body ++ (42 ∷ 47 ∷ zs))
        ∙ remark_shut (seek_turn f) (missed n w) (λ m. seen m d xs₀) (seek_deaf d xs₀) q.body zs q.first ∙ outside_forgotten d _ zs zs)

    -- a search before a string that never ends is refused with 4 there
    pub text_stuck : (t : List ℕ) → Inside t → plainly f n w d (39 ∷ t) ≡ fault 4 (39 ∷ t)
    text_stuck t i = text_start t ∙ text_open d (39 ∷ t) i

    -- a search before a comment that never ends is refused with 3 there
    pub remark_stuck : (t : List ℕ) → Starless t → plainly f n w d (47 ∷ 42 ∷ t) ≡ fault 3 (47 ∷ 42 ∷ t)
    remark_stuck t h = remark_start t ∙ remark_open (seek_turn f) (missed n w) (λ m. seen m d (47 ∷ 42 ∷ t)) (seek_deaf d (47 ∷ 42 ∷ t)) t h
