-- What the code passes at one go on its way to a record's `;` and to a closing `)`: a string, a comment, a byte outside both, and blocks of
-- bytes in which nothing is to be looked at one by one. All is said of `plainly`, the search outside strings and comments, for which it does not
-- matter where the last byte outside stood. No contract of a public function cites these. Assumes nothing.
use Rattle.std.specs.Prelude.{ℕ, suc, ◌+◌, ◌-◌, ◌≤◌, ◌<◌, ◌≡◌, refl, Bool, true, false, ◌||◌, List, ◌∷◌, ◌++◌, eqb, length, drop, get_or, Result, Ok, Err}
use Rattle.std.proofs.Common.{sym, ◌∙◌, ap, arith, eq-eqb, ne_eqb, eqb-true}
use Rattle.std.proofs.Math.Decide.{dec_le}
use Rattle.std.proofs.lemmas.Bool.{eqb-false}
use Rattle.common.specs.Pick.{pick}
use Rattle.common.specs.Lists.{split, drop_end}
use Rattle.common.specs.Compare.{clash}
use Rattle.error.specs.Refusal.{bad, refusal, told}
use Rattle.lex.specs.Place.{place_drop}
use Rattle.common.specs.Walk.{on, walk_goes}
use Rattle.common.specs.Tests.{neither}
use Rattle.lex.specs.Lexer.{fresh}
use Rattle.lex.specs.Search.{Look, look, seen, seek_turn, missed, semicolon, paren}
use Rattle.lex.specs.Answer.{placed}
use Rattle.lex.specs.Grammar.{Begins, Quotation, OpenText, Comment, OpenRemark}
use Rattle.lex.specs.Local.{seek}
use Rattle.lex.specs.Right.Steps.{plainly, outside_forgotten, unslashed, remark_shut, remark_open, text_shut, text_open, seek_deaf}
use Rattle.lex.specs.Right.Tokens.{open_text, open_remark}
use Rattle.error.specs.declared.Fault.{Fault}
use Rattle.lex.specs.declared.Mode.{Mode}
use Rattle.lex.specs.declared.Mode.TheVariants.{Plain, Slash, Text, Remark}

-- whether the byte b stands at i
pub record IsAt (b : ℕ) (s : List ℕ) (i : ℕ) (r : Bool) : Type 0 where
  pub here : r ≡ true → (i < length s) × (get_or s i 0 ≡ b)
  pub away : r ≡ false → i < length s → get_or s i 0 ≡ b → ⊥

-- a search in mode m, in a string or a comment that began at q, leaves it at p, read from i on
abbrev pub LeavesAt : List ℕ → Mode → ℕ → ℕ → ℕ → Type 0
LeavesAt s m q i p = (f : ℕ → ℕ → Look) (n : ℕ) (w : List ℕ) (d : ℕ) → seek f (missed n w) m d (drop q s) (drop i s) ≡ plainly f n w d (drop p s)

-- a search in mode m, in a string or a comment that began at q, read from i on, leaves it at a place, or is refused
abbrev pub LeavesOrRefused : List ℕ → Mode → ℕ → ℕ → Result ℕ Fault → Type 0
LeavesOrRefused s m q i (Ok p) = (i ≤ p) × (p ≤ length s) × LeavesAt s m q i p
LeavesOrRefused s m q i (Err g) = (f : ℕ → ℕ → Look) (n : ℕ) (w : List ℕ) (d : ℕ) → placed s (seek f (missed n w) m d (drop q s) (drop i s)) ≡ bad (told g)

-- a search outside strings and comments that does not halt at the byte at i is outside again at a place after it, or is refused
abbrev pub OutsideAgain : List ℕ → ℕ → Result ℕ Fault → Type 0
OutsideAgain s i (Ok p) =
    (i < p) × (p ≤ length s) × ((f : ℕ → ℕ → Look) (n : ℕ) (w : List ℕ) (d e : ℕ) → f d (get_or s i 0) ≡ look e → plainly f n w d (drop i s) ≡ plainly f n w e (drop p s))
OutsideAgain s i (Err g) = (f : ℕ → ℕ → Look) (n : ℕ) (w : List ℕ) (d e : ℕ) → f d (get_or s i 0) ≡ look e → placed s (plainly f n w d (drop i s)) ≡ bad (told g)

-- a search for a record's `;` goes on from j as from i
abbrev pub Quiet : List ℕ → ℕ → ℕ → Type 0
Quiet s i j = (n : ℕ) (w : List ℕ) → plainly semicolon n w 0 (drop i s) ≡ plainly semicolon n w 0 (drop j s)

-- a search for a `)` with d open parentheses goes on from j with e, where no more than d are closed between
abbrev pub BlockCounted : List ℕ → ℕ → ℕ → ℕ → ℕ → Type 0
BlockCounted s i j up down = (n : ℕ) (w : List ℕ) (d e : ℕ) → down ≤ d → e + down ≡ d + up → plainly paren n w d (drop i s) ≡ plainly paren n w e (drop j s)

-- what is left for a search at i among n bytes that looks at them one by one up to `near`: less after each byte, and after blocks were tried
abbrev pub left_to_search : ℕ → ℕ → ℕ → ℕ
left_to_search n i near = n - i + (n - i) + (1 - (near - i))

-- less is left for a search after blocks were tried
pub blocks_less : (n i near r : ℕ) → near ≤ i → i ≤ r → left_to_search n r (r + 64) < left_to_search n i near
blocks_less n i near r h k = let a : near - i ≡ 0 = omega arith in
    let b : 1 - (r + 64 - r) ≡ 0 = omega arith in rw (a, b) (omega arith)

-- less is left for a search after bytes were passed
pub bytes_less : (n i near r : ℕ) → i < near → i < r → r ≤ n → left_to_search n r near < left_to_search n i near
bytes_less n i near r h k l = let a : 1 - (near - i) ≡ 0 = omega arith in rw a (omega arith)

-- where the byte c does not stand at j, the rest from j on does not begin with it
pub unbegun : (s : List ℕ) (j c : ℕ) → (j < length s → get_or s j 0 ≡ c → ⊥) → Begins c (drop j s) → ⊥
unbegun s j c h (r, e) = go (dec_le (length s) j)
  where
    go : Dec (length s ≤ j) → ⊥
    go (yes l) = clash (cc (drop_end s j l))
    go (no l) = let k : j < length s = omega arith in h k (cc (split s j k))

-- A string that began at q, and a comment that did.
module _ (s : List ℕ) (q i : ℕ) where
  -- a search in a string leaves it where the string ends
  pub text_left : (p : ℕ) → Quotation (39 ∷ drop i s) (drop p s) → LeavesAt s Text q i p
  text_left p t f n w d =
      let e : drop i s ≡ t.body ++ (39 ∷ drop p s) = cc t.shape in
      rw e (text_shut f n w d (drop q s) (drop p s) (drop p s) t.inside t.single)

  -- a search in a string that never ends is refused with 4 at the string's quote
  pub text_stays : q ≤ length s → OpenText (39 ∷ drop i s) → (f : ℕ → ℕ → Look) (n : ℕ) (w : List ℕ) (d : ℕ)
      → placed s (seek f (missed n w) Text d (drop q s) (drop i s)) ≡ bad (refusal 4 0 q)
  text_stays k t f n w d =
      let (u, e, j) = open_text t in
      let g : drop i s ≡ u = cc in
      rw (g, text_open f n w d (drop q s) j, place_drop s q k) refl

  -- a search in a comment leaves it where the comment ends
  pub remark_left : (p : ℕ) → Comment (47 ∷ 42 ∷ drop i s) (drop p s) → LeavesAt s Remark q i p
  remark_left p t f n w d =
      let e : drop i s ≡ t.body ++ (42 ∷ 47 ∷ drop p s) = cc t.shape in
      rw e (remark_shut (seek_turn f) (missed n w) (λ m. seen m d (drop q s)) (seek_deaf f n w d (drop q s)) t.body (drop p s) t.first ∙ outside_forgotten f n w d (drop q s) (drop p s) (drop p s))

  -- a search in a comment that never ends is refused with 3 at the comment's slash
  pub remark_stays : q ≤ length s → OpenRemark (47 ∷ 42 ∷ drop i s) → (f : ℕ → ℕ → Look) (n : ℕ) (w : List ℕ) (d : ℕ)
      → placed s (seek f (missed n w) Remark d (drop q s) (drop i s)) ≡ bad (refusal 3 0 q)
  remark_stays k t f n w d =
      let (u, e, j) = open_remark t in
      let g : drop i s ≡ u = cc in
      rw (g, remark_open (seek_turn f) (missed n w) (λ m. seen m d (drop q s)) (seek_deaf f n w d (drop q s)) u j, place_drop s q k) refl

-- What stands at i outside strings and comments.
module _ (s : List ℕ) (i : ℕ) (h : i < length s) where
  -- a search outside strings and comments that does not halt at the byte at i goes on in the mode that the byte leaves
  first : (f : ℕ → ℕ → Look) (n : ℕ) (w : List ℕ) (d e : ℕ) → f d (get_or s i 0) ≡ look e
      → plainly f n w d (drop i s) ≡ seek f (missed n w) (fresh (get_or s i 0)) e (drop i s) (drop (i + 1) s)
  first f n w d e l =
      walk_goes (seek_turn f) (missed n w) (seen Plain d (drop i s)) (seen (fresh (get_or s i 0)) e (drop i s)) s i h
      (rw l (ap (λ (x : List ℕ). on (seen (fresh (get_or s i 0)) e x)) (sym (split s i h))))

  -- a search goes on after a byte at i that is no quote and no slash
  pub onward_byte : (get_or s i 0 ≡ 39 → ⊥) → (get_or s i 0 ≡ 47 → ⊥) → OutsideAgain s i (Ok (i + 1))
  onward_byte a b = (
    omega arith,
    omega arith,
    λ f n w d e l. first f n w d e l ∙ rw (ne_eqb (get_or s i 0) 39 a, ne_eqb (get_or s i 0) 47 b) (outside_forgotten f n w e (drop i s) (drop (i + 1) s) (drop (i + 1) s)),
  )

  -- a search goes on after a slash at i that no star follows
  pub onward_slash : get_or s i 0 ≡ 47 → (i + 1 < length s → get_or s (i + 1) 0 ≡ 42 → ⊥) → OutsideAgain s i (Ok (i + 1))
  onward_slash a b = (
    omega arith,
    omega arith,
    λ f n w d e l. first f n w d e l ∙ rw (eq-eqb (get_or s i 0) 47 a, ne_eqb (get_or s i 0) 39 (λ z. omega arith)) (unslashed f n w e (drop i s) (drop (i + 1) s) (drop (i + 1) s) (unbegun s (i + 1) 42 b)),
  )

  -- a search goes on after a string that opens at i, or is refused in it
  pub onward_text : get_or s i 0 ≡ 39 → (r : Result ℕ Fault) → LeavesOrRefused s Text i (i + 1) r → OutsideAgain s i r
  onward_text a (Ok p) (x, y, b) = (omega arith, y, λ f n w d e l. first f n w d e l ∙ rw (eq-eqb (get_or s i 0) 39 a) (b f n w e))
  onward_text a (Err g) b = λ f n w d e l. ap (placed s) (first f n w d e l) ∙ rw (eq-eqb (get_or s i 0) 39 a) (b f n w e)

  -- where a slash and a star stand at i, a search goes on in a comment
  opens : get_or s i 0 ≡ 47 → i + 1 < length s → get_or s (i + 1) 0 ≡ 42 → (f : ℕ → ℕ → Look) (n : ℕ) (w : List ℕ) (d e : ℕ) → f d (get_or s i 0) ≡ look e
      → plainly f n w d (drop i s) ≡ seek f (missed n w) Remark e (drop i s) (drop (i + 2) s)
  opens a k b f n w d e l =
      let g : i + 1 + 1 ≡ i + 2 = omega arith in
      first f n w d e l
      ∙ rw (eq-eqb (get_or s i 0) 47 a, ne_eqb (get_or s i 0) 39 (λ z. omega arith))
      (walk_goes (seek_turn f) (missed n w) (seen Slash e (drop i s)) (seen Remark e (drop i s)) s (i + 1) k (rw (eq-eqb (get_or s (i + 1) 0) 42 b) refl))
      ∙ ap (λ (j : ℕ). seek f (missed n w) Remark e (drop i s) (drop j s)) g

  -- a search goes on after a comment that opens at i, or is refused in it
  pub onward_remark : get_or s i 0 ≡ 47 → i + 1 < length s → get_or s (i + 1) 0 ≡ 42 → (r : Result ℕ Fault) → LeavesOrRefused s Remark i (i + 2) r → OutsideAgain s i r
  onward_remark a k b (Ok p) (x, y, c) = (omega arith, y, λ f n w d e l. opens a k b f n w d e l ∙ c f n w e)
  onward_remark a k b (Err g) c = λ f n w d e l. ap (placed s) (opens a k b f n w d e l) ∙ c f n w e

-- a byte that is neither a quote nor a slash nor a `;`
pub quiet_byte : (s : List ℕ) (i j : ℕ) → j < length s → eqb (get_or s j 0) 39 ≡ false → eqb (get_or s j 0) 47 ≡ false → eqb (get_or s j 0) 59 ≡ false → Quiet s i j → Quiet s i (j + 1)
quiet_byte s i j h k l m q = λ n w. q n w ∙ (onward_byte s j h (eqb-false (get_or s j 0) 39 k) (eqb-false (get_or s j 0) 47 l)).2 semicolon n w 0 0 (rw m refl)

-- a search for a `)` goes on from a place as from itself, with no parenthesis between
pub block_counted_none : (s : List ℕ) (i j : ℕ) → j ≡ i → BlockCounted s i j 0 0
block_counted_none s i j g n w d e h k = let x : e ≡ d = omega arith in rw (g, x) refl

-- one byte more of a block in which neither a quote nor a slash was noted: the search for a `)` goes on after it, the parentheses counted
pub block_counted_next : (s : List ℕ) (i j up down : ℕ) (quote slash : Bool) → j < length s → ((quote || slash) ≡ false → BlockCounted s i j up down)
    → ((quote || eqb (get_or s j 0) 39) || (slash || eqb (get_or s j 0) 47)) ≡ false
    → BlockCounted s i (j + 1) (up + pick (eqb (get_or s j 0) 40) 1 0) (down + pick (eqb (get_or s j 0) 41) 1 0)
block_counted_next s i j up down quote slash h p e =
    let (q, l) = neither (quote || eqb (get_or s j 0) 39) (slash || eqb (get_or s j 0) 47) e in
    let (q₀, q₁) = neither quote (eqb (get_or s j 0) 39) q in
    let (l₀, l₁) = neither slash (eqb (get_or s j 0) 47) l in
    by (eqb (get_or s j 0) 40) (eqb (get_or s j 0) 41) refl refl (eqb-false (get_or s j 0) 39 q₁) (eqb-false (get_or s j 0) 47 l₁) (p (rw (q₀, l₀) refl))
  where
    step : (m e n : ℕ) (w : List ℕ) → (get_or s j 0 ≡ 39 → ⊥) → (get_or s j 0 ≡ 47 → ⊥) → paren m (get_or s j 0) ≡ look e → plainly paren n w m (drop j s) ≡ plainly paren n w e (drop (j + 1) s)
    step m e n w a b l = (onward_byte s j h a b).2 paren n w m e l

    by : (x y : Bool) → eqb (get_or s j 0) 40 ≡ x → eqb (get_or s j 0) 41 ≡ y → (get_or s j 0 ≡ 39 → ⊥) → (get_or s j 0 ≡ 47 → ⊥) → BlockCounted s i j up down
        → BlockCounted s i (j + 1) (up + pick x 1 0) (down + pick y 1 0)
    by true true k l a b c n w d e u v = let x = eqb-true (get_or s j 0) 40 k in let y = eqb-true (get_or s j 0) 41 l in absurd (omega arith)
    by true false k l a b c n w d e u v =
        let x : suc (e - 1) ≡ e = omega arith in c n w d (e - 1) (omega arith) (omega arith) ∙ step (e - 1) e n w a b (rw (k, x) refl)
    by false true k l a b c n w d e u v = c n w d (suc e) (omega arith) (omega arith) ∙ step (suc e) e n w a b (rw (k, l) refl)
    by false false k l a b c n w d e u v = c n w d e (omega arith) (omega arith) ∙ step e e n w a b (rw (k, l) refl)
