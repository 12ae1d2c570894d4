-- A string and a comment as the scan's grammar has them end just where they are said to end; and the laws of the code's loops.
-- Assumes nothing.
use Rattle.std.specs.Prelude.{ℕ, zero, suc, ◌+◌, ◌-◌, ◌≤◌, ◌<◌, min, ◌≡◌, refl, Bool, true, false, List, [], ◌∷◌, ◌++◌, eqb, leb, length, drop, get_or}
use Rattle.std.proofs.Common.{sym, ◌∙◌, ap, subst, arith, drop-drop, eqb-true, eq-eqb, ne_eqb, leb-true, leb-false}
use Rattle.std.proofs.lemmas.Bool.{eqb-false}
use Rattle.common.specs.Pick.{pick}
use Rattle.common.specs.Lists.{split, drop_end}
use Rattle.common.specs.Compare.{clash}
use Rattle.common.specs.Walk.{walk}
use Rattle.lex.specs.Answer.{Lacks, Stopped}
use Rattle.lex.specs.Seek.{drop_within}
use Rattle.lex.specs.Grammar.{Begins, Comment, Quotation, OpenText, OpenRemark}
use Rattle.lex.specs.Right.Steps.{Deaf, remark_shut, remark_open, text_ends, text_over}
use Rattle.lex.specs.Right.Tokens.{open_text, open_remark, ReadsAsTokens, tokens}
use Rattle.lex.specs.declared.Mode.TheVariants.{Plain, Quoted, Remark, Starred}
use Rattle.tokens.specs.TokenRests.{leap_turn, leap_end, string_rest, comment_rest}
use Rattle.tokens.specs.Answer.{from_byte, heads_with, ends_before, never}

-- in strings and comments a leap is deaf
leap_deaf : Deaf leap_turn leap_end (λ m. m)
leap_deaf = record { quiet = λ m c r h. rw h; starred = refl }

-- after the quote that ends a string, and that no quote follows, the string is left
quoted_ends : (r : List ℕ) → (Begins 39 r → ⊥) → walk leap_turn leap_end Quoted r ≡ ends_before r
unfolding walk
quoted_ends [] h = refl
quoted_ends (c ∷ r) h = rw (ne_eqb c 39 (λ e. h (r, cc)))

-- outside strings and comments, what was opened has been left
plain_ends : (r : List ℕ) → walk leap_turn leap_end Plain r ≡ ends_before r
unfolding walk
plain_ends [] = refl
plain_ends (c ∷ r) = refl

-- a string that ends by the grammar is left where it ends
pub string_only : {t r : List ℕ} → Quotation (39 ∷ t) r → string_rest t ≡ ends_before r
unfolding string_rest
string_only {t} {r} q =
    let e : t ≡ q.body ++ (39 ∷ r) = cc q.shape in
    rw e (text_ends leap_turn leap_end (λ m. m) leap_deaf r q.inside ∙ quoted_ends r q.single)

-- a string that never ends by the grammar is never left
pub string_never_only : {t : List ℕ} → OpenText (39 ∷ t) → string_rest t ≡ never
unfolding string_rest
string_never_only {t} h = let (u, e, i) = open_text h in let f : t ≡ u = cc in rw f (text_over leap_turn leap_end (λ m. m) leap_deaf i)

-- a comment that ends by the grammar is left where it ends
pub comment_only : {t r : List ℕ} → Comment (47 ∷ 42 ∷ t) r → comment_rest t ≡ ends_before r
unfolding comment_rest
comment_only {t} {r} q =
    let e : t ≡ q.body ++ (42 ∷ 47 ∷ r) = cc q.shape in
    rw e (remark_shut leap_turn leap_end (λ m. m) leap_deaf q.body r q.first ∙ plain_ends r)

-- a comment that never ends by the grammar is never left
pub comment_never_only : {t : List ℕ} → OpenRemark (47 ∷ 42 ∷ t) → comment_rest t ≡ never
unfolding comment_rest
comment_never_only {t} h = let (u, e, i) = open_remark h in let f : t ≡ u = cc in rw f (remark_open leap_turn leap_end (λ m. m) leap_deaf u i)

-- what becomes of a string: it ends, or it never does
pub data Spells (t : List ℕ) : Type 0 where
  whole : {r : List ℕ} → Quotation (39 ∷ t) r → Spells t
  cut : OpenText (39 ∷ t) → Spells t

-- every string ends, or never does
pub spells : (t : List ℕ) → Spells t
spells t = go (39 ∷ t) refl (tokens (39 ∷ t))
  where
    go : (xs : List ℕ) → xs ≡ 39 ∷ t → ReadsAsTokens xs → Spells t
    go xs e ReadsAsTokens.end = clash (cc)
    go xs e (ReadsAsTokens.byte h k r) = absurd (h (cc))
    go xs e (ReadsAsTokens.string q r) = Spells.whole (rw e at q)
    go xs e (ReadsAsTokens.comment q r) = absurd (eqb-false 39 47 refl (cc q.shape))
    go xs e (ReadsAsTokens.text q) = Spells.cut (rw e at q)
    go xs e (ReadsAsTokens.remark ((r, f), h)) = absurd (eqb-false 39 47 refl (cc))

-- what becomes of a comment: it ends, or it never does
pub data Remarks (t : List ℕ) : Type 0 where
  whole : {r : List ℕ} → Comment (47 ∷ 42 ∷ t) r → Remarks t
  cut : OpenRemark (47 ∷ 42 ∷ t) → Remarks t

-- every comment ends, or never does
pub remarks : (t : List ℕ) → Remarks t
remarks t = go (47 ∷ 42 ∷ t) refl (tokens (47 ∷ 42 ∷ t))
  where
    go : (xs : List ℕ) → xs ≡ 47 ∷ 42 ∷ t → ReadsAsTokens xs → Remarks t
    go xs e ReadsAsTokens.end = clash (cc)
    go xs e (ReadsAsTokens.byte h k r) = absurd (k (t, cc))
    go xs e (ReadsAsTokens.string q r) = absurd (eqb-false 39 47 refl (cc q.shape))
    go xs e (ReadsAsTokens.comment q r) = Remarks.whole (rw e at q)
    go xs e (ReadsAsTokens.text ((r, f), h)) = absurd (eqb-false 39 47 refl (cc))
    go xs e (ReadsAsTokens.remark q) = Remarks.cut (rw e at q)

-- where a string is left, it ends by the grammar
pub string_is : (t r : List ℕ) → string_rest t ≡ ends_before r → Quotation (39 ∷ t) r
string_is t r e = go (spells t)
  where
    go : Spells t → Quotation (39 ∷ t) r
    go (Spells.whole {r = z} q) = let f : r ≡ z = cc (string_only q) in rw f q
    go (Spells.cut q) = clash (cc (string_never_only q))

-- a string that is never left never ends by the grammar
pub string_never : (t : List ℕ) → string_rest t ≡ never → OpenText (39 ∷ t)
string_never t e = go (spells t)
  where
    go : Spells t → OpenText (39 ∷ t)
    go (Spells.whole q) = clash (cc (string_only q))
    go (Spells.cut q) = q

-- where a comment is left, it ends by the grammar
pub comment_is : (t r : List ℕ) → comment_rest t ≡ ends_before r → Comment (47 ∷ 42 ∷ t) r
comment_is t r e = go (remarks t)
  where
    go : Remarks t → Comment (47 ∷ 42 ∷ t) r
    go (Remarks.whole {r = z} q) = let f : r ≡ z = cc (comment_only q) in rw f q
    go (Remarks.cut q) = clash (cc (comment_never_only q))

-- a comment that is never left never ends by the grammar
pub comment_never : (t : List ℕ) → comment_rest t ≡ never → OpenRemark (47 ∷ 42 ∷ t)
comment_never t e = go (remarks t)
  where
    go : Remarks t → OpenRemark (47 ∷ 42 ∷ t)
    go (Remarks.whole q) = clash (cc (comment_only q))
    go (Remarks.cut q) = q

-- where the byte b stands at i, the first b from i on is there
pub byte_here : (b : ℕ) (s : List ℕ) (i : ℕ) → i < length s → get_or s i 0 ≡ b → drop i s ≡ from_byte b (drop i s)
unfolding from_byte
byte_here b s i h e = rw (split s i h) (rw (eq-eqb (get_or s i 0) b e) refl)

-- where another byte stands at i, the first b from i on is the first from the next on
pub byte_next : (b : ℕ) (s : List ℕ) (i : ℕ) → i < length s → (get_or s i 0 ≡ b → ⊥) → from_byte b (drop (i + 1) s) ≡ from_byte b (drop i s)
unfolding from_byte
byte_next b s i h e = rw (split s i h) (rw (ne_eqb (get_or s i 0) b e) refl)

-- past the bytes' end there is no b
pub byte_none : (b : ℕ) (s : List ℕ) (i : ℕ) → length s ≤ i → drop i s ≡ from_byte b (drop i s)
unfolding from_byte
byte_none b s i h = rw (drop_end s i h) refl

-- bytes that are not b are passed over in the search for b
byte_lacks : (b : ℕ) (s : List ℕ) (n i : ℕ) → i + n ≤ length s → Lacks b s i (i + n) → from_byte b (drop (i + n) s) ≡ from_byte b (drop i s)
unfolding Lacks
byte_lacks b s zero i h f = let e : i + 0 ≡ i = omega arith in ap (λ (k : ℕ). from_byte b (drop k s)) e
byte_lacks b s (suc n) i h f =
    let e : i + suc n ≡ i + n + 1 = omega arith in
    ap (λ (k : ℕ). from_byte b (drop k s)) e
    ∙ byte_next b s (i + n) (omega arith) (f (i + n) (omega arith) (omega arith))
    ∙ byte_lacks b s n i (omega arith) (λ j p q. f j p (omega arith))

-- the first place that has b, or the end, is where the rest from the first b on begins
pub byte_stopped : (b : ℕ) (s : List ℕ) (start r : ℕ) → Stopped b s (min start (length s)) (length s) r → drop r s ≡ from_byte b (drop start s)
byte_stopped b s start r h = here (leb (length s) r) refl ∙ passed ∙ ap (from_byte b) (drop_within s start)
  where
    i : ℕ
    i = min start (length s)

    here : (t : Bool) → leb (length s) r ≡ t → drop r s ≡ from_byte b (drop r s)
    here true e = byte_none b s r (leb-true (length s) r e)
    here false e = let l : r < length s = leb-false (length s) r e in byte_here b s r l (h.here l)

    passed : from_byte b (drop r s) ≡ from_byte b (drop i s)
    passed =
        let p : i ≤ r = h.on in
        let q : r ≤ length s = h.inside in
        let e : i + (r - i) ≡ r = omega arith in
        ap (λ (k : ℕ). from_byte b (drop k s)) (sym e) ∙ byte_lacks b s (r - i) i (omega arith) (subst (λ (k : ℕ). Lacks b s i k) (sym e) h.lacks)

-- what is found in the search for b begins with b
pub byte_found : (b : ℕ) (xs : List ℕ) (c : ℕ) (r : List ℕ) → from_byte b xs ≡ c ∷ r → c ≡ b
unfolding from_byte
byte_found b [] c r e = clash (cc)
byte_found b (x ∷ xs) c r e = go (eqb x b) refl e (byte_found b xs c r)
  where
    go : (k : Bool) → eqb x b ≡ k → pick k (x ∷ xs) (from_byte b xs) ≡ c ∷ r → (from_byte b xs ≡ c ∷ r → c ≡ b) → c ≡ b
    go true h e ih = let f : x ≡ b = eqb-true x b h in cc
    go false h e ih = ih e

-- in a comment the end is sought on from the next star
comment_skips : (xs : List ℕ) → comment_rest xs ≡ comment_rest (from_byte 42 xs)
unfolding comment_rest walk from_byte
comment_skips [] = refl
comment_skips (c ∷ r) = go (eqb c 42) refl (comment_skips r)
  where
    go : (k : Bool) → eqb c 42 ≡ k → walk leap_turn leap_end Remark r ≡ walk leap_turn leap_end Remark (from_byte 42 r)
        → walk leap_turn leap_end (pick k Starred Remark) r ≡ walk leap_turn leap_end Remark (pick k (c ∷ r) (from_byte 42 r))
    go true e ih = rw e refl
    go false e ih = ih

-- where the bytes end in a comment, it never ends
comment_empty : comment_rest [] ≡ never
unfolding comment_rest walk
comment_empty = refl

-- a star that a slash follows ends a comment
comment_ends : (r : List ℕ) → heads_with 47 r ≡ true → comment_rest (42 ∷ r) ≡ ends_before (drop 1 r)
unfolding comment_rest walk
comment_ends [] h = clash (cc)
comment_ends (c ∷ r) h = rw h (plain_ends r)

-- after a star that no slash follows, the end of a comment is sought on
comment_star : (r : List ℕ) → heads_with 47 r ≡ false → comment_rest (42 ∷ r) ≡ comment_rest r
unfolding comment_rest walk
comment_star [] h = refl
comment_star (c ∷ r) h = rw h refl

-- A comment's end at places of the bytes: q is where the byte sought from i on is found.
module _ (s : List ℕ) (i q : ℕ) where
  -- where q is past the bytes' end, the byte sought is not found
  found_none : (b : ℕ) → drop q s ≡ from_byte b (drop i s) → length s ≤ q → from_byte b (drop i s) ≡ []
  found_none b e h = sym e ∙ drop_end s q h

  -- where q is in the bytes, the byte sought is found there
  found_here : (b : ℕ) → drop q s ≡ from_byte b (drop i s) → q < length s → from_byte b (drop i s) ≡ b ∷ drop (q + 1) s
  found_here b e h =
      let f : from_byte b (drop i s) ≡ get_or s q 0 ∷ drop (q + 1) s = sym e ∙ split s q h in
      f ∙ ap (λ (c : ℕ). c ∷ drop (q + 1) s) (byte_found b (drop i s) (get_or s q 0) (drop (q + 1) s) f)

  -- what is left one byte behind q + 1 is what is left behind q + 2
  drop_one : drop 1 (drop (q + 1) s) ≡ drop (q + 2) s
  drop_one = let e : q + 1 + 1 ≡ q + 2 = omega arith in drop-drop 1 (q + 1) s ∙ ap (λ (k : ℕ). drop k s) e

  module _ (e : drop q s ≡ from_byte 42 (drop i s)) where
    -- where no star is found from i on, the comment never ends
    pub comment_none : length s ≤ q → comment_rest (drop i s) ≡ never
    comment_none h = comment_skips (drop i s) ∙ ap comment_rest (found_none 42 e h) ∙ comment_empty

    -- where a slash follows the star at q, the comment ends behind it
    pub comment_last : q < length s → heads_with 47 (drop (q + 1) s) ≡ true → comment_rest (drop i s) ≡ ends_before (drop (q + 2) s)
    comment_last h k = comment_skips (drop i s) ∙ ap comment_rest (found_here 42 e h) ∙ comment_ends (drop (q + 1) s) k ∙ ap ends_before drop_one

    -- where no slash follows the star at q, the comment's end is sought on behind the star
    pub comment_goes_on : q < length s → heads_with 47 (drop (q + 1) s) ≡ false → comment_rest (drop i s) ≡ comment_rest (drop (q + 1) s)
    comment_goes_on h k = comment_skips (drop i s) ∙ ap comment_rest (found_here 42 e h) ∙ comment_star (drop (q + 1) s) k

-- where a rest begins with a byte, its place is before the bytes' end
pub heads_short : (b : ℕ) (s : List ℕ) (i : ℕ) → heads_with b (drop i s) ≡ true → i < length s
heads_short b s i h = go (leb (length s) i) refl
  where
    go : (k : Bool) → leb (length s) i ≡ k → i < length s
    go true e = let f : heads_with b [] ≡ true = ap (heads_with b) (sym (drop_end s i (leb-true (length s) i e))) ∙ h in clash (cc)
    go false e = leb-false (length s) i e

-- a rest begins with b just where b stands at its place
pub heads_at : (b : ℕ) (s : List ℕ) (i : ℕ) → i < length s → eqb (get_or s i 0) b ≡ heads_with b (drop i s)
heads_at b s i h = rw (split s i h) refl

-- past the bytes' end, no rest begins with b
pub heads_past : (b : ℕ) (s : List ℕ) (i : ℕ) → length s ≤ i → false ≡ heads_with b (drop i s)
heads_past b s i h = rw (drop_end s i h) refl
