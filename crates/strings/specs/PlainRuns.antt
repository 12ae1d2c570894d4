-- Runs of plain bytes, which are the text as they stand: found byte by byte, and passed at one go. Assumes nothing.
use Rattle.std.specs.Prelude.{ℕ, zero, suc, ◌+◌, ◌≤◌, ◌<◌, ◌≡◌, refl, Bool, true, false, ◌||◌, List, [], ◌∷◌, ◌++◌, eqb, leb, length, take, drop, get_or}
use Rattle.std.proofs.Common.{sym, ◌∙◌, ap, arith, add-one, leb-false, lt-ltb, length-drop, take_all, take-add}
use Rattle.common.specs.Pick.{pick}
use Rattle.common.specs.Tests.{neither}
use Rattle.utf8.specs.Encoding.{encode_all}
use Rattle.utf8.specs.Laws.{encode_one}
use Rattle.pages.specs.Rules.{page_a}
use Rattle.strings.specs.Text
use Rattle.strings.specs.Put.{Laid, laid_then, encode_append}
use Rattle.strings.specs.Answer.{largest_u64}
use Rattle.strings.specs.Code.{PlainPut}
use Rattle.strings.specs.Steps.{text_goes}

-- a byte is special: a quote, a backslash or a high byte
abbrev pub special : ℕ → Bool
special b = eqb b 39 || (eqb b 92 || leb 128 b)

-- a byte that is not special is its own piece, and names no page
pub plain_piece : (g b : ℕ) (r : List ℕ) → special b ≡ false → (Text.piece_of g (b ∷ r) ≡ Text.gives (b ∷ []) 1) × (b < 128) × (Text.page_after g (b ∷ r) ≡ g)
unfolding Text.piece_of Text.page_after
plain_piece g b r h =
    let x = neither (eqb b 39) (eqb b 92 || leb 128 b) h in
    let y = neither (eqb b 92) (leb 128 b) x.1 in
    let z = leb-false 128 b y.1 in
    (rw (y.0, x.0, lt-ltb b 128 z) refl, z, rw y.0 refl)

-- a plain list's first byte is not special, and the others are plain
plain_parts : (b : ℕ) (r : List ℕ) → Text.plain (b ∷ r) ≡ true → (special b ≡ false) × (Text.plain r ≡ true)
unfolding Text.plain
plain_parts b r h = go (special b) refl h
  where
    go : (t : Bool) → special b ≡ t → pick t false (Text.plain r) ≡ true → (special b ≡ false) × (Text.plain r ≡ true)
    go true p q = let z : ◌≡◌ {A = ℕ} 0 1 = ap (λ (t : Bool). pick t 1 0) q in absurd (omega arith)
    go false p q = (p, q)

-- the first no bytes of a list are plain
pub plain_none : (s : List ℕ) → Text.plain (take 0 s) ≡ true
unfolding Text.plain
plain_none s = refl

-- one plain byte more after the first i, which are plain
plain_suc : (s : List ℕ) (i : ℕ) → i < length s → special (get_or s i 0) ≡ false → Text.plain (take i s) ≡ true → Text.plain (take (suc i) s) ≡ true
unfolding Text.plain
plain_suc [] i h e p = absurd (omega arith)
plain_suc (b ∷ r) zero h e p = rw e refl
plain_suc (b ∷ r) (suc i) h e p = let q = plain_parts b (take i r) p in rw q.0 (plain_suc r i (omega arith) e q.1)

-- one plain byte more after the first i, which are plain, as the code counts
pub plain_more : (s : List ℕ) (i : ℕ) → i < length s → special (get_or s i 0) ≡ false → Text.plain (take i s) ≡ true → Text.plain (take (i + 1) s) ≡ true
plain_more s i h e p = rw add-one (plain_suc s i h e p)

-- a list with a special byte is not plain
pub plain_hit : (s : List ℕ) (i : ℕ) → i < length s → special (get_or s i 0) ≡ true → Text.plain s ≡ false
unfolding Text.plain
plain_hit [] i h e = absurd (omega arith)
plain_hit (b ∷ r) zero h e = rw e refl
plain_hit (b ∷ r) (suc i) h e = go (special b) (plain_hit r i (omega arith) e)
  where
    go : (t : Bool) → Text.plain r ≡ false → pick t false (Text.plain r) ≡ false
    go true k = refl
    go false k = k

-- a list whose bytes up to the end are plain is plain
pub plain_whole : (s : List ℕ) (n : ℕ) → length s ≤ n → Text.plain (take n s) ≡ true → Text.plain s ≡ true
plain_whole s n h p = rw (take_all n s h) at p

-- plain bytes, and then further plain bytes
plain_append : (xs ys : List ℕ) → Text.plain xs ≡ true → Text.plain ys ≡ true → Text.plain (xs ++ ys) ≡ true
unfolding Text.plain
plain_append [] ys p q = q
plain_append (b ∷ r) ys p q = let z = plain_parts b r p in rw z.0 (plain_append r ys z.1 q)

-- plain bytes are put, and then further plain bytes after them: both are one run
pub plain_put_on : (s : List ℕ) (a : ℕ) (o : List ℕ) (k e : ℕ) (p t : List ℕ) (n f : ℕ) (q : List ℕ) → length o ≤ largest_u64 → k ≤ length s → t ≡ drop k s → Text.plain (take k s) ≡ true → Laid a o (take k s) e p → n ≤ length t → Text.plain (take n t) ≡ true → Laid e p (take n t) f q → PlainPut s a o f (k + n) q
plain_put_on s a o k e p t n f q m h w g x l i y =
    let z : take (k + n) s ≡ take k s ++ take n t = take-add k n s ∙ ap (λ (u : List ℕ). take k s ++ take n u) (sym w) in
    record {
      within = omega (arith, length-drop k s, ap length w);
      plainly = rw z (plain_append (take k s) (take n t) g i);
      put = rw z (laid_then a o (take k s) e p (take n t) f q m x y);
    }

-- plain bytes are their own characters, and the text goes on after them on the same page
pub text_plain : (g n : ℕ) (s : List ℕ) → n ≤ length s → Text.plain (take n s) ≡ true → Text.text_on g s ≡ take n s ++ Text.text_on g (drop n s)
text_plain g zero s h p = refl
text_plain g (suc n) [] h p = absurd (omega arith)
text_plain g (suc n) (b ∷ r) h p =
    let q = plain_parts b (take n r) p in
    let (x, l, k) = plain_piece g b r q.0 in
    text_goes g (b ∷ r) 1 (omega arith) (sym (ap (λ (z : Text.Piece). z.used) x)) (omega arith) ∙ rw (x, k) (ap (λ (z : List ℕ). b ∷ z) (text_plain g n r (omega arith) q.1))

-- plain bytes are their own encoding
pub encode_plain : (s : List ℕ) → Text.plain s ≡ true → encode_all s ≡ s
unfolding encode_all
encode_plain [] p = refl
encode_plain (b ∷ r) p =
    let q = plain_parts b r p in
    rw (encode_one b (plain_piece 0 b r q.0).1) (ap (λ (z : List ℕ). b ∷ z) (encode_plain r q.1))

-- plain bytes at the start are the first bytes of the text
pub bytes_plain : (n : ℕ) (s : List ℕ) → n ≤ length s → Text.plain (take n s) ≡ true → Text.bytes_of s ≡ take n s ++ Text.bytes_of (drop n s)
unfolding Text.bytes_of Text.text_of
bytes_plain n s h p = ap encode_all (text_plain page_a n s h p) ∙ encode_append (take n s) (Text.text_on page_a (drop n s)) ∙ ap (λ (z : List ℕ). z ++ encode_all (Text.text_on page_a (drop n s))) (encode_plain (take n s) p)
