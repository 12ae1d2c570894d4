-- Bytes put into lent room one after another: how far a run has come and what the room then holds. Assumes nothing.
use Rattle.std.specs.Prelude.{ℕ, zero, suc, ◌+◌, ◌-◌, ◌≤◌, ◌<◌, min, ◌≡◌, refl, Bool, true, false, List, [], ◌∷◌, ◌++◌, leb, length, take, drop, set, get_or}
use Rattle.std.proofs.Common.{sym, ◌∙◌, ap, append_assoc, append-nil, arith, add-one, le-leb, leb-true, length-append, length-drop, drop-drop, length-take-le}
use Rattle.std.proofs.Math.Seq.{take-append_seam, drop-append-add, paste, paste-zero, paste-suc}
use Rattle.common.specs.Pick.{pick}
use Rattle.utf8.specs.Utf8.{encode}
use Rattle.utf8.specs.Encoding.{encode_all}
use Rattle.utf8.specs.Answer.{put_at, put_width}
use Rattle.strings.specs.Answer.{largest_u64}

-- from place a of the room o, the bytes bs have been counted up to e; where they all fit, the room p holds them and is beyond them as
-- it was (where they do not, nothing is said of the room)
pub record Laid (a : ℕ) (o bs : List ℕ) (e : ℕ) (p : List ℕ) : Type 0 where
  pub counted : e ≡ min largest_u64 (a + length bs)
  pub laid : (pre post : List ℕ) → o ≡ pre ++ post → length pre ≡ a → length bs ≤ length post → p ≡ pre ++ (bs ++ drop (length bs) post)

-- where no byte is put the room stays
pub laid_none : (a : ℕ) (o : List ℕ) → a ≤ largest_u64 → Laid a o [] a o
laid_none a o h = record { counted = omega arith; laid = λ pre post e l k. e }

-- bytes are put, and then further bytes after them
pub laid_then : (a : ℕ) (o xs : List ℕ) (e : ℕ) (p ys : List ℕ) (f : ℕ) (q : List ℕ) → length o ≤ largest_u64 → Laid a o xs e p → Laid e p ys f q → Laid a o (xs ++ ys) f q
laid_then a o xs e p ys f q m x y = record { counted = rw (length-append xs ys) (omega (arith, x.counted, y.counted)); laid = go }
  where
    go : (pre post : List ℕ) → o ≡ pre ++ post → length pre ≡ a → length (xs ++ ys) ≤ length post → q ≡ pre ++ ((xs ++ ys) ++ drop (length (xs ++ ys)) post)
    go pre post g l h =
        let n : length (xs ++ ys) ≡ length xs + length ys = length-append xs ys in
        let o≡ : length o ≡ length pre + length post = ap length g ∙ length-append pre post in
        let p≡ : p ≡ pre ++ xs ++ drop (length xs) post = x.laid pre post g l (omega arith) ∙ sym (append_assoc pre xs (drop (length xs) post)) in
        let e≡ : length (pre ++ xs) ≡ e = length-append pre xs ∙ omega (arith, x.counted) in
        let d : length ys ≤ length (drop (length xs) post) = rw (length-drop (length xs) post) (omega arith) in
        let q≡ : q ≡ pre ++ xs ++ (ys ++ drop (length ys) (drop (length xs) post)) = y.laid (pre ++ xs) (drop (length xs) post) p≡ e≡ d in
        let r = drop (length xs + length ys) post in
        q≡ ∙ rw (n, drop-drop (length ys) (length xs) post) (append_assoc pre xs (ys ++ r) ∙ ap (λ (z : List ℕ). pre ++ z) (sym (append_assoc xs ys r)))

-- the encodings of two lists of characters
pub encode_append : (xs ys : List ℕ) → encode_all (xs ++ ys) ≡ encode_all xs ++ encode_all ys
unfolding encode_all
encode_append [] ys = refl
encode_append (x ∷ xs) ys = ap (λ (z : List ℕ). encode x ++ z) (encode_append xs ys) ∙ sym (append_assoc (encode x) (encode_all xs) (encode_all ys))

-- characters are put, and then further characters after them
pub laid_chars : (a : ℕ) (o xs : List ℕ) (e : ℕ) (p ys : List ℕ) (f : ℕ) (q : List ℕ) → length o ≤ largest_u64 → Laid a o (encode_all xs) e p → Laid e p (encode_all ys) f q → Laid a o (encode_all (xs ++ ys)) f q
laid_chars a o xs e p ys f q m x y = rw (encode_append xs ys) (laid_then a o (encode_all xs) e p (encode_all ys) f q m x y)

-- where no character is put the room stays
pub laid_nothing : (a : ℕ) (o : List ℕ) → a ≤ largest_u64 → Laid a o (encode_all []) a o
unfolding encode_all
laid_nothing a o h = laid_none a o h

-- a room after bytes were put at a place of it where they fit, and else as it was
pub put_laid : (a : ℕ) (o bs p : List ℕ) (e : ℕ) → p ≡ pick (leb (a + length bs) (length o)) (take a o ++ bs ++ drop (a + length bs) o) o → e ≡ min largest_u64 (a + length bs) → Laid a o bs e p
put_laid a o bs p e h k = record { counted = k; laid = go }
  where
    go : (pre post : List ℕ) → o ≡ pre ++ post → length pre ≡ a → length bs ≤ length post → p ≡ pre ++ (bs ++ drop (length bs) post)
    go pre post g l j =
        let n : length o ≡ length pre + length post = ap length g ∙ length-append pre post in
        let u : p ≡ take a o ++ bs ++ drop (a + length bs) o = h ∙ rw (le-leb (a + length bs) (length o) (omega arith)) refl in
        u ∙ rw (g, sym l, take-append_seam pre post, drop-append-add pre post (length bs)) (append_assoc pre bs (drop (length bs) post))

-- a character put where it fits, and counted wherever it stands
pub put_one : (a : ℕ) (o : List ℕ) (c w e : ℕ) (p : List ℕ) → w ≡ length (encode c) → p ≡ put_at a (encode c) o → e ≡ min largest_u64 (a + w) → Laid a o (encode_all (c ∷ [])) e p
unfolding encode_all put_at
put_one a o c w e p h k l = rw (append-nil (encode c)) (put_laid a o (encode c) p e k (l ∙ ap (λ (z : ℕ). min largest_u64 (a + z)) h))

-- a width that was put is the encoding's, and the encoding fits
pub put_some : (a : ℕ) (o e : List ℕ) (u : ℕ) → u ≡ put_width a e o → (u ≡ 0 → ⊥) → (u ≡ length e) × (a + u ≤ length o)
unfolding put_width
put_some a o e u h n = go (leb (a + length e) (length o)) refl h
  where
    go : (t : Bool) → leb (a + length e) (length o) ≡ t → u ≡ pick t (length e) 0 → (u ≡ length e) × (a + u ≤ length o)
    go true p k = let l = leb-true (a + length e) (length o) p in (k, omega arith)
    go false p k = absurd (n k)

-- plain bytes put where they fit, and counted wherever they stand
pub put_run : (a : ℕ) (o s : List ℕ) (n e : ℕ) (p : List ℕ) → n ≤ length s → p ≡ pick (leb (a + n) (length o)) (paste o a s n) o → e ≡ min largest_u64 (a + n) → Laid a o (take n s) e p
put_run a o s n e p h k l =
    let w : length (take n s) ≡ n = length-take-le n s h in
    put_laid a o (take n s) p e (rw w k) (rw w l)

-- a turn of a loop that copies: one byte more is pasted
pub paste_more : (o : List ℕ) (a : ℕ) (s : List ℕ) (k : ℕ) (p : List ℕ) → a + k < length o → k < length s → p ≡ paste o a s k → set p (a + k) (get_or s k 0) ≡ paste o a s (k + 1)
paste_more o a s k p h l e = rw (add-one, e) (paste-suc o a s k 0 h l)

-- plain bytes that fit are put
pub put_part : (a : ℕ) (o s : List ℕ) (k : ℕ) (p : List ℕ) → a ≤ largest_u64 → length o ≤ largest_u64 → k ≤ length s → k ≤ length o - a → p ≡ paste o a s k → Laid a o (take k s) (a + k) p
put_part a o s zero p m n h l e = let q : a + 0 ≡ a = omega arith in rw (q, e ∙ sym (paste-zero o a s)) (laid_none a o m)
put_part a o s (suc k) p m n h l e = put_run a o s (suc k) (a + suc k) p h (rw (le-leb (a + suc k) (length o) (omega arith)) e) (omega arith)
