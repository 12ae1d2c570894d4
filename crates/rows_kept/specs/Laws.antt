-- Laws for the code: rows tested one by one, written and read one by one.
-- Assumes nothing.
use Rattle.std.specs.Prelude.{ℕ, zero, suc, ◌+◌, ◌*◌, ◌/◌, ◌%◌, ◌≤◌, ◌<◌, ◌≡◌, refl, Bool, true, false, ◌&&◌, List, [], ◌∷◌, ◌++◌, ltb, length, drop, set}
use Rattle.std.proofs.Common.{sym, ◌∙◌, ap, subst, append_assoc, append-nil, arith, add-one, ltb-true, ltb-false, lt-ltb, le-ltb, eq-eqb, ne_eqb, length-append}
use Rattle.std.proofs.lemmas.List.Edits.{sets}
use Rattle.error.specs.Refusal.{refusal, good, bad}
use Rattle.statement.specs.Rows.{Row}
use Rattle.table.specs.Table.{rows_fit, six, rows_laid, row_put}
use Rattle.table.specs.Laid.{nothing_laid, laid_on, rows_laid_more}
use Rattle.rows_kept.specs.KeptRows.{little_four, littles, row_bytes, kept_bytes, kept_row_at, first_rows, fine_row, fine_all, keep_of, read_of, bytes_after}

-- where k rows are fine and row k is, k + 1 rows are
pub fine_more : (len : ℕ) (r : ℕ → Row) (k : ℕ) → fine_all len r k ≡ true → fine_row len (r k) ≡ true → fine_all len r (k + 1) ≡ true
unfolding fine_all
fine_more len r k a b = ap (fine_all len r) (add-one k) ∙ rw (a, b) refl

-- of no rows all are fine
pub fine_none : (len : ℕ) (r : ℕ → Row) → fine_all len r 0 ≡ true
unfolding fine_all
fine_none len r = refl

-- one row that is not fine spoils them all: the test fails
pub fine_not : (len : ℕ) (r : ℕ → Row) (k n : ℕ) → k < n → fine_row len (r k) ≡ false → fine_all len r n ≡ false
unfolding fine_all
fine_not len r k zero h e = absurd (omega arith)
fine_not len r k (suc n) h e = go (ltb k n) refl (λ l. fine_not len r k n l e)
  where
    any : (b : Bool) → b && false ≡ false
    any true = refl
    any false = refl

    go : (t : Bool) → ltb k n ≡ t → (k < n → fine_all len r n ≡ false) → fine_all len r n && fine_row len (r n) ≡ false
    go true l f = rw (f (ltb-true k n l)) refl
    go false l f =
        let q = ltb-false k n l in
        let d : k ≡ n = omega arith in
        let w : fine_row len (r n) ≡ false = subst (λ (z : ℕ). fine_row len (r z) ≡ false) d e in
        rw w (any (fine_all len r n))

-- there are n first rows
pub length_first : (r : ℕ → Row) (n : ℕ) → length (first_rows r n) ≡ n
unfolding first_rows
length_first r zero = refl
length_first r (suc n) = length-append (first_rows r n) (r n ∷ []) ∙ ap (λ (z : ℕ). z + 1) (length_first r n) ∙ add-one n

-- the first k + 1 rows are the first k and row k
pub first_rows_more : (r : ℕ → Row) (k : ℕ) → first_rows r (k + 1) ≡ first_rows r k ++ (r k ∷ [])
unfolding first_rows
first_rows_more r k = ap (first_rows r) (add-one k)

-- a row takes 24 bytes
pub length_row : (w : Row) → length (row_bytes w) ≡ 24
unfolding littles
length_row w = refl

-- rows take 24 bytes each
pub length_bytes : (ws : List Row) → length (kept_bytes ws) ≡ length ws * 24
unfolding kept_bytes
length_bytes [] = omega arith
length_bytes (w ∷ ws) = let e = length_bytes ws in omega (arith, e, length_row w, length-append (row_bytes w) (kept_bytes ws))

-- the bytes of rows and one more are those of the rows and then its own
pub bytes_more : (ws : List Row) (w : Row) → kept_bytes (ws ++ (w ∷ [])) ≡ kept_bytes ws ++ row_bytes w
unfolding kept_bytes
bytes_more [] w = append-nil (row_bytes w)
bytes_more (v ∷ ws) w = ap (λ (l : List ℕ). row_bytes v ++ l) (bytes_more ws w) ∙ sym (append_assoc (row_bytes v) (kept_bytes ws) (row_bytes w))

-- two runs of bytes, the second stored where the first ends, are one run
sets_more : (s : List ℕ) (p q : ℕ) (xs ys : List ℕ) → q ≡ p + length xs → sets (sets s p xs) q ys ≡ sets s p (xs ++ ys)
sets_more s p q [] ys e = ap (λ (z : ℕ). sets s z ys) (omega arith)
sets_more s p q (x ∷ xs) ys e = sets_more (set s p x) (suc p) q xs ys (omega arith)

-- a row's numbers stored one after the other are its bytes
pub row_stored : (s : List ℕ) (p : ℕ) (w : Row)
    → sets (sets (sets (sets (sets (sets s p (little_four w.id)) (p + 4) (little_four w.key_start)) (p + 8) (little_four w.key_end)) (p + 12) (little_four w.arg_start)) (p + 16) (little_four w.arg_end)) (p + 20) (little_four w.complex)
    ≡ sets s p (row_bytes w)
unfolding littles
row_stored s p w =
    let a = little_four w.id in
    let b = little_four w.key_start in
    let c = little_four w.key_end in
    let d = little_four w.arg_start in
    let e = little_four w.arg_end in
    let f = little_four w.complex in
    ap (λ (z : List ℕ). sets (sets (sets (sets z (p + 8) c) (p + 12) d) (p + 16) e) (p + 20) f) (sets_more s p (p + 4) a b (omega arith))
    ∙ ap (λ (z : List ℕ). sets (sets (sets z (p + 12) d) (p + 16) e) (p + 20) f) (sets_more s p (p + 8) (a ++ b) c (omega arith))
    ∙ ap (λ (z : List ℕ). sets (sets z (p + 16) e) (p + 20) f) (sets_more s p (p + 12) (a ++ b ++ c) d (omega arith))
    ∙ ap (λ (z : List ℕ). sets z (p + 20) f) (sets_more s p (p + 16) (a ++ b ++ c ++ d) e (omega arith))
    ∙ sets_more s p (p + 20) (a ++ b ++ c ++ d ++ e) f (omega arith)

-- one row more is written, behind the first k
pub put_more : (r : ℕ → Row) (old : List ℕ) (k : ℕ) → k * 24 + 24 ≤ length old
    → sets (bytes_after (first_rows r k) old) (k * 24) (row_bytes (r k)) ≡ bytes_after (first_rows r (k + 1)) old
put_more r old k h =
    let ws : List Row = first_rows r k in
    let l : length (kept_bytes ws) ≡ k * 24 = length_bytes ws ∙ ap (λ (z : ℕ). z * 24) (length_first r k) in
    let e : kept_bytes (first_rows r (k + 1)) ≡ kept_bytes ws ++ row_bytes (r k) = ap kept_bytes (first_rows_more r k) ∙ bytes_more ws (r k) in
    ap (λ (z : ℕ). sets (bytes_after ws old) z (row_bytes (r k))) (sym l)
    ∙ laid_on (kept_bytes ws) (row_bytes (r k)) old (omega (arith, h, l, length_row (r k)))
    ∙ ap (λ (z : List ℕ). z ++ drop (length z) old) (sym e)

-- before the first row is read nothing changes
pub no_row_laid : (r : ℕ → Row) (old : List ℕ) → old ≡ rows_laid (first_rows r 0) old
unfolding first_rows
no_row_laid r old = sym (nothing_laid six old)

-- one row more is read into the lent rows, behind the first k
pub get_more : (r : ℕ → Row) (old : List ℕ) (k : ℕ) → k < rows_fit (length old) → row_put (rows_laid (first_rows r k) old) k (r k) ≡ rows_laid (first_rows r (k + 1)) old
get_more r old k h =
    let ws : List Row = first_rows r k in
    let l : length ws ≡ k = length_first r k in
    ap (λ (z : ℕ). row_put (rows_laid ws old) z (r k)) (sym l)
    ∙ sym (rows_laid_more ws (r k) old (subst (λ (z : ℕ). z < rows_fit (length old)) (sym l) h))
    ∙ ap (λ (z : List Row). rows_laid z old) (sym (first_rows_more r k))

module _ (len : ℕ) (r : ℕ → Row) (m out n : ℕ) (e : n ≡ m) where
  -- writing: where a row is not fine the answer is 9
  pub keep_nine : fine_all len r n ≡ false → keep_of len r m out ≡ bad (refusal 9 0 0)
  keep_nine f = rw (sym e, f) refl

  -- writing: where all rows are fine and the room is too little the answer is 16
  pub keep_short : fine_all len r n ≡ true → out < n * 24 → keep_of len r m out ≡ bad (refusal 16 0 0)
  keep_short f h = rw (sym e, f, lt-ltb out (n * 24) h) refl

  -- writing: where all rows are fine and there is room they are kept
  pub keep_good : fine_all len r n ≡ true → n * 24 ≤ out → keep_of len r m out ≡ good n
  keep_good f h = rw (sym e, f, le-ltb out (n * 24) h) refl

module _ (len : ℕ) (bytes : List ℕ) (room : ℕ) where
  -- reading: where bytes are left over the answer is 9
  pub read_over : (length bytes % 24 ≡ 0 → ⊥) → read_of len bytes room ≡ bad (refusal 9 0 0)
  read_over h = rw (ne_eqb (length bytes % 24) 0 h) refl

  -- reading: where a row is not fine the answer is 9
  pub read_nine : length bytes % 24 ≡ 0 → fine_all len (kept_row_at bytes) (length bytes / 24) ≡ false → read_of len bytes room ≡ bad (refusal 9 0 0)
  read_nine h f = rw (eq-eqb (length bytes % 24) 0 h, f) refl

  -- reading: where all rows are fine and the room is too little the answer is 16
  pub read_short : length bytes % 24 ≡ 0 → fine_all len (kept_row_at bytes) (length bytes / 24) ≡ true → room < length bytes / 24 → read_of len bytes room ≡ bad (refusal 16 0 0)
  read_short h f l = rw (eq-eqb (length bytes % 24) 0 h, f, lt-ltb room (length bytes / 24) l) refl

  -- reading: where all rows are fine and there is room they are read
  pub read_good : length bytes % 24 ≡ 0 → fine_all len (kept_row_at bytes) (length bytes / 24) ≡ true → length bytes / 24 ≤ room → read_of len bytes room ≡ good (length bytes / 24)
  read_good h f l = rw (eq-eqb (length bytes % 24) 0 h, f, le-ltb room (length bytes / 24) l) refl
