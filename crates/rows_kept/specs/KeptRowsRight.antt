-- Writing rows and reading them back is the identity, and so is reading bytes and writing them again; and what a fine row is
-- without a loop. Assumes nothing.
use Rattle.std.specs.Prelude.{ℕ, zero, suc, ◌+◌, ◌*◌, ◌/◌, ◌%◌, ◌≤◌, ◌<◌, ◌≡◌, refl, Bool, true, false, ◌&&◌, List, [], ◌∷◌, ◌++◌, length, take, get_or}
use Rattle.std.proofs.Common.{sym, ◌∙◌, ap, ap₂, append_assoc, append-nil, arith, leb-true, le-leb, take_all, take-suc, get_or-append-add}
use Rattle.std.proofs.Math.Option.{some, some-injective}
use Rattle.std.proofs.Math.ListN.{get_elem?}
use Rattle.common.specs.Compare.{clash}
use Rattle.common.specs.Tests.{both}
use Rattle.error.specs.Refusal.{good}
use Rattle.statement.specs.Rows.{Row}
use Rattle.table.specs.Table.{row_numbers, six, rows_laid}
use Rattle.table.specs.Laws.{row_same}
use Rattle.table.specs.Laid.{row_is}
use Rattle.rows_kept.specs.KeptRows.{little, little_four, littles, row_bytes, kept_bytes, little_at, kept_row_at, first_rows, kept_rows_of, fine_row, fine_all, FineRow, keep_of, read_of}
use Rattle.rows_kept.specs.Laws.{fine_not, length_first, length_row, length_bytes, bytes_more, read_good, keep_good}

-- each number of a list is below a bound
abbrev pub Below : ℕ → List ℕ → Type 0
Below n [] = Unit {0}
Below n (x ∷ xs) = (x < n) × Below n xs

-- the numbers of each row have 32 bits
abbrev pub Small : List Row → Type 0
Small [] = Unit {0}
Small (w ∷ ws) = Below 4294967296 (six w) × Small ws

-- a number of 32 bits is the number of its four bytes
little_four_lem : (x : ℕ) → x < 4294967296 → little (x % 256) (x / 256 % 256) (x / 65536 % 256) (x / 16777216 % 256) ≡ x
little_four_lem x h = let e : x / 16777216 % 256 ≡ x / 16777216 = omega arith in omega (arith, e)

-- a byte at a place behind others is one of those that follow
behind : (xs ys : List ℕ) (p q : ℕ) → q ≡ length xs + p → get_or (xs ++ ys) q 0 ≡ get_or ys p 0
behind xs ys p q e = ap (λ (z : ℕ). get_or (xs ++ ys) z 0) e ∙ get_or-append-add xs ys p 0

-- a number at a place behind other bytes is one of those that follow
number_behind : (xs ys : List ℕ) (p q : ℕ) → q ≡ length xs + p → little_at (xs ++ ys) q ≡ little_at ys p
number_behind xs ys p q e =
    rw (behind xs ys p q e, behind xs ys (p + 1) (q + 1) (omega arith), behind xs ys (p + 2) (q + 2) (omega arith), behind xs ys (p + 3) (q + 3) (omega arith)) refl

-- row k of bytes is row k + 1 where a row stands before them
row_behind : (w : Row) (s : List ℕ) (k : ℕ) → kept_row_at (row_bytes w ++ s) (suc k) ≡ kept_row_at s k
row_behind w s k =
    let l = length_row w in
    row_same
    (number_behind (row_bytes w) s (k * 24) (suc k * 24) (omega (arith, l)))
    (number_behind (row_bytes w) s (k * 24 + 4) (suc k * 24 + 4) (omega (arith, l)))
    (number_behind (row_bytes w) s (k * 24 + 8) (suc k * 24 + 8) (omega (arith, l)))
    (number_behind (row_bytes w) s (k * 24 + 12) (suc k * 24 + 12) (omega (arith, l)))
    (number_behind (row_bytes w) s (k * 24 + 16) (suc k * 24 + 16) (omega (arith, l)))
    (number_behind (row_bytes w) s (k * 24 + 20) (suc k * 24 + 20) (omega (arith, l)))

-- the first row of bytes that begin with a row is that row
row_front : (w : Row) (s : List ℕ) → Below 4294967296 (six w) → kept_row_at (row_bytes w ++ s) 0 ≡ w
unfolding littles
row_front w s h =
    row_same
    (little_four_lem w.id h.0)
    (little_four_lem w.key_start h.1.0)
    (little_four_lem w.key_end h.1.1.0)
    (little_four_lem w.arg_start h.1.1.1.0)
    (little_four_lem w.arg_end h.1.1.1.1.0)
    (little_four_lem w.complex h.1.1.1.1.1.0)

-- the first n + 1 rows are row 0 and then the others
first_cons : (r : ℕ → Row) (n : ℕ) → first_rows r (suc n) ≡ r 0 ∷ first_rows (λ k. r (suc k)) n
unfolding first_rows
first_cons r zero = refl
first_cons r (suc n) = ap (λ (l : List Row). l ++ (r (suc n) ∷ [])) (first_cons r n)

-- two ways to number rows that agree on the first n have the same first n
first_same : (r q : ℕ → Row) (n : ℕ) → ((k : ℕ) → k < n → r k ≡ q k) → first_rows r n ≡ first_rows q n
unfolding first_rows
first_same r q zero h = refl
first_same r q (suc n) h = ap₂ (λ (l : List Row) (w : Row). l ++ (w ∷ [])) (first_same r q n (λ k l. h k (omega arith))) (h n (omega arith))

-- each row, written as bytes, is read back
each_back : (ws : List Row) → Small ws → first_rows (kept_row_at (kept_bytes ws)) (length ws) ≡ ws
unfolding first_rows kept_bytes
each_back [] h = refl
each_back (w ∷ ws) h =
    first_cons (kept_row_at (row_bytes w ++ kept_bytes ws)) (length ws)
    ∙ ap₂ (λ (v : Row) (l : List Row). v ∷ l) (row_front w (kept_bytes ws) h.0)
    (first_same (λ k. kept_row_at (row_bytes w ++ kept_bytes ws) (suc k)) (kept_row_at (kept_bytes ws)) (length ws) (λ k l. row_behind w (kept_bytes ws) k) ∙ each_back ws h.1)

-- rows written as bytes and read back are the same rows
pub numbers_back : (ws : List Row) → Small ws → kept_rows_of (kept_bytes ws) ≡ ws
numbers_back ws h = let l = length_bytes ws in ap (first_rows (kept_row_at (kept_bytes ws))) (omega (arith, l)) ∙ each_back ws h

-- the first byte of a number of four bytes
byte_0 : (a b c d : ℕ) → a < 256 → little a b c d % 256 ≡ a
byte_0 a b c d h = omega arith

byte_1 : (a b c d : ℕ) → a < 256 → b < 256 → little a b c d / 256 % 256 ≡ b
byte_1 a b c d h g = omega arith

byte_2 : (a b c d : ℕ) → a < 256 → b < 256 → c < 256 → little a b c d / 65536 % 256 ≡ c
byte_2 a b c d h g k = omega arith

byte_3 : (a b c d : ℕ) → a < 256 → b < 256 → c < 256 → d < 256 → little a b c d / 16777216 % 256 ≡ d
byte_3 a b c d h g k l = omega arith

-- each byte of a list is below 256, and so is the 0 past its end
below_at : (s : List ℕ) → Below 256 s → (i : ℕ) → get_or s i 0 < 256
below_at [] h i = omega arith
below_at (x ∷ xs) h zero = h.0
below_at (x ∷ xs) h (suc i) = below_at xs h.1 i

-- the first bytes of a list, and the next one
take_more : (s : List ℕ) (p q : ℕ) (l : List ℕ) → p < length s → suc p ≡ q → take p s ++ (get_or s p 0 ∷ l) ≡ take q s ++ l
take_more s p q l h e =
    sym (append_assoc (take p s) (get_or s p 0 ∷ []) l) ∙ ap (λ (z : List ℕ). z ++ l) (sym (take-suc s p 0 h) ∙ ap (λ (z : ℕ). take z s) e)

-- the four bytes of a number that was read, behind the bytes before it, are the list's own
number_more : (s : List ℕ) → Below 256 s → (p q : ℕ) (l : List ℕ) → p + 4 ≤ length s → p + 4 ≡ q → take p s ++ (little_four (little_at s p) ++ l) ≡ take q s ++ l
number_more s w p q l h e =
    let b = below_at s w in
    let j = b p in
    let k = b (p + 1) in
    let m = b (p + 2) in
    let n = b (p + 3) in
    rw (byte_0 _ _ _ _ j, byte_1 _ _ _ _ j k, byte_2 _ _ _ _ j k m, byte_3 _ _ _ _ j k m n)
    (take_more s p (p + 1) _ (omega arith) (omega arith)
    ∙ take_more s (p + 1) (p + 2) _ (omega arith) (omega arith)
    ∙ take_more s (p + 2) (p + 3) _ (omega arith) (omega arith)
    ∙ take_more s (p + 3) q _ (omega arith) (omega arith))

-- the 24 bytes of a row that was read, behind the bytes before it, are the list's own
row_more : (s : List ℕ) → Below 256 s → (k : ℕ) → k * 24 + 24 ≤ length s → take (k * 24) s ++ row_bytes (kept_row_at s k) ≡ take (suc k * 24) s
unfolding littles
row_more s w k h =
    number_more s w (k * 24) (k * 24 + 4) _ (omega arith) (omega arith)
    ∙ number_more s w (k * 24 + 4) (k * 24 + 8) _ (omega arith) (omega arith)
    ∙ number_more s w (k * 24 + 8) (k * 24 + 12) _ (omega arith) (omega arith)
    ∙ number_more s w (k * 24 + 12) (k * 24 + 16) _ (omega arith) (omega arith)
    ∙ number_more s w (k * 24 + 16) (k * 24 + 20) _ (omega arith) (omega arith)
    ∙ number_more s w (k * 24 + 20) (suc k * 24) _ (omega arith) (omega arith)
    ∙ append-nil (take (suc k * 24) s)

-- the bytes of the first n rows that were read are the list's first
front_back : (s : List ℕ) → Below 256 s → (n : ℕ) → n * 24 ≤ length s → kept_bytes (first_rows (kept_row_at s) n) ≡ take (n * 24) s
unfolding first_rows kept_bytes
front_back s w zero h = refl
front_back s w (suc n) h =
    bytes_more (first_rows (kept_row_at s) n) (kept_row_at s n)
    ∙ ap (λ (l : List ℕ). l ++ row_bytes (kept_row_at s n)) (front_back s w n (omega arith))
    ∙ row_more s w n (omega arith)

-- bytes read as rows and written again are the same bytes, where none is left over
pub bytes_back : (s : List ℕ) → Below 256 s → length s % 24 ≡ 0 → kept_bytes (kept_rows_of s) ≡ s
bytes_back s w e = front_back s w (length s / 24) (omega arith) ∙ take_all (length s / 24 * 24) s (omega arith)

-- a row that is fine by the test is fine by the rule
pub fine_is : (len : ℕ) (w : Row) → fine_row len w ≡ true → FineRow len w
fine_is len w e =
    let (r, m) = both _ _ e in
    let (q, d) = both _ _ r in
    let (p, c) = both _ _ q in
    let (a, b) = both _ _ p in
    record { key = leb-true _ _ a; key_in = leb-true _ _ b; args = leb-true _ _ c; args_in = leb-true _ _ d; mark = leb-true _ _ m }

-- a row that is fine by the rule is so by the test
pub fine_only : (len : ℕ) (w : Row) → FineRow len w → fine_row len w ≡ true
fine_only len w f = rw (le-leb _ _ f.key, le-leb _ _ f.key_in, le-leb _ _ f.args, le-leb _ _ f.args_in, le-leb _ _ f.mark) refl

-- where n rows are fine by the test, each is fine by the rule
pub fine_each : (len : ℕ) (r : ℕ → Row) (n : ℕ) → fine_all len r n ≡ true → (k : ℕ) → k < n → FineRow len (r k)
fine_each len r n e k h = go (fine_row len (r k)) refl
  where
    go : (t : Bool) → fine_row len (r k) ≡ t → FineRow len (r k)
    go true f = fine_is len (r k) f
    go false f = clash (let z : true ≡ false = sym e ∙ fine_not len r k n h f in cc)

-- where each of n rows is fine by the rule, they are fine by the test
pub fine_every : (len : ℕ) (r : ℕ → Row) (n : ℕ) → ((k : ℕ) → k < n → FineRow len (r k)) → fine_all len r n ≡ true
unfolding fine_all
fine_every len r zero h = refl
fine_every len r (suc n) h = rw (fine_every len r n (λ k l. h k (omega arith)), fine_only len (r n) (h n (omega arith))) refl

-- two ways to number rows that agree on the first n are fine alike
same_fine : (len : ℕ) (r q : ℕ → Row) (n : ℕ) → ((k : ℕ) → k < n → r k ≡ q k) → fine_all len r n ≡ fine_all len q n
unfolding fine_all
same_fine len r q zero h = refl
same_fine len r q (suc n) h = ap₂ ◌&&◌ (same_fine len r q n (λ k l. h k (omega arith))) (ap (fine_row len) (h n (omega arith)))

-- row k of the first n is row k
first_at : (r : ℕ → Row) (n k : ℕ) → k < n → get_elem? (first_rows r n) k ≡ some (r k)
first_at r zero k h = absurd (omega arith)
first_at r (suc n) zero h = ap (λ (l : List Row). get_elem? l 0) (first_cons r n)
first_at r (suc n) (suc k) h = ap (λ (l : List Row). get_elem? l (suc k)) (first_cons r n) ∙ first_at (λ j. r (suc j)) n k (omega arith)

-- where two ways to number rows have the same first n, they agree on each of these
first_each : (r q : ℕ → Row) (n : ℕ) → first_rows r n ≡ first_rows q n → (k : ℕ) → k < n → r k ≡ q k
first_each r q n e k h = some-injective _ _ (sym (first_at r n k h) ∙ ap (λ (l : List Row). get_elem? l k) e ∙ first_at q n k h)

-- rows that were put into lent rows are had back by their numbers
laid_first : (r : ℕ → Row) (n : ℕ) (old : List ℕ) (k : ℕ) → k < n → row_numbers (rows_laid (first_rows r n) old) k ≡ r k
laid_first r n old k h =
    let l = length_first r n in
    some-injective _ _ (sym (row_is (first_rows r n) old k (omega (arith, l))) ∙ first_at r n k h)

-- the bytes that are written for rows are read back as these rows
pub kept_back : (len : ℕ) (r : ℕ → Row) (n room : ℕ) → Small (first_rows r n) → fine_all len r n ≡ true → n ≤ room
    → (read_of len (kept_bytes (first_rows r n)) room ≡ good n) × (kept_rows_of (kept_bytes (first_rows r n)) ≡ first_rows r n)
kept_back len r n room w f h =
    let s : List ℕ = kept_bytes (first_rows r n) in
    let b : length s ≡ n * 24 = length_bytes (first_rows r n) ∙ ap (λ (z : ℕ). z * 24) (length_first r n) in
    let d : length s / 24 ≡ n = omega arith in
    let e : kept_rows_of s ≡ first_rows r n = numbers_back (first_rows r n) w in
    let i : first_rows (kept_row_at s) n ≡ first_rows r n = ap (first_rows (kept_row_at s)) (sym d) ∙ e in
    let g : fine_all len (kept_row_at s) (length s / 24) ≡ true = ap (fine_all len (kept_row_at s)) d ∙ same_fine len (kept_row_at s) r n (first_each (kept_row_at s) r n i) ∙ f in
    (read_good len s room (omega arith) g (omega arith) ∙ ap good d, e)

-- bytes that read, written again from the lent rows into which they were read, are the same bytes
pub read_back : (len : ℕ) (s old : List ℕ) (out : ℕ) → Below 256 s → length s % 24 ≡ 0 → fine_all len (kept_row_at s) (length s / 24) ≡ true → length s ≤ out
    → (keep_of len (row_numbers (rows_laid (kept_rows_of s) old)) (length s / 24) out ≡ good (length s / 24))
    × (kept_bytes (first_rows (row_numbers (rows_laid (kept_rows_of s) old)) (length s / 24)) ≡ s)
read_back len s old out w h f l =
    let n : ℕ = length s / 24 in
    let q : ℕ → Row = row_numbers (rows_laid (kept_rows_of s) old) in
    let e : (k : ℕ) → k < n → q k ≡ kept_row_at s k = laid_first (kept_row_at s) n old in (
      keep_good len q n out n refl (same_fine len q (kept_row_at s) n e ∙ f) (omega arith),
      ap kept_bytes (first_same q (kept_row_at s) n e) ∙ bytes_back s w h,
    )
