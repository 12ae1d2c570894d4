-- Laws of rows in lent memory: a row that the memory has, and one that it has not.
-- Assumes nothing.
use Rattle.std.specs.Prelude.{ℕ, suc, ◌+◌, ◌*◌, ◌/◌, ◌≤◌, ◌<◌, ◌≡◌, refl, Bool, true, false, List, ltb, length, get_or}
use Rattle.std.proofs.Common.{ap, arith, suc-mul, le-div_iff_mul-le, div-lt_iff_lt-mul, zero-lt-suc, ltb-true, ltb-false, lt-ltb, le-ltb}
use Rattle.std.proofs.lemmas.List.Edits.{sets}
use Rattle.std.proofs.Math.Seq.{length-sets}
use Rattle.common.specs.Pick.{pick}
use Rattle.statement.specs.Rows.{Row, row, HeaderRow, header_row}
use Rattle.table.specs.Table.{field, row_put_at, narrow, narrow_row, narrow_header}

-- a row of w + 1 numbers has its last number in the memory just where the memory has the row
pub last_test : (w n k : ℕ) → ltb (k * suc w + w) n ≡ ltb k (n / suc w)
last_test w n k = go (ltb k (n / suc w)) refl
  where
    go : (t : Bool) → ltb k (n / suc w) ≡ t → ltb (k * suc w + w) n ≡ t
    go true e = let h = ltb-true k (n / suc w) e in
        lt-ltb (k * suc w + w) n (omega (arith, (le-div_iff_mul-le {x = suc k} {y = n} (zero-lt-suc w)).0 (omega arith), suc-mul k (suc w)))
    go false e = let h = ltb-false k (n / suc w) e in
        le-ltb (k * suc w + w) n (omega (arith, (div-lt_iff_lt-mul {x = n} {y = suc k} (zero-lt-suc w)).0 (omega arith), suc-mul k (suc w)))

module _ (w : ℕ) (xs : List ℕ) (k : ℕ) where
  -- a number of a row that the memory has is the one at its place
  pub field_there : k < length xs / w → (i : ℕ) → field w xs k i ≡ get_or xs (k * w + i) 0
  field_there h i = ap (λ (t : Bool). pick t (get_or xs (k * w + i) 0) 0) (lt-ltb k (length xs / w) h)

  -- a number of a row that the memory has not is 0
  pub field_none : length xs / w ≤ k → (i : ℕ) → field w xs k i ≡ 0
  field_none h i = ap (λ (t : Bool). pick t (get_or xs (k * w + i) 0) 0) (le-ltb k (length xs / w) h)

  -- a number of a row is below a bound that all numbers of the memory are below
  pub field_below : (n : ℕ) → 0 < n → ((j : ℕ) → get_or xs j 0 < n) → (i : ℕ) → field w xs k i < n
  field_below n z h i = go (ltb k (length xs / w))
    where
      go : (t : Bool) → pick t (get_or xs (k * w + i) 0) 0 < n
      go true = h (k * w + i)
      go false = z

  -- a row that the memory has is put at its place
  pub put_there : k < length xs / w → (new : List ℕ) → row_put_at w xs k new ≡ sets xs (k * w) new
  put_there h new = ap (λ (t : Bool). pick t (sets xs (k * w) new) xs) (lt-ltb k (length xs / w) h)

  -- a row that is put changes no length
  pub put_length : (new : List ℕ) → length (row_put_at w xs k new) ≡ length xs
  put_length new = go (ltb k (length xs / w))
    where
      go : (t : Bool) → length (pick t (sets xs (k * w) new) xs) ≡ length xs
      go true = length-sets xs (k * w) new
      go false = refl

-- the keyword and the arguments of which the four numbers from a place on tell
abbrev pub spans_at : List ℕ → ℕ → HeaderRow
spans_at xs at = header_row (get_or xs at 0) (get_or xs (at + 1) 0) (get_or xs (at + 2) 0) (get_or xs (at + 3) 0)

-- data rows with the same numbers are the same
pub row_same : {a b c d e f a' b' c' d' e' f' : ℕ} → a ≡ a' → b ≡ b' → c ≡ c' → d ≡ d' → e ≡ e' → f ≡ f' → row a b c d e f ≡ row a' b' c' d' e' f'
row_same p q r s t u = λ i. record { id = p i; key_start = q i; key_end = r i; arg_start = s i; arg_end = t i; complex = u i }

-- header rows with the same numbers are the same
pub header_same : {a b c d a' b' c' d' : ℕ} → a ≡ a' → b ≡ b' → c ≡ c' → d ≡ d' → header_row a b c d ≡ header_row a' b' c' d'
header_same p q r s = λ i. record { key_start = p i; key_end = q i; arg_start = r i; arg_end = s i }

-- a place that has 32 bits is itself as a number of 32 bits
narrow_small : (p : ℕ) → p ≤ 4294967295 → narrow p ≡ p
narrow_small p h = omega arith

-- a data row whose places have 32 bits is put as it is
pub narrow_row_lem : (w : Row) → w.key_start ≤ 4294967295 → w.key_end ≤ 4294967295 → w.arg_start ≤ 4294967295 → w.arg_end ≤ 4294967295 → narrow_row w ≡ w
narrow_row_lem w a b c d = row_same refl (narrow_small _ a) (narrow_small _ b) (narrow_small _ c) (narrow_small _ d) refl

-- a header row whose places have 32 bits is put as it is
pub narrow_header_lem : (w : HeaderRow) → w.key_start ≤ 4294967295 → w.key_end ≤ 4294967295 → w.arg_start ≤ 4294967295 → w.arg_end ≤ 4294967295 → narrow_header w ≡ w
narrow_header_lem w a b c d = header_same (narrow_small _ a) (narrow_small _ b) (narrow_small _ c) (narrow_small _ d)
