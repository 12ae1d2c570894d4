-- Rows laid in lent memory: what each row then is, how long the memory is, and one row more. Once for every width.
-- Assumes nothing.
use Prim.Native.Nat.{ℕ, zero, suc, ◌+◌, ◌*◌, ◌/◌, ◌≤◌, ◌<◌}
use Rattle.std.specs.Prelude.{◌≡◌, refl, drop}
use Rattle.std.proofs.Common.{sym, ◌∙◌, zero-mul, le-div_iff_mul-le, length-drop, drop-drop}
use Rattle.std.proofs.Math.Path.{ap}
use mathlib.Core.List.{List, [], ◌∷◌, ◌++◌, append_assoc, append-nil}
use Rattle.std.proofs.Math.Option.{some}
use native.Mathlib.Omega.{arith}
use Rattle.std.proofs.Math.Nat.{suc-mul, zero-add}
use Rattle.std.proofs.Math.ListN.{length, get_or, get_elem?, length-append, get_or-append}
use Rattle.std.proofs.lemmas.List.Edits.{sets, sets-eq}
use Rattle.std.proofs.Math.Seq.{get_or-append-add, take-append_seam, drop-append-add}
use Rattle.common.specs.Compare.{clash}
use Rattle.statement.specs.Rows.{Row, HeaderRow}
use Rattle.table.specs.Table.{rows_fit, headers_fit, field, row_numbers, header_numbers, six, header_row_numbers, rows_flat, laid, rows_laid, headers_laid, row_put_at, row_put, header_put}
use Rattle.table.specs.Laws.{field_there, put_there, row_same, header_same}

-- the numbers of rows with one row more are those of the rows and then those of that row
flat_more : {A : Type 0} (f : A → List ℕ) (ws : List A) (w : A) → rows_flat f (ws ++ (w ∷ [])) ≡ rows_flat f ws ++ f w
unfolding rows_flat
flat_more f [] w = append-nil (f w)
flat_more f (v ∷ ws) w = ap (λ (l : List ℕ). f v ++ l) (flat_more f ws w) ∙ sym (append_assoc (f v) (rows_flat f ws) (f w))

-- a number below the number of rows is that of one of them
there : {A : Type 0} (ws : List A) (r : ℕ) → r < length ws → (w : A) × (get_elem? ws r ≡ some w)
there [] r h = absurd (omega arith)
there (w ∷ ws) zero h = (w, refl)
there (w ∷ ws) (suc r) h = there ws r (omega arith)

-- numbers that are stored behind those at the front of the memory stand there with them
pub laid_on : (front new old : List ℕ) → length front + length new ≤ length old → sets (laid front old) (length front) new ≡ laid (front ++ new) old
laid_on front new old h =
    let rest : List ℕ = drop (length front) old in
    let m : length front + length new ≤ length (front ++ rest) = omega (arith, h, length-append front rest, length-drop (length front) old) in
    let d : drop (length new) rest ≡ drop (length (front ++ new)) old =
    drop-drop (length new) (length front) old ∙ ap (λ (j : ℕ). drop j old) (sym (length-append front new)) in
    sets-eq new (front ++ rest) (length front) m ∙ rw (take-append_seam front rest, drop-append-add front rest (length new), d) refl

-- rows of n numbers each, one number at least
module _ {A : Type 0} (n : ℕ) (f : A → List ℕ) (e : (w : A) → length (f w) ≡ n) (z : 0 < n) where
  -- the numbers of rows of n numbers each are n times as many as the rows
  flat_length : (ws : List A) → length (rows_flat f ws) ≡ length ws * n
  unfolding rows_flat
  flat_length [] = omega arith
  flat_length (w ∷ ws) =
      let m : suc (length ws) * n ≡ length ws * n + n = suc-mul (length ws) n in
      let ih = flat_length ws in
      omega (arith, length-append (f w) (rows_flat f ws), e w)

  -- the memory is as long as before rows were laid, where they fit
  pub laid_length : (ws : List A) (old : List ℕ) → length ws ≤ length old / n → length (laid (rows_flat f ws) old) ≡ length old
  laid_length ws old h =
      let k = flat_length ws in
      omega (arith, (le-div_iff_mul-le {x = length ws} {y = length old} z).0 h, length-append (rows_flat f ws) (drop (length (rows_flat f ws)) old), length-drop (length (rows_flat f ws)) old)

  -- the memory in which rows were laid has at least so many rows, whether or not they fit
  pub laid_in : (ws : List A) (old : List ℕ) → length ws ≤ length (laid (rows_flat f ws) old) / n
  laid_in ws old =
      let k = flat_length ws in
      (le-div_iff_mul-le {x = length ws} {y = length (laid (rows_flat f ws) old)} z).1 (omega (arith, length-append (rows_flat f ws) (drop (length (rows_flat f ws)) old)))

  -- the numbers of one row more are stored after those of the rows before
  pub laid_more : (ws : List A) (w : A) (old : List ℕ) → length ws < length old / n → laid (rows_flat f (ws ++ (w ∷ []))) old ≡ row_put_at n (laid (rows_flat f ws) old) (length ws) (f w)
  laid_more ws w old h =
      let l = rows_flat f ws in
      let k : length l ≡ length ws * n = flat_length ws in
      let o : length (laid l old) ≡ length old = laid_length ws old (omega arith) in
      let m : length l + length (f w) ≤ length old = omega (arith, e w, suc-mul (length ws) n, (le-div_iff_mul-le {x = suc (length ws)} {y = length old} z).0 (omega arith)) in
      rw (flat_more f ws w, put_there n (laid l old) (length ws) (rw o h) (f w), ← k) (sym (laid_on l (f w) old m))

  -- number i of row r stands at its place, whatever follows the rows
  flat_at : (ws : List A) (rest : List ℕ) (r : ℕ) (w : A) → get_elem? ws r ≡ some w → (i : ℕ) → i < n → get_or (rows_flat f ws ++ rest) (r * n + i) 0 ≡ get_or (f w) i 0
  unfolding rows_flat
  flat_at [] rest r w g i h = clash cc
  flat_at (v ∷ ws) rest zero w g i h =
      let q : v ≡ w = cc in
      let y : 0 * n + i ≡ i = ap (λ (m : ℕ). m + i) (zero-mul n) ∙ zero-add i in
      ap (λ (l : List ℕ). get_or l (0 * n + i) 0) (append_assoc (f v) (rows_flat f ws) rest)
      ∙ ap (λ (j : ℕ). get_or (f v ++ (rows_flat f ws ++ rest)) j 0) y
      ∙ get_or-append (f v) (rows_flat f ws ++ rest) 0 i (omega (arith, e v, h))
      ∙ ap (λ (u : _). get_or (f u) i 0) q
  flat_at (v ∷ ws) rest (suc r) w g i h =
      let m : suc r * n ≡ r * n + n = suc-mul r n in
      let y : suc r * n + i ≡ length (f v) + (r * n + i) = omega (arith, m, e v) in
      ap (λ (l : List ℕ). get_or l (suc r * n + i) 0) (append_assoc (f v) (rows_flat f ws) rest)
      ∙ ap (λ (j : ℕ). get_or (f v ++ (rows_flat f ws ++ rest)) j 0) y
      ∙ get_or-append-add (f v) (rows_flat f ws ++ rest) (r * n + i) 0
      ∙ flat_at ws rest r w g i h

  -- row r of the memory has the numbers of the row that was laid as the r-th
  laid_at : (ws : List A) (old : List ℕ) (r : ℕ) → r < length ws → (w : A) × (get_elem? ws r ≡ some w) × ((i : ℕ) → i < n → field n (laid (rows_flat f ws) old) r i ≡ get_or (f w) i 0)
  laid_at ws old r h =
      let (w, g) = there ws r h in
      let k : r < length (laid (rows_flat f ws) old) / n = omega (arith, laid_in ws old) in
      (w, g, λ i l. field_there n (laid (rows_flat f ws) old) r k i ∙ flat_at ws (drop (length (rows_flat f ws)) old) r w g i l)

-- no row is laid, and nothing changes
pub nothing_laid : {A : Type 0} (f : A → List ℕ) (old : List ℕ) → laid (rows_flat f []) old ≡ old
unfolding rows_flat
nothing_laid f old = refl

-- "A row holds id, keyword start and end [..]": row r of the memory is the row that was laid as the r-th
pub row_is : (ws : List Row) (old : List ℕ) (r : ℕ) → r < length ws → get_elem? ws r ≡ some (row_numbers (rows_laid ws old) r)
row_is ws old r h =
    let (w, g, on) = laid_at 6 six (λ v. refl) (omega arith) ws old r h in
    g ∙ ap some (sym (row_same (on 0 (omega arith)) (on 1 (omega arith)) (on 2 (omega arith)) (on 3 (omega arith)) (on 4 (omega arith)) (on 5 (omega arith))))

-- header row r of the memory is the header row that was laid as the r-th
pub header_is : (ws : List HeaderRow) (old : List ℕ) (r : ℕ) → r < length ws → get_elem? ws r ≡ some (header_numbers (headers_laid ws old) r)
header_is ws old r h =
    let (w, g, on) = laid_at 4 header_row_numbers (λ v. refl) (omega arith) ws old r h in
    g ∙ ap some (sym (header_same (on 0 (omega arith)) (on 1 (omega arith)) (on 2 (omega arith)) (on 3 (omega arith))))

-- the memory keeps its length where data rows are laid that fit
pub rows_laid_length : (ws : List Row) (old : List ℕ) → length ws ≤ rows_fit (length old) → length (rows_laid ws old) ≡ length old
rows_laid_length = laid_length 6 six (λ v. refl) (omega arith)

-- the memory keeps its length where header rows are laid that fit
pub headers_laid_length : (ws : List HeaderRow) (old : List ℕ) → length ws ≤ headers_fit (length old) → length (headers_laid ws old) ≡ length old
headers_laid_length = laid_length 4 header_row_numbers (λ v. refl) (omega arith)

-- after data rows were laid, whether or not they fit, the memory has so many data rows
pub rows_laid_in : (ws : List Row) (old : List ℕ) → length ws ≤ rows_fit (length (rows_laid ws old))
rows_laid_in = laid_in 6 six (λ v. refl) (omega arith)

-- after header rows were laid, whether or not they fit, the memory has so many header rows
pub headers_laid_in : (ws : List HeaderRow) (old : List ℕ) → length ws ≤ headers_fit (length (headers_laid ws old))
headers_laid_in = laid_in 4 header_row_numbers (λ v. refl) (omega arith)

-- one data row more is put behind those that were laid
pub rows_laid_more : (ws : List Row) (w : Row) (old : List ℕ) → length ws < rows_fit (length old) → rows_laid (ws ++ (w ∷ [])) old ≡ row_put (rows_laid ws old) (length ws) w
rows_laid_more = laid_more 6 six (λ v. refl) (omega arith)

-- one header row more is put behind those that were laid
pub headers_laid_more : (ws : List HeaderRow) (w : HeaderRow) (old : List ℕ) → length ws < headers_fit (length old) → headers_laid (ws ++ (w ∷ [])) old ≡ header_put (headers_laid ws old) (length ws) w
headers_laid_more = laid_more 4 header_row_numbers (λ v. refl) (omega arith)
