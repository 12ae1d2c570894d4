-- Laws for the code: each way out of the search, by what was found so far; and that a search over the number columns of the same records
-- finds the same.
-- Assumes nothing.
use Rattle.std.specs.Prelude.{ℕ, zero, suc, ◌+◌, ◌-◌, ◌≤◌, ◌<◌, ◌≡◌, refl, Bool, true, false, List, [], ◌∷◌, map, length, Option, Some, None}
use Rattle.std.proofs.Common.{arith, sym, ◌∙◌, ap}
use Rattle.std.proofs.Math.ListN.{get_elem?}
use Rattle.std.proofs.Math.Option as maybe
use Rattle.std.proofs.lemmas.List.{length-map}
use Rattle.statement.specs.declared.HeaderSpan.{HeaderSpan}
use Rattle.statement.specs.Rows.{header_row_of}
use Rattle.table.specs.Table.{header_rows, header_numbers, headers_laid}
use Rattle.table.specs.Laid.{headers_laid_in, header_is}
use Rattle.common.specs.Pick.{pick}
use Rattle.lookup.specs.First.{first_from}
use Rattle.lookup.specs.Laws.{first_stops, first_goes, first_ends}
use Rattle.headers.specs.Header.{header_named, is_header, header_first, header_found}
use Rattle.header_structs.specs.Heads.{head_at}

module _ (s name : List ℕ) (hs : List HeaderSpan) where
  -- none of the records before i has the keyword: what is sought is the first from i on
  abbrev pub NoneBefore : ℕ → Type 0
  NoneBefore i = first_from (is_header s (head_at hs) name) (length hs - i) i ≡ header_first s (head_at hs) (length hs) name

  -- whether record i has the keyword sought
  abbrev pub HasKeyword : ℕ → Bool
  HasKeyword i = header_named s name (head_at hs i)

  -- where the search begins, the first record from 0 on is sought
  pub begins : NoneBefore 0
  begins = let z : length hs - 0 ≡ length hs = omega arith in ap (λ (m : ℕ). first_from (is_header s (head_at hs) name) m 0) z

  -- where record i has the keyword sought, it is the first that has
  pub header_stops : (i : ℕ) → i < length hs → NoneBefore i → HasKeyword i ≡ true → Some i ≡ header_first s (head_at hs) (length hs) name
  header_stops i l e t = sym (first_stops (is_header s (head_at hs) name) (length hs) i l t) ∙ e

  -- where record i has not the keyword sought, the first from the next on is sought
  pub goes : (i : ℕ) → i < length hs → NoneBefore i → HasKeyword i ≡ false → NoneBefore (i + 1)
  goes i l e f = sym (first_goes (is_header s (head_at hs) name) (length hs) i l f) ∙ e

  -- where no record is left, none has the keyword sought
  pub no_header_left : (i : ℕ) → length hs ≤ i → NoneBefore i → None ≡ header_first s (head_at hs) (length hs) name
  no_header_left i l e = sym (first_ends (is_header s (head_at hs) name) (length hs) i l) ∙ e

-- tests that agree on the rows in question find the same first row
first_same : (p q : ℕ → Bool) (n i : ℕ) → ((j : ℕ) → j < i + n → p j ≡ q j) → first_from p n i ≡ first_from q n i
unfolding first_from
first_same p q zero i h = refl
first_same p q (suc n) i h =
    ap (λ (t : Bool). pick t (Some i) (first_from p n (suc i))) (h i (omega arith))
    ∙ ap (λ (o : Option ℕ). pick (q i) (Some i) o) (first_same p q n (suc i) (λ j l. h j (omega arith)))

-- row i of the rows of records is the row of record i
elem_row : (hs : List HeaderSpan) (i : ℕ) → i < length hs → get_elem? (map header_row_of hs) i ≡ maybe.some (head_at hs i)
elem_row [] i l = absurd (omega arith)
elem_row (w ∷ hs) zero l = refl
elem_row (w ∷ hs) (suc i) l = elem_row hs i (omega arith)

module _ (hs : List HeaderSpan) where
  -- the number columns that hold these records
  abbrev columns : List ℕ
  columns = headers_laid (map header_row_of hs) []

  -- row i of the columns is record i
  pub column_is : (i : ℕ) → i < length hs → header_numbers columns i ≡ head_at hs i
  column_is i l =
      let n : length (map header_row_of hs) ≡ length hs = length-map hs header_row_of in
      let e : maybe.some (header_numbers columns i) ≡ maybe.some (head_at hs i) = sym (header_is (map header_row_of hs) [] i (omega (arith, n))) ∙ elem_row hs i l in cc

  -- "the same search over number columns": it finds the same record
  pub columns_same : (s name : List ℕ) → header_found s columns (length hs) name ≡ header_first s (head_at hs) (length hs) name
  columns_same s name =
      let n : length (map header_row_of hs) ≡ length hs = length-map hs header_row_of in
      let e : header_rows columns (length hs) ≡ length hs = omega (arith, n, headers_laid_in (map header_row_of hs) []) in
      ap (λ (m : ℕ). header_first s (header_numbers columns) m name) e
      ∙ first_same (is_header s (header_numbers columns) name) (is_header s (head_at hs) name) (length hs) 0 (λ j l. ap (header_named s name) (column_is j (omega arith)))
