-- Laws of sweeps over a part of two lists: what holds up to a place holds one further, where it holds there.
-- Assumes nothing.
use Rattle.std.specs.Prelude.{ℕ, ◌+◌, ◌*◌, ◌≤◌, ◌<◌, ◌≡◌, List, ◌⊎◌, length, get_or}
use Rattle.std.proofs.Common.{sym, ◌∙◌, ap, subst, inl, inr, arith}
use Rattle.common.specs.Compare.{less_or}
use Rattle.table.specs.Table.{rows_fit, id_of, AllIds, AllBelow}
use Rattle.table.specs.Laws.{field_there}

-- where the numbers of a part are below a bound, and the next one below one that is no lower, all are below the latter
pub below_next : (n m : ℕ) (found : List ℕ) (from at : ℕ) → AllBelow n found from at → n ≤ m → get_or found at 0 < m → AllBelow m found from (at + 1)
below_next n m found from at h o e i a l = go (less_or i at)
  where
    go : (i < at) ⊎ (at ≤ i) → get_or found i 0 < m
    go (inl u) = let q = h i a u in omega (arith, q, o)
    go (inr u) = let p : at ≡ i = omega arith in subst (λ (z : ℕ). get_or found z 0 < m) p e

-- where the rows told for a part have their ids, and the next row has its own, all have
pub ids_next : (rows ids found : List ℕ) (from at : ℕ) → AllIds rows ids found from at → id_of rows (get_or found at 0) ≡ get_or ids at 0 → AllIds rows ids found from (at + 1)
ids_next rows ids found from at h e i a l = go (less_or i at)
  where
    go : (i < at) ⊎ (at ≤ i) → id_of rows (get_or found i 0) ≡ get_or ids i 0
    go (inl u) = h i a u
    go (inr u) = let p : at ≡ i = omega arith in subst (λ (z : ℕ). id_of rows (get_or found z 0) ≡ get_or ids z 0) p e

-- the id of a row that the table has is the first number of that row
pub id_there : (rows : List ℕ) (r : ℕ) → r < rows_fit (length rows) → get_or rows (r * 6) 0 ≡ id_of rows r
id_there rows r h = let e : r * 6 + 0 ≡ r * 6 = omega arith in sym (field_there 6 rows r h 0 ∙ ap (λ (j : ℕ). get_or rows j 0) e)
