-- "that two allowed answers coincide is proved": what is told of many ids is one list.
-- Assumes nothing.
use Rattle.std.specs.Prelude.{ℕ, ◌≡◌, refl, Bool, true, false, List, ltb, length, get_or}
use Rattle.std.proofs.Common.{sym, ◌∙◌, arith, ext_get_or, ltb-true, ltb-false}
use Rattle.find_many.specs.Finds.{RowsTold, short, full}

-- two lists that tell the same of many ids are one
pub rows_told_only : (f : ℕ → ℕ) (ids before xs ys : List ℕ) → RowsTold f ids before xs → RowsTold f ids before ys → xs ≡ ys
rows_told_only f ids before xs ys (short h e) (short k d) = e ∙ sym d
rows_told_only f ids before xs ys (short h e) (full k d) = absurd (omega arith)
rows_told_only f ids before xs ys (full h e) (short k d) = absurd (omega arith)
rows_told_only f ids before xs ys (full h e) (full k d) = ext_get_or 0 xs ys (e.size ∙ sym d.size) (λ i _. same i (ltb i (length ids)) refl)
  where
    same : (i : ℕ) (t : Bool) → ltb i (length ids) ≡ t → get_or xs i 0 ≡ get_or ys i 0
    same i true q = let l = ltb-true i (length ids) q in e.tells i l ∙ sym (d.tells i l)
    same i false q = let l = ltb-false i (length ids) q in e.rest i l ∙ sym (d.rest i l)
