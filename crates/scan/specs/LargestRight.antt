-- The largest id of a file's records: what is computed is the largest, and there is no other. Assumes nothing.
use Rattle.std.specs.Prelude.{ℕ, zero, suc, ◌≤◌, max, ◌≡◌, refl, ◌⊎◌, List, [], ◌∷◌}
use Rattle.std.proofs.Common.{sym, ◌∙◌, ap, inl, inr, arith}
use Rattle.std.proofs.Math.Option.{some}
use Rattle.std.proofs.Math.Decide.{dec_le}
use Rattle.std.proofs.Math.ListN.{get_elem?}
use Rattle.common.specs.Compare.{clash}
use Rattle.statement.specs.Rows.{Row}
use Rattle.scan.specs.Records.{largest, IsLargest}

-- no record has an id above the computed one
largest_above : (ws : List Row) (i : ℕ) (w : Row) → get_elem? ws i ≡ some w → w.id ≤ largest ws
unfolding largest
largest_above [] i w e = clash (cc)
largest_above (v ∷ ws) zero w e = let f : v ≡ w = cc in let q : v.id ≡ w.id = ap (λ (u : Row). u.id) f in omega arith
largest_above (v ∷ ws) (suc i) w e = let h = largest_above ws i w e in omega arith

-- a record has the computed id, or there is no record and it is 0
largest_reached : (ws : List Row) → ((ws ≡ []) × (largest ws ≡ 0)) ⊎ ((i : ℕ) × ((w : Row) × ((get_elem? ws i ≡ some w) × (w.id ≡ largest ws))))
unfolding largest
largest_reached [] = inl (refl, refl)
largest_reached (v ∷ ws) = go (dec_le (largest ws) v.id) (largest_reached ws)
  where
    go : Dec (largest ws ≤ v.id) → ((ws ≡ []) × (largest ws ≡ 0)) ⊎ ((i : ℕ) × ((w : Row) × ((get_elem? ws i ≡ some w) × (w.id ≡ largest ws))))
        → ((v ∷ ws ≡ []) × (max v.id (largest ws) ≡ 0)) ⊎ ((i : ℕ) × ((w : Row) × ((get_elem? (v ∷ ws) i ≡ some w) × (w.id ≡ max v.id (largest ws)))))
    go (yes h) r = inr (0, (v, (refl, omega arith)))
    go (no h) (inl (a, b)) = absurd (omega arith)
    go (no h) (inr (i, (w, (e, q)))) = inr (suc i, (w, (e, omega arith)))

-- what is computed is the largest id
pub largest_is : (ws : List Row) → IsLargest ws (largest ws)
largest_is ws = record { above = largest_above ws; reached = largest_reached ws }

-- there is no other largest id
pub largest_only : (ws : List Row) (m : ℕ) → IsLargest ws m → m ≡ largest ws
largest_only ws m h = go h.reached (largest_reached ws)
  where
    go : ((ws ≡ []) × (m ≡ 0)) ⊎ ((i : ℕ) × ((w : Row) × ((get_elem? ws i ≡ some w) × (w.id ≡ m))))
        → ((ws ≡ []) × (largest ws ≡ 0)) ⊎ ((i : ℕ) × ((w : Row) × ((get_elem? ws i ≡ some w) × (w.id ≡ largest ws)))) → m ≡ largest ws
    go (inl (a, b)) (inl (c, d)) = b ∙ sym d
    go (inl (a, b)) (inr (i, (w, (e, q)))) = let n : get_elem? {A = Row} [] i ≡ some w = ap (λ (l : List Row). get_elem? l i) (sym a) ∙ e in clash (cc)
    go (inr (i, (w, (e, q)))) (inl (a, b)) = let n : get_elem? {A = Row} [] i ≡ some w = ap (λ (l : List Row). get_elem? l i) (sym a) ∙ e in clash (cc)
    go (inr (i, (w, (e, q)))) (inr (j, (v, (f, r)))) = let x = largest_above ws i w e in let y = h.above j v f in omega arith
