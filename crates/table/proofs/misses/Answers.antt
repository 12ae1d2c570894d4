use native.Mathlib.Omega.{arith}
use Rattle.std.proofs.Common.{◌≡◌, refl, ℕ, ◌≤◌, Bool, true, false, not, eqb, eqb-true, sym, ◌∙◌, get_or}
use Rattle.std.proofs.lemmas.Bool.{eqb-false}
use mir.Val.{bool_byte}
use Rattle.table.specs.Sweeps.{ids_next, id_there}
use Rattle.table.proofs.misses.Goals as goal

-- what is counted of two numbers: 1 where they differ, else 0
counted : (a b r : ℕ) → r ≡ bool_byte (not (eqb a b)) → (r ≤ 1) × (r ≡ 0 → a ≡ b) × (a ≡ b → r ≡ 0)
counted a b r h = go (eqb a b) refl h
  where
    go : (t : Bool) → eqb a b ≡ t → r ≡ bool_byte (not t) → (r ≤ 1) × (r ≡ 0 → a ≡ b) × (a ≡ b → r ≡ 0)
    go true e h = (omega arith, (λ z. eqb-true a b e), λ z. h)
    go false e h = (omega arith, (λ z. absurd (omega arith)), λ z. absurd (eqb-false a b e z))

pub loop-i-init : goal.loop-i-init
loop-i-init c = (omega arith, omega arith, omega arith, (λ _ j x y. absurd (omega arith)), λ h. omega arith)

pub overflow_cast-row : goal.overflow_cast-row
overflow_cast-row c = let l = c.loop-i in omega (arith, c.shared_slice_known-in-loop-i-1.given l.i)

pub overflow_mul-row : goal.overflow_mul-row
overflow_mul-row c = let l = c.loop-i in let p = c.requires in let q = p.3 l.i l.invariant.0 (omega arith) in record { fits = omega (arith, q) }

pub offset_bounds-rows-row : goal.offset_bounds-rows-row
offset_bounds-rows-row c = let l = c.loop-i in let p = c.requires in let q = p.3 l.i l.invariant.0 (omega arith) in record { fits = omega (arith, q) }

pub bounds-rows-row : goal.bounds-rows-row
bounds-rows-row c = let l = c.loop-i in let p = c.requires in let q = p.3 l.i l.invariant.0 (omega arith) in omega (arith, q)

pub overflow_add-missed : goal.overflow_add-missed
overflow_add-missed c = let l = c.loop-i in let e = (counted _ _ _ c.from-missed.ensures).0 in let m = l.invariant.2 in record { fits = omega (arith, e, m) }

pub loop-i-preserved : goal.loop-i-preserved
loop-i-preserved c =
    let a = c.args in
    let p = c.requires in
    let l = c.loop-i in
    let d = counted _ _ _ c.from-missed.ensures in
    let e = d.0 in
    let m = l.invariant.2 in
    let t = id_there a.rows.now (get_or a.found.now l.i 0) (p.3 l.i l.invariant.0 (omega arith)) in (
      omega arith,
      omega arith,
      omega (arith, e, m),
      (λ z. ids_next a.rows.now a.ids.now a.found.now a.from l.i (l.invariant.3 (omega (arith, z))) (sym t ∙ d.1 (omega (arith, z)))),
      λ h. let u = l.invariant.4 (λ j x y. h j x (omega arith)) in let v = d.2 (t ∙ h l.i l.invariant.0 (omega arith)) in omega (arith, u, v),
    )

pub returns : goal.returns
returns c = let l = c.loop-i in ((λ z j x y. l.invariant.3 z j x (omega arith)), λ h. l.invariant.4 (λ j x y. h j x (omega arith)))
