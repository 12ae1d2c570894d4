use Rattle.std.proofs.Common.{rules}
use Rattle.index.specs.Search.{first_row}
use Rattle.common.specs.Tests.{both}
use Rattle.find_many.specs.Hints.{DenseRow, EvenRow, RisesByStep, Guided, far_hint, step_hint, first_hint}
use Rattle.find_many.specs.Sweep.{swept_by}
use mathlib.Core.Path.{◌≡◌, subst, sym, ◌∙◌}
use mathlib.Core.Bool.{◌&&◌}
use lib.Dec.{eqb}
use Prim.Native.Nat.{ℕ}
use Rattle.find_many.proofs.near.Goals as goal

pub returns-then-filed : goal.returns-then-filed
returns-then-filed c = let a = c.args in
    let h = both a.b.direct (a.b.distinct && eqb a.b.shift 0) (sym c.filed.ensures ∙ c.if-filed.true) in
    swept_by _ _ _ _ _ _ _ (λ k r v e. let d : DenseRow a.b.first k v = search rules in far_hint a.rows.now a.slots.now a.b h.0 h.1 k v d) c.sweep.ensures

pub returns-then-step-gt0 : goal.returns-then-step-gt0
returns-then-step-gt0 c = let a = c.args in
    let s = c.step_for-step in
    let h = c.if-step-gt0.true in
    swept_by _ _ _ _ _ _ _ (λ k r v e. let d : EvenRow a.b.first s.result k v = search rules in step_hint a.rows.now a.slots.now a.b s.result h (subst (λ (m : ℕ). RisesByStep a.b m s.result) c.room-n.ensures (s.ensures h)) k v d) c.sweep-then-step-gt0.ensures

pub guide_near-requires : goal.guide_near-requires
guide_near-requires c = let p = c.requires in let e = c.room-n.ensures in (p.0, p.1, p.2, subst (λ (m : ℕ). Guided c.args.b m) e (c.is_guided.ensures c.if-is_guided.true))

pub returns : goal.returns
returns c = let a = c.args in swept_by _ _ _ _ _ _ _ (λ k r v e. let d : v ≡ first_row a.slots.now a.b k = search rules in first_hint a.rows.now a.slots.now a.b k v d) c.sweep-2.ensures
