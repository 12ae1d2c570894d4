use Rattle.lists.specs.Items.{filled}
use Rattle.lists.specs.Laws.{shape_full}
use Rattle.lists.specs.Lent.{ItemValue, item_value, lent_of}
use Rattle.grids.specs.Grid.{flat, ends_from}
use Rattle.grids.specs.Laws.{grid_none, grid_blank, grid_full}
use native.Mathlib.Omega.{arith}
use mathlib.Core.List.{List, []}
use mathlib.Core.Path.{ap, sym, ◌∙◌}
use Rattle.std.proofs.Common.{inl, inr}
use Rattle.grids.proofs.fill_grid.Goals as goal

pub overflow_sub-n : goal.overflow_sub-n
overflow_sub-n c = let (n, f, o) = shape_full _ _ c.shape_of.ensures c.in-Full.is in omega (arith, n)

pub slice_bounds-fill_rows-count : goal.slice_bounds-fill_rows-count
slice_bounds-fill_rows-count c = let (n, f, o) = shape_full _ _ c.shape_of.ensures c.in-Full.is in omega (arith, n)

pub slice_bounds-fill_rows-start : goal.slice_bounds-fill_rows-start
slice_bounds-fill_rows-start c = let (n, f, o) = shape_full _ _ c.shape_of.ensures c.in-Full.is in omega (arith, n)

pub fill_rows-requires : goal.fill_rows-requires
fill_rows-requires c = (grid_full (item_value c.args.kind) c.args.t.now _ c.shape_of.ensures _ _ c.requires c.in-Full.is).1

pub returns-in-NotList : goal.returns-in-NotList
returns-in-NotList c = let t = c.args in elim c.in-NotList.is [
  | inl e ↦ absurd (grid_none (item_value t.kind) t.t.now _ c.shape_of.ensures _ _ c.requires e)
  | inr e ↦
      let q = grid_blank (item_value t.kind) t.t.now _ c.shape_of.ensures (lent_of t.kind t.refs.now [] t.reals.now) t.ends.now e in
      record { reals_after = q.0; ends_after = q.1 }
]

pub returns-in-Full : goal.returns-in-Full
returns-in-Full c = let t = c.args in
    let (x, y) = grid_full (item_value t.kind) t.t.now _ c.shape_of.ensures _ _ c.requires c.in-Full.is in record { reals_after = c.fill_rows.ensures.reals_after ∙ ap (λ (g : List (List (ItemValue t.kind))). filled (flat g) (lent_of t.kind t.refs.now [] t.reals.now)) (sym x); ends_after = c.fill_rows.ensures.ends_after ∙ ap (λ (g : List (List (ItemValue t.kind))). filled (ends_from 0 g) t.ends.now) (sym x) }
