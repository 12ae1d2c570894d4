use Rattle.grids.specs.Row.{part_read, part_told, none_lent, row_laid, row_fits, row_counted}
use Rattle.lists.specs.Items.{list_by, list_of}
use Rattle.lists.specs.Lent.{item_value}
use Rattle.lists.specs.declared.Kind.TheVariants.{References, Integers, Floats, Any}
use Rattle.reals.specs.Scalar.{reference_of}
use Rattle.reals.specs.Which.{real_by}
use native.Mathlib.Omega.{arith}
use lib.Ieee.{binary64, to_bits}
use lib.ListN.{length}
use mathlib.Core.List.{[]}
use mathlib.Core.Path.{◌∙◌}
use Rattle.std.proofs.Common.{inl, inr}
use Rattle.grids.proofs.fill_row.Goals as goal

pub offset_bounds-refs-base : goal.offset_bounds-refs-base
offset_bounds-refs-base c = let (h, l) = row_fits c.args.kind c.args.t.now c.args.base (length c.args.refs.now) (length c.args.reals.now) References c.in-References.is (c.requires.base_bound, c.requires.ready) in
    omega (arith, h)

pub slice_bounds-read_refs-count : goal.slice_bounds-read_refs-count
slice_bounds-read_refs-count c = let (h, l) = row_fits c.args.kind c.args.t.now c.args.base (length c.args.refs.now) (length c.args.reals.now) References c.in-References.is (c.requires.base_bound, c.requires.ready) in
    omega (arith, h)

pub slice_bounds-read_refs-start : goal.slice_bounds-read_refs-start
slice_bounds-read_refs-start c = let (h, l) = row_fits c.args.kind c.args.t.now c.args.base (length c.args.refs.now) (length c.args.reals.now) References c.in-References.is (c.requires.base_bound, c.requires.ready) in
    omega (arith, h)

pub offset_bounds-reals-base : goal.offset_bounds-reals-base
offset_bounds-reals-base c = let (h, l) = row_fits c.args.kind c.args.t.now c.args.base (length c.args.refs.now) (length c.args.reals.now) (Floats c.in-Floats.which) c.in-Floats.is (c.requires.base_bound, c.requires.ready) in
    omega (arith, h)

pub slice_bounds-read_reals-count : goal.slice_bounds-read_reals-count
slice_bounds-read_reals-count c = let (h, l) = row_fits c.args.kind c.args.t.now c.args.base (length c.args.refs.now) (length c.args.reals.now) (Floats c.in-Floats.which) c.in-Floats.is (c.requires.base_bound, c.requires.ready) in
    omega (arith, h)

pub slice_bounds-read_reals-start : goal.slice_bounds-read_reals-start
slice_bounds-read_reals-start c = let (h, l) = row_fits c.args.kind c.args.t.now c.args.base (length c.args.refs.now) (length c.args.reals.now) (Floats c.in-Floats.which) c.in-Floats.is (c.requires.base_bound, c.requires.ready) in
    omega (arith, h)

pub returns-in-Integers : goal.returns-in-Integers
returns-in-Integers c = elim c.in-Integers.is [
  | inl e ↦
      let (h, l) = row_fits c.args.kind c.args.t.now c.args.base (length c.args.refs.now) (length c.args.reals.now) Integers e (c.requires.base_bound, c.requires.ready) in
      let q = row_laid c.args.kind c.args.t.now c.args.base 0 c.args.refs.now _ c.args.reals.now _ Integers e (none_lent (list_by (item_value Integers) c.args.t.now) c.args.base [] l) in
      record { value = q.0; reals_after = q.1 }
  | inr e ↦
      let (h, l) = row_fits c.args.kind c.args.t.now c.args.base (length c.args.refs.now) (length c.args.reals.now) Any e (c.requires.base_bound, c.requires.ready) in
      let q = row_laid c.args.kind c.args.t.now c.args.base 0 c.args.refs.now _ c.args.reals.now _ Any e (none_lent (list_by (item_value Any) c.args.t.now) c.args.base [] l) in
      record { value = q.0; reals_after = q.1 }
]

pub returns-in-References : goal.returns-in-References
returns-in-References c = let (h, l) = row_fits c.args.kind c.args.t.now c.args.base (length c.args.refs.now) (length c.args.reals.now) References c.in-References.is (c.requires.base_bound, c.requires.ready) in
    let (x, y) = part_read (list_of reference_of c.args.t.now) c.args.base c.args.refs.now _ _ l c.read_refs.ensures.result_value c.read_refs.ensures.out_after in
    let q = row_laid c.args.kind c.args.t.now c.args.base _ c.args.refs.now _ c.args.reals.now _ References c.in-References.is (c.unwrap_or.ensures ∙ row_counted _ _ x, y) in
    record { value = q.0; reals_after = q.1 }

pub returns-in-Floats : goal.returns-in-Floats
returns-in-Floats c = let (h, l) = row_fits c.args.kind c.args.t.now c.args.base (length c.args.refs.now) (length c.args.reals.now) (Floats c.in-Floats.which) c.in-Floats.is (c.requires.base_bound, c.requires.ready) in
    let (x, y) = part_told (to_bits binary64) (list_of (real_by c.in-Floats.which) c.args.t.now) c.args.base c.args.reals.now _ _ l c.read_reals.ensures.result_value c.read_reals.ensures.out_after in
    let q = row_laid c.args.kind c.args.t.now c.args.base _ c.args.refs.now _ c.args.reals.now _ (Floats c.in-Floats.which) c.in-Floats.is (c.unwrap_or-in-Floats.ensures ∙ row_counted _ _ x, y) in
    record { value = q.0; reals_after = q.1 }
