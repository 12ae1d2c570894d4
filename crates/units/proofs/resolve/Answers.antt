use Rattle.std.proofs.Common.{◌∙◌, ap, refl, subst, ℕ, ◌<◌, ◌≤◌}
use Rattle.std.proofs.lemmas.Result.{err_from_is_err_and}
use Rattle.error.specs.Refusal.{good}
use Rattle.lookup.specs.Lookup.{row_for}
use Rattle.factors.specs.SeenRecords.{find_of}
use Rattle.units.specs.Laws.{resolve_starts, resolve_over, row_given, row_past, resolve_last, resolve_goes}
use Rattle.units.proofs.resolve.Goals as goal

pub loop-k-init : goal.loop-k-init
loop-k-init c = resolve_starts c.args.file.now (find_of c.args.file.now (row_for c.args.rows.now c.args.slots.now c.args.t.ids)) c.args.rows.now c.args.t.records

pub returns : goal.returns
returns c = ap good c.assumed.ensures ∙ resolve_over c.args.file.now (find_of c.args.file.now (row_for c.args.rows.now c.args.slots.now c.args.t.ids)) c.args.rows.now c.args.t.records c.loop-k.k c.loop-k.invariant (row_past c.args.file.now (find_of c.args.file.now (row_for c.args.rows.now c.args.slots.now c.args.t.ids)) c.args.rows.now c.args.t.records c.loop-k.k (subst (λ (n : ℕ). n ≤ c.loop-k.k) c.table_rows-k-end.ensures c.loop-k-test.false))

pub returns-in_err-values : goal.returns-in_err-values
returns-in_err-values c =
    let p = err_from_is_err_and c.from_residual.result c.from_residual.ensures.1 in
    rw (p.1, p.2) (resolve_last c.args.file.now (find_of c.args.file.now (row_for c.args.rows.now c.args.slots.now c.args.t.ids)) c.args.rows.now c.args.t.records c.loop-k.k c.loop-k.invariant (row_given c.args.file.now (find_of c.args.file.now (row_for c.args.rows.now c.args.slots.now c.args.t.ids)) c.args.rows.now c.args.t.records c.loop-k.k (subst (λ (n : ℕ). c.loop-k.k < n) c.table_rows-k-end.ensures c.loop-k-test.true) c.read_row.ensures) c.in_err-values.ensures refl)

pub returns-then-values : goal.returns-then-values
returns-then-values c = resolve_last c.args.file.now (find_of c.args.file.now (row_for c.args.rows.now c.args.slots.now c.args.t.ids)) c.args.rows.now c.args.t.records c.loop-k.k c.loop-k.invariant (row_given c.args.file.now (find_of c.args.file.now (row_for c.args.rows.now c.args.slots.now c.args.t.ids)) c.args.rows.now c.args.t.records c.loop-k.k (subst (λ (n : ℕ). c.loop-k.k < n) c.table_rows-k-end.ensures c.loop-k-test.true) c.read_row.ensures) c.in_ok-values.ensures c.if-values.true

pub loop-k-preserved : goal.loop-k-preserved
loop-k-preserved c = resolve_goes c.args.file.now (find_of c.args.file.now (row_for c.args.rows.now c.args.slots.now c.args.t.ids)) c.args.rows.now c.args.t.records c.loop-k.k c.loop-k.invariant (row_given c.args.file.now (find_of c.args.file.now (row_for c.args.rows.now c.args.slots.now c.args.t.ids)) c.args.rows.now c.args.t.records c.loop-k.k (subst (λ (n : ℕ). c.loop-k.k < n) c.table_rows-k-end.ensures c.loop-k-test.true) c.read_row.ensures) c.in_ok-values.ensures c.if-values.false
