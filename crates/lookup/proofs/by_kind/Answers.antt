use Rattle.std.proofs.Common.{sym, ◌∙◌, ap, ◌-◌, ℕ, ◌≡◌, true, false, rules, eq-eqb, ne_eqb}
use Rattle.kinds.specs.Kind.{rank_one}
use Rattle.kinds.specs.Rules.{rank_of}
use Rattle.lookup.specs.First.{first_from}
use Rattle.lookup.specs.Lookup.{row_is_kind, kind_in}
use Rattle.lookup.specs.Laws.{first_stops, first_goes, first_ends}
use Rattle.lookup.proofs.by_kind.Goals as goal

pub returns-then-eq : goal.returns-then-eq
returns-then-eq c =
    let P = row_is_kind c.args.file.now c.args.rows.now c.args.kind in
    let same : c.kind_in.result ≡ c.args.kind = search rules in
    let here : P c.loop-i.i ≡ true = eq-eqb _ _ (ap rank_of (sym (c.kind_in.ensures ∙ ap (kind_in c.args.file.now) c.read_row.ensures) ∙ same)) in
    sym (first_stops P c.table_rows-i-end.result c.loop-i.i c.loop-i-test.true here) ∙ c.loop-i.invariant ∙ ap (λ (z : ℕ). first_from P (z - c.args.from) c.args.from) c.table_rows-i-end.ensures

pub loop-i-preserved : goal.loop-i-preserved
loop-i-preserved c =
    let P = row_is_kind c.args.file.now c.args.rows.now c.args.kind in
    let other : c.kind_in.result ≡ c.args.kind → ⊥ = search rules in
    let here : P c.loop-i.i ≡ false = ne_eqb _ _ (λ e. other (c.kind_in.ensures ∙ ap (kind_in c.args.file.now) c.read_row.ensures ∙ rank_one _ _ e)) in
    sym (first_goes P c.table_rows-i-end.result c.loop-i.i c.loop-i-test.true here) ∙ c.loop-i.invariant

pub returns : goal.returns
returns c =
    let P = row_is_kind c.args.file.now c.args.rows.now c.args.kind in
    sym (first_ends P c.table_rows-i-end.result c.loop-i.i c.loop-i-test.false) ∙ c.loop-i.invariant ∙ ap (λ (z : ℕ). first_from P (z - c.args.from) c.args.from) c.table_rows-i-end.ensures
