use Rattle.std.proofs.Common.{arith, ◌≡◌, sym, ◌∙◌, ap, ◌-◌, ℕ}
use Rattle.table.specs.Table.{header_numbers}
use Rattle.lookup.specs.First.{first_from}
use Rattle.lookup.specs.Laws.{first_stops, first_goes, first_ends}
use Rattle.headers.specs.Header.{is_header}
use Rattle.headers.proofs.header_row.Goals as goal

pub loop-k-init : goal.loop-k-init
loop-k-init c =
    let P = is_header c.args.file.now (header_numbers c.args.heads.now) c.args.name.now in
    let e : c.header_rows-k-end.result - 0 ≡ c.header_rows-k-end.result = omega arith in
    ap (λ (z : ℕ). first_from P z 0) e

pub returns-then-is_named : goal.returns-then-is_named
returns-then-is_named c =
    let P = is_header c.args.file.now (header_numbers c.args.heads.now) c.args.name.now in
    sym (first_stops P c.header_rows-k-end.result c.loop-k.k c.loop-k-test.true (sym c.is_named.ensures ∙ c.if-is_named.true)) ∙ c.loop-k.invariant ∙ ap (λ (z : ℕ). first_from P z 0) c.header_rows-k-end.ensures

pub loop-k-preserved : goal.loop-k-preserved
loop-k-preserved c =
    let P = is_header c.args.file.now (header_numbers c.args.heads.now) c.args.name.now in
    sym (first_goes P c.header_rows-k-end.result c.loop-k.k c.loop-k-test.true (sym c.is_named.ensures ∙ c.if-is_named.false)) ∙ c.loop-k.invariant

pub returns : goal.returns
returns c =
    let P = is_header c.args.file.now (header_numbers c.args.heads.now) c.args.name.now in
    sym (first_ends P c.header_rows-k-end.result c.loop-k.k c.loop-k-test.false) ∙ c.loop-k.invariant ∙ ap (λ (z : ℕ). first_from P z 0) c.header_rows-k-end.ensures
