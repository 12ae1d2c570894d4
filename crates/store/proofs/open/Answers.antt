use Rattle.std.proofs.Common.{◌≡◌, ◌∙◌, ap, subst, length, ℕ}
use Rattle.table.specs.Table.{rows_fit, id_of}
use Rattle.scan.specs.ScanMemory.{header_room}
use Rattle.index.specs.KeyOrder.{table_room}
use Rattle.index.specs.Index.{Built}
use Rattle.store.specs.Laws.{all_indexed}
use Rattle.store.proofs.open.Goals as goal

pub returns-clause-indexed : goal.returns-clause-indexed
returns-clause-indexed c =
    let rows = c.scan.new.rows in
    let slots = c.args.slots.now in
    let n = c.in_ok-counts.counts.records in
    let room : table_room (rows_fit (length rows)) (length slots) n ≡ n =
    ap (λ (z : ℕ). table_room (rows_fit z) (length slots) n) c.scan.auto.rows
    ∙ all_indexed c.args.file.now c.args.rows.now (header_room c.args.headers.now) (length slots) _ _ _ c.in_ok-counts.ensures.result_value in
    subst (λ (z : ℕ). Built (id_of rows) z slots c.build.new.slots c.build.result) room c.build.ensures
