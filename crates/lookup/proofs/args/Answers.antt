use Rattle.std.proofs.Common.{◌∙◌, ap, length, ◌≡◌, rules, Err}
use Rattle.error.specs.Refusal.{told, bad, told_result}
use Rattle.index.specs.Search.{searched}
use Rattle.lookup.specs.Lookup.{row_found, required}
use Rattle.lookup.specs.Laws.{args_refused}
use Rattle.lookup.proofs.args.Goals as goal

pub returns-in_err-require : goal.returns-in_err-require
returns-in_err-require c =
    let a = c.args in
    let k : c.from_residual.result ≡ Err c.in_err-require.field-0.0 = search rules in
    let q : bad (told c.in_err-require.field-0.0) ≡ required (row_found a.rows.now (searched a.rows.now a.slots.now a.t.ids a.id)) = search rules in
    ap told_result k ∙ args_refused (length a.file.now) (row_found a.rows.now (searched a.rows.now a.slots.now a.t.ids a.id)) _ q
