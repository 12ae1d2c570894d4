use Rattle.std.proofs.Common.{sym, ◌∙◌, ap, ◌≡◌, rules, eq-eqb, ne_eqb}
use Rattle.std.proofs.lemmas.Result.{err_from_is_err_and}
use Rattle.kinds.specs.Kind.{rank_one}
use Rattle.kinds.specs.Rules.{rank_of}
use Rattle.statement.specs.Rows.{told_row}
use Rattle.factors.specs.SeenRecords.{self_or}
use Rattle.factors.specs.Laws.{seen_record_out, self_own, self_part}
use Rattle.factors.proofs.self_or.Goals as goal

pub returns-in_err-args : goal.returns-in_err-args
returns-in_err-args c =
    let p = err_from_is_err_and c.from_residual.result c.from_residual.ensures.1 in
    rw (p.1, p.2) (seen_record_out (self_or c.args.kind) c.args.file.now (told_row c.args.row) c.in_err-args.ensures)

pub returns-then-eq : goal.returns-then-eq
returns-then-eq c =
    let same : c.kind_in.result ≡ c.args.kind = search rules in
    self_own c.args.file.now (told_row c.args.row) c.in_ok-args.ensures c.args.kind (eq-eqb _ _ (ap rank_of (sym c.kind_in.ensures ∙ same)))

pub returns : goal.returns
returns c =
    let other : c.kind_in.result ≡ c.args.kind → ⊥ = search rules in
    c.part_args.ensures
    ∙ self_part c.args.file.now (told_row c.args.row) c.in_ok-args.ensures c.args.kind (ne_eqb _ _ (λ e. other (c.kind_in.ensures ∙ rank_one _ _ e)))
