use Rattle.std.proofs.Common.{◌∙◌, ap, sym, refl, length}
use Rattle.std.proofs.lemmas.Result.{err_from_is_err_and}
use Rattle.error.specs.Refusal.{good}
use Rattle.file_name_texts.specs.Laws.{title_by_lem}
use Rattle.file_name_texts.proofs.title_of.Goals as goal

pub returns-in_err-args : goal.returns-in_err-args
returns-in_err-args c = let a = c.args in
    let p = err_from_is_err_and c.from_residual.result c.from_residual.ensures.1 in
    let q = title_by_lem a.file.now a.out.now (length a.out.now) a.before _ _ _ _ c.in_err-args.ensures refl refl in
    rw (p.1, p.2) record { result_value = q.0; out_after = q.1 }

pub returns-in-Some : goal.returns-in-Some
returns-in-Some c = let a = c.args in
    let q = title_by_lem a.file.now a.out.now (length a.out.now) a.before _ _ _ _ (ap good (sym c.in-Some.is) ∙ c.in_ok-args.ensures) c.title_at.ensures.result_value c.title_at.ensures.out_after in
    record { result_value = q.0; out_after = q.1 }

pub returns-in-None : goal.returns-in-None
returns-in-None c = let a = c.args in
    let q = title_by_lem a.file.now a.out.now (length a.out.now) a.before _ _ _ _ (ap good (sym c.in-None.is) ∙ c.in_ok-args.ensures) refl refl in
    record { result_value = q.0; out_after = q.1 }
