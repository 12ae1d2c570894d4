use Rattle.std.proofs.lemmas.Result.{err_from_is_err_and}
use Rattle.std.proofs.Common.{ap, refl}
use Rattle.params.specs.Answer.{read_mapped}
use Rattle.scalars.specs.Answer.{next_of}
use Rattle.scalars.specs.Laws.{read_or_wrong}
use Rattle.reals.specs.Answer.{told_reference}
use Rattle.scalars.proofs.next_ref.Goals as goal

pub returns-in_err-w : goal.returns-in_err-w
unfolding next_of
returns-in_err-w c = let p = err_from_is_err_and c.from_residual.result c.from_residual.ensures.1 in
    rw (p.1, p.2) (ap (read_mapped _) c.in_err-w.ensures.result_value)

pub returns : goal.returns
unfolding next_of
returns c = rw (← c.in_ok-w.ensures.result_value, ← c.parse_ref.ensures, c.ok_or.ensures.value) (read_or_wrong c.parse_ref.result c.in_ok-w.w.start c.param_span.new.at told_reference (λ x. refl) refl)
