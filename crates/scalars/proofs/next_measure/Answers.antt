use Rattle.std.proofs.lemmas.Result.{err_from_is_err_and}
use Rattle.std.proofs.Common.{ap, refl}
use Rattle.params.specs.Answer.{reading, read_mapped}
use Rattle.scalars.specs.Laws.{real_refused}
use Rattle.scalars.specs.Answer.{next_of}
use Rattle.scalars.proofs.next_measure.Goals as goal

pub returns-in_err-w : goal.returns-in_err-w
unfolding next_of
returns-in_err-w c = let p = err_from_is_err_and c.from_residual.result c.from_residual.ensures.1 in
    rw (p.1, p.2) (ap (read_mapped _) c.in_err-w.ensures.result_value)

pub returns-in-Ok : goal.returns-in-Ok
unfolding next_of
returns-in-Ok c = rw (← c.in_ok-w.ensures.result_value, ← c.in-Ok.ensures) refl

pub returns-in-Err : goal.returns-in-Err
unfolding next_of
returns-in-Err c = rw (← c.in_ok-w.ensures.result_value, c.refused_real.ensures, ← c.in-Err.ensures) (ap (λ v. reading v c.param_span.new.at.place c.param_span.new.at.end) (real_refused c.in_ok-w.w.start c.in-Err.why))
