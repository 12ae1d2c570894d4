use Rattle.params.specs.Skips.{skip_of}
use Rattle.params.specs.Answer.{read_mapped}
use Rattle.error.specs.Refusal.{good}
use Rattle.std.proofs.lemmas.Result.{err_from_is_err_and}
use mathlib.Core.Path.{ap}
use Rattle.params.proofs.skip.Goals as goal

pub returns-in_err-param_span : goal.returns-in_err-param_span
unfolding skip_of
returns-in_err-param_span c = let p = err_from_is_err_and c.from_residual.result c.from_residual.ensures.1 in
    rw (p.1, p.2) (ap (read_mapped (λ a. good tt)) c.in_err-param_span.ensures.result_value)

pub returns : goal.returns
unfolding skip_of
returns c = ap (read_mapped (λ a. good tt)) c.in_ok-param_span.ensures.result_value
