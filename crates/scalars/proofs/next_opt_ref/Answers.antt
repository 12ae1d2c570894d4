use Rattle.std.proofs.lemmas.Result.{err_from_is_err_and}
use Rattle.std.proofs.Common.{ap, refl}
use Rattle.params.specs.Answer.{read_mapped}
use Rattle.scalars.specs.Answer.{next_of}
use Rattle.scalars.proofs.next_opt_ref.Goals as goal

pub returns-in_err-w : goal.returns-in_err-w
unfolding next_of
returns-in_err-w c = let p = err_from_is_err_and c.from_residual.result c.from_residual.ensures.1 in
    rw (p.1, p.2) (ap (read_mapped _) c.in_err-w.ensures.result_value)

pub returns-then-is_unset : goal.returns-then-is_unset
unfolding next_of
returns-then-is_unset c = rw (← c.in_ok-w.ensures.result_value, ← c.is_unset.ensures, c.if-is_unset.true) refl

pub returns-in-Some : goal.returns-in-Some
unfolding next_of
returns-in-Some c = rw (← c.in_ok-w.ensures.result_value, ← c.is_unset.ensures, c.if-is_unset.false, ← c.in-Some.ensures) refl

pub returns-in-None : goal.returns-in-None
unfolding next_of
returns-in-None c = rw (← c.in_ok-w.ensures.result_value, ← c.is_unset.ensures, c.if-is_unset.false, ← c.in-None.ensures) refl
