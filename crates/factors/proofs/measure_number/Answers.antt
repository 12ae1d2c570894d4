use Rattle.std.proofs.Common.{◌∙◌, ap, sym, ℕ}
use Rattle.params.specs.Answer.{Read}
use Rattle.scalars.specs.Scalars.{measure_of}
use Rattle.factors.specs.Factor.{number_or_none}
use Rattle.factors.specs.Laws.{next_end, fault_outside, fault_unread}
use Rattle.factors.proofs.measure_number.Goals as goal

pub returns-in-Ok : goal.returns-in-Ok
returns-in-Ok c = record {
  number = ap (λ (r : Read ℕ). number_or_none r.answer) c.in-Ok.ensures;
  at_after = (ap (λ (r : Read ℕ). r.place) c.in-Ok.ensures, ap (λ (r : Read ℕ). r.end) c.in-Ok.ensures ∙ next_end measure_of _ _ _);
}

pub returns-in-OutsideClass : goal.returns-in-OutsideClass
returns-in-OutsideClass c = record {
  number = fault_outside c.in-Err.fault c.in-OutsideClass.field-0 c.in-OutsideClass.is ∙ ap (λ (r : Read ℕ). number_or_none r.answer) c.in-Err.ensures;
  at_after = (ap (λ (r : Read ℕ). r.place) c.in-Err.ensures, ap (λ (r : Read ℕ). r.end) c.in-Err.ensures ∙ next_end measure_of _ _ _);
}

pub returns-in_default : goal.returns-in_default
returns-in_default c = record {
  number = sym (fault_unread c.in-Err.fault c.in_default.not-OutsideClass) ∙ ap (λ (r : Read ℕ). number_or_none r.answer) c.in-Err.ensures;
  at_after = (ap (λ (r : Read ℕ). r.place) c.in-Err.ensures, ap (λ (r : Read ℕ). r.end) c.in-Err.ensures ∙ next_end measure_of _ _ _);
}
