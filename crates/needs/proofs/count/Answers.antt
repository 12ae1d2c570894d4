use Rattle.std.proofs.Common.{◌∙◌, sym, ap}
use Rattle.error.specs.Refusal.{told}
use Rattle.error.specs.declared.Fault.{Fault}
use Rattle.needs.specs.Laws.{needs_refused, needs_read, refused_number, good_not_bad, number_other}
use Rattle.needs.proofs.count.Goals as goal

pub returns-in-Ok : goal.returns-in-Ok
returns-in-Ok c = c.pass.ensures ∙ needs_read c.args.file.now (λ q e. absurd (good_not_bad q (c.in-Ok.ensures.result_value ∙ sym e)))

pub returns-in-NoRow : goal.returns-in-NoRow
returns-in-NoRow c = c.pass-in-NoRow.ensures ∙ needs_read c.args.file.now (λ q e. sym (refused_number q (c.in-Err.ensures.result_value ∙ sym e)) ∙ ap (λ (f : Fault). (told f).number) c.in-NoRow.is)

pub returns-in_default : goal.returns-in_default
returns-in_default c = needs_refused c.args.file.now _ c.in-Err.ensures.result_value (number_other c.in-Err.f c.in_default.not-NoRow)
