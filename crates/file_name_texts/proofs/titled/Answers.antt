use Rattle.std.proofs.Common.{◌∙◌, ap, sym, Result}
use Rattle.error.specs.Refusal.{told_result}
use Rattle.error.specs.declared.Fault.{Fault}
use Rattle.words.specs.declared.Text.{Text}
use Rattle.file_name_texts.specs.Title.{as_title}
use Rattle.file_name_texts.specs.Laws.{fault_short, fault_empty}
use Rattle.file_name_texts.proofs.titled.Goals as goal

pub returns-in-TooShort : goal.returns-in-TooShort
returns-in-TooShort c = fault_short c.in-Err.fault c.in-TooShort.field-0 c.in-TooShort.is ∙ ap (λ (x : Result Text Fault). as_title (told_result x)) (sym c.in-Err.is)

pub returns-in_default : goal.returns-in_default
returns-in_default c = fault_empty c.in-Err.fault c.in_default.not-TooShort ∙ ap (λ (x : Result Text Fault). as_title (told_result x)) (sym c.in-Err.is)
