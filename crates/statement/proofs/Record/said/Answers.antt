use Rattle.statement.specs.declared.Section.TheVariants.{Outside, InHeader, InData}
use Rattle.statement.specs.Laws.{worded_at, moved_at}
use native.Mathlib.Omega.{arith}
use mathlib.Core.Path.{sym, ◌∙◌}
use Rattle.statement.proofs.Record.said.Goals as goal

pub returns-in-EndSection : goal.returns-in-EndSection
returns-in-EndSection c = let a = c.args.self in record {
  result_value = moved_at a.file.now a.start a.end (omega arith) (omega arith) Outside ∙ worded_at a.file.now a.start a.end (omega arith) (omega arith) c.args.section _
      (sym c.in-EndSection.is ∙ c.section_word.ensures);
  ahead = (omega arith, omega arith);
}

pub returns-in-Header : goal.returns-in-Header
returns-in-Header c = let a = c.args.self in record {
  result_value = moved_at a.file.now a.start a.end (omega arith) (omega arith) InHeader ∙ worded_at a.file.now a.start a.end (omega arith) (omega arith) c.args.section _
      (sym c.in-Header.is ∙ c.section_word.ensures);
  ahead = (omega arith, omega arith);
}

pub returns-in-Data : goal.returns-in-Data
returns-in-Data c = let a = c.args.self in record {
  result_value = moved_at a.file.now a.start a.end (omega arith) (omega arith) InData ∙ worded_at a.file.now a.start a.end (omega arith) (omega arith) c.args.section _
      (sym c.in-Data.is ∙ c.section_word.ensures);
  ahead = (omega arith, omega arith);
}

pub returns-in-EndFile : goal.returns-in-EndFile
returns-in-EndFile c = let a = c.args.self in record {
  result_value = worded_at a.file.now a.start a.end (omega arith) (omega arith) c.args.section _
      (sym c.in-EndFile.is ∙ c.section_word.ensures);
  ahead = tt;
}

pub returns-in-Other : goal.returns-in-Other
returns-in-Other c = let a = c.args.self in record {
  result_value = c.in_section.ensures.result_value ∙ worded_at a.file.now a.start a.end (omega arith) (omega arith) c.args.section _
      (sym c.in-Other.is ∙ c.section_word.ensures);
  ahead = c.in_section.ensures.ahead;
}
