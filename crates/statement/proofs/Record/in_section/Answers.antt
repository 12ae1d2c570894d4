use Rattle.std.proofs.Common.{arith}
use Rattle.statement.specs.Laws.{section_outside, section_header, section_data}
use Rattle.statement.proofs.Record.in_section.Goals as goal

pub returns-in-Outside-clause-result_value : goal.returns-in-Outside-clause-result_value
returns-in-Outside-clause-result_value c = let a = c.args.self in
    rw c.in-Outside.is (section_outside a.file.now a.start a.end (omega arith) (omega arith))

pub returns-in_ok-header-in-InHeader-clause-result_value : goal.returns-in_ok-header-in-InHeader-clause-result_value
returns-in_ok-header-in-InHeader-clause-result_value c = let a = c.args.self in
    rw c.in-InHeader.is (section_header a.file.now a.start a.end (omega arith) (omega arith) _ c.in_ok-header-in-InHeader.ensures)

pub returns-in_ok-data-in-InData-clause-result_value : goal.returns-in_ok-data-in-InData-clause-result_value
returns-in_ok-data-in-InData-clause-result_value c = let a = c.args.self in
    rw c.in-InData.is (section_data a.file.now a.start a.end (omega arith) (omega arith) _ c.in_ok-data-in-InData.ensures)
