use Rattle.std.proofs.Common.{length}
use Rattle.file_name_texts.specs.Laws.{title_few, title_read}
use Rattle.file_name_texts.proofs.title_at.Goals as goal

pub returns-in-Ok : goal.returns-in-Ok
returns-in-Ok c = let a = c.args in
    let q = title_read a.file.now a.out.now (length a.out.now) a.before a.args.start a.args.end c.in-Ok.field-0 c.skip_n.new.at c.next_str.new.at c.next_str.result _ _ c.in-Ok.ensures c.next_str.ensures.result_value c.next_str.ensures.out_after c.titled.ensures in
    record { result_value = q.0; out_after = q.1 }

pub returns-in-Err : goal.returns-in-Err
returns-in-Err c = let a = c.args in
    let q = title_few a.file.now a.out.now (length a.out.now) a.before a.args.start a.args.end c.in-Err.field-0 c.skip_n.new.at c.in-Err.ensures in
    record { result_value = q.0; out_after = q.1 }
