use Rattle.std.proofs.lemmas.Result.{err_from_is_err_and}
use Rattle.factors.specs.Laws.{ref_refused, ref_past}
use Rattle.factors.proofs.measure_ref.Goals as goal

pub returns-in_err-skip : goal.returns-in_err-skip
returns-in_err-skip c =
    let p = err_from_is_err_and c.from_residual.result c.from_residual.ensures.1 in
    rw (p.1, p.2) (ref_refused c.args.file.now c.args.args.start c.args.args.end c.reader-at.result c.reader-at.ensures c.in_err-skip.ensures)

pub returns : goal.returns
returns c = ref_past c.args.file.now c.args.args.start c.args.args.end c.reader-at.result c.reader-at.ensures c.in_ok-skip.field-0 c.skip.new.at c.next_ref.result c.next_ref.new.at c.in_ok-skip.ensures c.next_ref.ensures
