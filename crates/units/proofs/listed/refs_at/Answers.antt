use Rattle.std.proofs.Common.{◌∙◌, ap, sym, arith, ◌≤◌}
use Rattle.std.proofs.lemmas.Result.{err_from_is_err_and}
use Rattle.std.proofs.Math.Nat.{min-eq_left}
use Prim.Native.Nat.{◌+◌}
use Rattle.scalars.specs.Answer.{number_of}
use Rattle.error.specs.Refusal.{bad, refusal}
use Rattle.params.specs.declared.State.{State}
use Rattle.params.specs.Reader.{param_of}
use Rattle.units.specs.Laws.{bytes_between_length, refs_uncut, refs_bad, refs_empty, refs_full}
use Rattle.units.proofs.listed.refs_at.Goals as goal

pub returns-in_err-list : goal.returns-in_err-list
returns-in_err-list c = let a = c.args in
    let p = err_from_is_err_and c.from_residual.result c.from_residual.ensures.1 in
    rw (p.1, p.2) (refs_uncut a.file.now a.args.start a.args.end (c.in_err-list.ensures.result_value ∙ ap (λ (v : State). param_of a.file.now v.place v.end) c.reader-at.ensures))

pub returns-in-Err : goal.returns-in-Err
returns-in-Err c = let a = c.args in let (u, v) = c.in_ok-list.ensures.next_param_in in
    let w = bytes_between_length a.file.now c.in_ok-list.list.start c.in_ok-list.list.stop u v in
    let l : c.in_ok-list.list.start + c.in-Err.bad.place ≤ 18446744073709551615 = omega (arith, u, v, w, c.in-Err.ensures.counted_in) in
    refs_bad a.file.now a.args.start a.args.end c.in_ok-list.list.start c.in_ok-list.list.stop _ _ (c.in_ok-list.ensures.result_value ∙ ap (λ (v : State). param_of a.file.now v.place v.end) c.reader-at.ensures) c.in-Err.ensures.result_value
    ∙ ap bad (ap (refusal (number_of c.in-Err.bad.why) 0) (sym (min-eq_left l)) ∙ sym c.fault.ensures)

pub returns-then-count-eq0 : goal.returns-then-count-eq0
returns-then-count-eq0 c = let a = c.args in
    refs_empty a.file.now a.args.start a.args.end c.in_ok-list.list.start c.in_ok-list.list.stop _ _ (c.in_ok-list.ensures.result_value ∙ ap (λ (v : State). param_of a.file.now v.place v.end) c.reader-at.ensures) c.in-Ok.ensures.result_value c.if-count-eq0.true

pub returns-else-count-eq0 : goal.returns-else-count-eq0
returns-else-count-eq0 c = let a = c.args in let (u, v) = c.in_ok-list.ensures.next_param_in in
    let h = refs_full a.file.now a.args.start a.args.end c.in_ok-list.list.start c.in_ok-list.list.stop _ _ (c.in_ok-list.ensures.result_value ∙ ap (λ (v : State). param_of a.file.now v.place v.end) c.reader-at.ensures) u v c.in-Ok.ensures.result_value c.if-count-eq0.false in
    (omega (arith, u, v, h.0), (omega (arith, u, v, h.0), h.1))
