use Rattle.params.specs.ReaderLaws.{in_true, param_none, param_cut, param_open, open_fault, cut_kept}
use Rattle.params.specs.Reader.{param_of}
use Rattle.params.specs.Answer.{reading, span, ended_at, EndedIn}
use Rattle.error.specs.Refusal.{good, bad, refusal}
use lib.ListN.{length, take}
use lib.Seq.{length-take-le}
use Prim.Native.Nat.{ℕ, ◌≤◌, min}
use mathlib.Core.Path.{◌≡◌, refl, ◌∙◌, sym, ap, subst}
use Rattle.std.proofs.lemmas.Result.{err_from_is_err_and}
use native.Mathlib.Omega.{arith}
use Rattle.params.proofs.param_span.Goals as goal

pub returns-then-not-in_file-clause-result_value : goal.returns-then-not-in_file-clause-result_value
unfolding param_of
returns-then-not-in_file-clause-result_value c = rw (← c.in_file.ensures, c.if-not-in_file.true) refl

pub slice_bounds-part-end : goal.slice_bounds-part-end
slice_bounds-part-end c = let h = in_true (length c.args.file.now) c.args.at.now.place c.args.at.now.end (sym c.in_file.ensures ∙ c.if-not-in_file.false) in
    sym (length-take-le c.args.at.now.end c.args.file.now h.1)

pub past_trivia-start-requires : goal.past_trivia-start-requires
past_trivia-start-requires c = let h = in_true (length c.args.file.now) c.args.at.now.place c.args.at.now.end (sym c.in_file.ensures ∙ c.if-not-in_file.false) in
    omega (arith, h.0, length-take-le c.args.at.now.end c.args.file.now h.1)

pub returns-then-start-end-clause-result_value : goal.returns-then-start-end-clause-result_value
returns-then-start-end-clause-result_value c = let k = sym c.in_file.ensures ∙ c.if-not-in_file.false in
    let h = in_true (length c.args.file.now) c.args.at.now.place c.args.at.now.end k in
    let q = c.past_trivia-start.ensures in
    ap (λ (m : ℕ). reading (bad (refusal 10 0 c.args.at.now.end)) m c.args.at.now.end) c.if-start-end.true ∙ param_none c.args.file.now c.args.at.now.place c.args.at.now.end k c.past_trivia-start.result q.part_value
    (omega (arith, q.lower_bound.1, length-take-le c.args.at.now.end c.args.file.now h.1)) c.if-start-end.true

pub returns-in_err-cut-clause-result_value : goal.returns-in_err-cut-clause-result_value
returns-in_err-cut-clause-result_value c = let s = c.args.file.now in
    let e = c.args.at.now.end in
    let k = sym c.in_file.ensures ∙ c.if-not-in_file.false in
    let h = in_true (length s) c.args.at.now.place e k in
    let w = c.past_trivia-start.ensures in
    let n : length (take e s) ≡ e = length-take-le e s h.1 in
    let j : c.past_trivia-start.result ≤ e = omega (arith, w.lower_bound.1, n) in
    let p = err_from_is_err_and c.from_residual.result c.from_residual.ensures.1 in
    let (q, x, y) = open_fault c.param_end.result c.map_err.result c.in_err-cut.field-0.0 c.map_err.ensures.cases c.in_err-cut.was in
    let i = subst (EndedIn (min c.past_trivia-start.result (length (take e s))) (length (take e s))) x c.param_end.ensures.ended_in in
    rw (p.1, p.2, y) (param_open s c.args.at.now.place e k c.past_trivia-start.result w.part_value j (omega (arith, j, c.if-start-end.false)) q
    (omega (arith, n, i.1)) (ap (ended_at (take e s)) (sym x) ∙ c.param_end.ensures.result_value))

pub returns-clause-result_value : goal.returns-clause-result_value
returns-clause-result_value c = let s = c.args.file.now in
    let e = c.args.at.now.end in
    let k = sym c.in_file.ensures ∙ c.if-not-in_file.false in
    let h = in_true (length s) c.args.at.now.place e k in
    let q = c.past_trivia-start.ensures in
    let n : length (take e s) ≡ e = length-take-le e s h.1 in
    let j : c.past_trivia-start.result ≤ e = omega (arith, q.lower_bound.1, n) in
    let x = cut_kept c.param_end.result c.map_err.result c.in_ok-cut.cut c.map_err.ensures.cases c.in_ok-cut.was in
    let i = subst (EndedIn (min c.past_trivia-start.result (length (take e s))) (length (take e s))) x c.param_end.ensures.ended_in in
    ap (λ (m : ℕ). reading (good (span c.past_trivia-start.result c.in_ok-cut.cut.stop)) m e) c.min-at.ensures
    ∙ param_cut s c.args.at.now.place e k c.past_trivia-start.result q.part_value j (omega (arith, j, c.if-start-end.false)) c.in_ok-cut.cut.stop c.in_ok-cut.cut.bound
    (omega (arith, n, i.1, i.2)) (omega (arith, n, i.2)) (ap (ended_at (take e s)) (sym x) ∙ c.param_end.ensures.result_value)
