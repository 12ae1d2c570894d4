use Rattle.std.proofs.Common.{◌∙◌, ap, sym, subst, arith, ◌≤◌, length, Option, Ok}
use Rattle.std.proofs.lemmas.Result.{err_from_is_err_and}
use Rattle.statement.specs.Rows.{header_row_of}
use Rattle.parts.specs.Rules.{told_next}
use Rattle.parts.specs.Laws.{next_ahead}
use Rattle.units.specs.Answer.{Role, role_by}
use Rattle.std.proofs.Common.{◌+◌}
use Rattle.units.specs.Laws.{RoleSeeking, role_or, or_is, role_seek_starts, role_seek_over, role_seek_refused, role_seek_goes}
use Rattle.units.proofs.role.role_from.Goals as goal

pub loop-p-init : goal.loop-p-init
loop-p-init c = role_seek_starts c.args.file.now c.args.start c.args.end c.requires

pub returns : goal.returns
returns c = role_seek_over c.args.file.now c.args.start c.args.end c.loop-p.i c.loop-p.got c.loop-p.invariant (sym c.in_ok-p.ensures ∙ ap (λ x. told_next (Ok x)) c.in_default.is)

pub returns-in_err-p : goal.returns-in_err-p
returns-in_err-p c =
    let p = err_from_is_err_and c.from_residual.result c.from_residual.ensures.1 in
    rw (p.1, p.2) (role_seek_refused c.args.file.now c.args.start c.args.end c.loop-p.i c.loop-p.got c.loop-p.invariant _ (sym c.in_err-p.ensures))

pub overflow_add-i : goal.overflow_add-i
overflow_add-i c =
    let (a, b, d, e) = next_ahead c.args.file.now c.loop-p.i c.args.end (header_row_of c.in-Some.p) (sym c.in_ok-p.ensures ∙ ap (λ x. told_next (Ok x)) c.in-Some.is) in
    record { fits = omega arith }

pub loop-p-smaller : goal.loop-p-smaller
loop-p-smaller c =
    let (a, b, d, e) = next_ahead c.args.file.now c.loop-p.i c.args.end (header_row_of c.in-Some.p) (sym c.in_ok-p.ensures ∙ ap (λ x. told_next (Ok x)) c.in-Some.is) in
    let w : c.loop-p.i ≤ length c.args.file.now = c.loop-p.invariant.inside in
    omega arith

pub loop-p-preserved : goal.loop-p-preserved
loop-p-preserved c =
    let k = c.or-got.ensures ∙ or_is c.loop-p.got c.role_by.result ∙ ap (role_or c.loop-p.got) (c.role_by.ensures ∙ ap role_by c.part_kind.ensures) in
    subst (λ (z : Option Role). RoleSeeking c.args.file.now c.args.start c.args.end (c.in-Some.p.args.end + 1) z) (sym k)
    (role_seek_goes c.args.file.now c.args.start c.args.end c.loop-p.i c.loop-p.got c.loop-p.invariant c.in-Some.p (sym c.in_ok-p.ensures ∙ ap (λ x. told_next (Ok x)) c.in-Some.is))
