use Rattle.std.proofs.Common.{rules, ◌≡◌, sym, ◌∙◌, ap, subst, arith, ◌+◌, ◌≤◌, length, Option, Ok, Err}
use Rattle.statement.specs.Rows.{header_row_of}
use Rattle.statement.specs.declared.HeaderSpan.{HeaderSpan}
use Rattle.parts.specs.Part.{first_of}
use Rattle.parts.specs.Rules.{told_next}
use Rattle.parts.specs.Laws.{Sifting, sift_starts, sift_over, sift_refused, sift_goes, next_ahead}
use Rattle.parts.proofs.find_part.Goals as goal

pub loop-p-init : goal.loop-p-init
loop-p-init c = sift_starts c.args.s.now c.args.kind c.args.start c.args.end c.requires

pub returns : goal.returns
returns c = sift_over c.args.s.now c.args.kind c.args.start c.args.end c.loop-p.i c.loop-p.got c.loop-p.invariant (sym c.in_ok-p.ensures ∙ ap (λ x. told_next (Ok x)) c.in_default.is)

pub returns-in_err-p : goal.returns-in_err-p
returns-in_err-p c =
    let k : c.from_residual.result ≡ Err c.in_err-p.field-0.0 = search rules in
    rw k (sift_refused c.args.s.now c.args.kind c.args.start c.args.end c.loop-p.i c.loop-p.got c.loop-p.invariant _ (sym c.in_err-p.ensures))

pub part_is-requires : goal.part_is-requires
part_is-requires c =
    let (a, b, d, e) = next_ahead c.args.s.now c.loop-p.i c.args.end (header_row_of c.in-Some.p) (sym c.in_ok-p.ensures ∙ ap (λ x. told_next (Ok x)) c.in-Some.is) in
    (a, b)

pub overflow_add-i : goal.overflow_add-i
overflow_add-i c =
    let (a, b, d, e) = next_ahead c.args.s.now c.loop-p.i c.args.end (header_row_of c.in-Some.p) (sym c.in_ok-p.ensures ∙ ap (λ x. told_next (Ok x)) c.in-Some.is) in
    record { fits = omega arith }

pub loop-p-smaller : goal.loop-p-smaller
loop-p-smaller c =
    let (a, b, d, e) = next_ahead c.args.s.now c.loop-p.i c.args.end (header_row_of c.in-Some.p) (sym c.in_ok-p.ensures ∙ ap (λ x. told_next (Ok x)) c.in-Some.is) in
    let w : c.loop-p.i ≤ length c.args.s.now = c.loop-p.invariant.inside in
    omega arith

pub loop-p-preserved : goal.loop-p-preserved
loop-p-preserved c =
    let p = c.in-Some.p in
    subst (λ (z : Option HeaderSpan). Sifting c.args.s.now c.args.kind c.args.start c.args.end (p.args.end + 1) z) (sym (c.first_of-got.ensures ∙ ap (first_of c.loop-p.got p) c.part_is.ensures))
    (sift_goes c.args.s.now c.args.kind c.args.start c.args.end c.loop-p.i c.loop-p.got c.loop-p.invariant p (sym c.in_ok-p.ensures ∙ ap (λ x. told_next (Ok x)) c.in-Some.is))
