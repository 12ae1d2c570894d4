use Rattle.params.specs.Seek.{step_slash, comment_past, comment_stuck, on_byte}
use mathlib.Core.Path.{◌∙◌, sym}
use native.Mathlib.Omega.{arith}
use Rattle.params.proofs.slash_step.Goals as goal

pub returns-then-not-is_at : goal.returns-then-not-is_at
returns-then-not-is_at c = let p = c.requires in
    let s = c.args.s in
    let b = c.args.part.now in
    rw c.to.ensures (on_byte b s.at s.solid s.depth s.depth p.standing (step_slash b s.at s.solid s.depth p.standing.place p.byte (sym c.if-not-is_at.true ∙ c.is_at.ensures)) (omega arith))

pub returns-in-Some : goal.returns-in-Some
returns-in-Some c = let s = c.args.s in
    rw c.past.ensures (comment_past c.args.part.now s.at s.solid s.depth c.comment_end.result _ c.requires (sym c.is_at.ensures ∙ c.if-not-is_at.false) c.comment_end.ensures.result_value c.comment_end.ensures.token_end_in c.in-Some.is)

pub returns-in-None : goal.returns-in-None
returns-in-None c = let s = c.args.s in
    rw c.past-in-None.ensures (comment_stuck c.args.part.now s.at s.solid s.depth c.comment_end.result c.requires (sym c.is_at.ensures ∙ c.if-not-is_at.false) c.comment_end.ensures.result_value c.in-None.is)
