use Rattle.params.specs.Seek.{param_text_past, param_text_never}
use Rattle.params.proofs.text_step.Goals as goal

pub returns-in-Some : goal.returns-in-Some
returns-in-Some c = let s = c.args.s in
    rw c.to.ensures (param_text_past c.args.part.now s.at s.solid s.depth c.string_end.result _ c.requires c.string_end.ensures.result_value c.string_end.ensures.token_end_in c.in-Some.is)

pub returns-in-None : goal.returns-in-None
returns-in-None c = let s = c.args.s in
    param_text_never c.args.part.now s.at s.solid s.depth c.string_end.result c.requires c.string_end.ensures.result_value c.in-None.is
