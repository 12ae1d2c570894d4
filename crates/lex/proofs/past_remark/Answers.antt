use Rattle.lex.specs.PassedAtOnce.{LeavesOrRefused, remark_left, remark_stays}
use Rattle.lex.specs.Answer.{CommentEnds}
use Rattle.error.specs.declared.Fault.TheVariants.{OpenComment}
use Rattle.lex.specs.declared.Mode.TheVariants.{Remark}
use Rattle.std.specs.Option.{ok_or}
use Rattle.std.proofs.Common.{List, ℕ, ◌+◌, ◌≤◌, Option, Some, None, length, arith}
use Rattle.lex.proofs.past_remark.Goals as goal

-- what a comment's end says of a search that reads the comment
left : (s : List ℕ) (q : ℕ) → q + 2 ≤ length s → (r : Option ℕ) → CommentEnds s (q + 2) r → LeavesOrRefused s Remark q (q + 2) (ok_or r (OpenComment q))
left s q h (Some p) (a, b, t) = (omega arith, b, remark_left s q (q + 2) p t)
left s q h None t = remark_stays s q (q + 2) (omega arith) t

pub returns : goal.returns
returns c = let a = c.args in rw c.ok_or.ensures.value (left a.s.now a.q c.requires c.comment_end.result c.comment_end.ensures)
