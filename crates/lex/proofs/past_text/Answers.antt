use Rattle.lex.specs.PassedAtOnce.{LeavesOrRefused, text_left, text_stays}
use Rattle.lex.specs.Answer.{TextEnds}
use Rattle.error.specs.declared.Fault.TheVariants.{OpenString}
use Rattle.lex.specs.declared.Mode.TheVariants.{Text}
use Rattle.std.specs.Option.{ok_or}
use Rattle.std.proofs.Common.{List, ℕ, ◌+◌, ◌<◌, Option, Some, None, length, arith}
use Rattle.lex.proofs.past_text.Goals as goal

-- what a string's end says of a search that reads the string
left : (s : List ℕ) (q : ℕ) → q < length s → (r : Option ℕ) → TextEnds s (q + 1) r → LeavesOrRefused s Text q (q + 1) (ok_or r (OpenString q))
left s q h (Some p) (a, b, t) = (omega arith, b, text_left s q (q + 1) p t)
left s q h None t = text_stays s q (q + 1) (omega arith) t

pub returns : goal.returns
returns c = let a = c.args in rw c.ok_or.ensures.value (left a.s.now a.q c.requires c.text_end.result c.text_end.ensures)
