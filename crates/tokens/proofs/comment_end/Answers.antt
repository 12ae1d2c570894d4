use Rattle.lex.specs.Answer.{CommentEnds}
use Rattle.tokens.specs.Answer.{told_token_end}
use Rattle.tokens.specs.Laws.{comment_only, comment_never_only}
use Rattle.tokens.specs.TokenRests.{comment_rest}
use Rattle.std.proofs.Common.{◌≡◌, List, ℕ, Option, Some, None, drop, sym}
use Rattle.tokens.proofs.comment_end.Goals as goal

-- what a comment's end says of the rest after it
told : (s : List ℕ) (i : ℕ) (r : Option ℕ) → CommentEnds s i r → told_token_end s r ≡ comment_rest (drop i s)
told s i (Some p) (a, b, q) = sym (comment_only q)
told s i None q = sym (comment_never_only q)

pub returns-clause-result_value : goal.returns-clause-result_value
returns-clause-result_value c = told _ _ _ c.comment_end.ensures
