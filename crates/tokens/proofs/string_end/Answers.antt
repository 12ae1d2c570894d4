use Rattle.lex.specs.Answer.{TextEnds}
use Rattle.tokens.specs.Answer.{told_token_end}
use Rattle.tokens.specs.Laws.{string_only, string_never_only}
use Rattle.tokens.specs.TokenRests.{string_rest}
use Rattle.std.proofs.Common.{◌≡◌, List, ℕ, Option, Some, None, drop, sym}
use Rattle.tokens.proofs.string_end.Goals as goal

-- what a string's end says of the rest after it
told : (s : List ℕ) (i : ℕ) (r : Option ℕ) → TextEnds s i r → told_token_end s r ≡ string_rest (drop i s)
told s i (Some p) (a, b, q) = sym (string_only q)
told s i None q = sym (string_never_only q)

pub returns-clause-result_value : goal.returns-clause-result_value
returns-clause-result_value c = told _ _ _ c.text_end.ensures
