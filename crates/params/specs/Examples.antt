-- Points of document 01 that a reader may get wrong, and some that it leaves to the Rust, on small arguments. The bytes `1` and `2` are
-- 49 and 50, the comma 44, the quote 39, `"` 34, the parentheses 40 and 41, `/` 47 and `*` 42. Assumes nothing.
use Rattle.std.specs.Prelude.{ℕ, ◌≡◌, refl, List, [], ◌∷◌}
use Rattle.error.specs.Refusal.{refusal, good, bad}
use Rattle.common.specs.Walk.{walk}
use Rattle.lex.specs.Search.{trivia}
use Rattle.lex.specs.Grammar.{Trivia}
use Rattle.params.specs.Grammar.{Parameter, RunsToToken, Trails, Bound}
use Rattle.params.specs.ParameterEnd.{cut_of, started}
use Rattle.params.specs.Reader.{param_of}
use Rattle.params.specs.Answer.{reading, span}

-- "An empty parameter is a parameter", by the rules
pub empty_parameter : (r : List ℕ) → Parameter (44 ∷ r) (44 ∷ r) (44 ∷ r)
empty_parameter r = record { depth = 0; whole = RunsToToken.none; trails = Trails.shut Trivia.none; bounds = Bound.comma }

-- `A(1,)` has one parameter
one_parameter : param_of (49 ∷ 44 ∷ []) 0 2 ≡ reading (good (span 0 1)) 2 2
unfolding param_of started cut_of trivia walk
one_parameter = refl

-- after the one parameter of `A(1,)` there is none: 10
then_none : param_of (49 ∷ 44 ∷ []) 2 2 ≡ reading (bad (refusal 10 0 2)) 2 2
unfolding param_of started trivia walk
then_none = refl

-- an empty parameter before another, `,1`, is a parameter
empty_first : param_of (44 ∷ 49 ∷ []) 0 2 ≡ reading (good (span 0 0)) 1 2
unfolding param_of started cut_of trivia walk
empty_first = refl

-- a comma in a string ends no parameter: `'1,',2`
in_a_string : param_of (39 ∷ 49 ∷ 44 ∷ 39 ∷ 44 ∷ 50 ∷ []) 0 6 ≡ reading (good (span 0 4)) 5 6
unfolding param_of started cut_of trivia walk
in_a_string = refl

-- a comma in a binary literal ends no parameter: `"1,",2`
in_a_binary : param_of (34 ∷ 49 ∷ 44 ∷ 34 ∷ 44 ∷ 50 ∷ []) 0 6 ≡ reading (good (span 0 4)) 5 6
unfolding param_of started cut_of trivia walk
in_a_binary = refl

-- a comma in a nested list ends no parameter: `(1,),2`
in_a_list : param_of (40 ∷ 49 ∷ 44 ∷ 41 ∷ 44 ∷ 50 ∷ []) 0 6 ≡ reading (good (span 0 4)) 5 6
unfolding param_of started cut_of trivia walk
in_a_list = refl

-- a comma in a comment ends no parameter, and the comment is dropped: `1/*,*/,2`
in_a_comment : param_of (49 ∷ 47 ∷ 42 ∷ 44 ∷ 42 ∷ 47 ∷ 44 ∷ 50 ∷ []) 0 8 ≡ reading (good (span 0 1)) 7 8
unfolding param_of started cut_of trivia walk
in_a_comment = refl

-- "A `)` at depth 0 leaves it 0": `1),2`
stray : param_of (49 ∷ 41 ∷ 44 ∷ 50 ∷ []) 0 4 ≡ reading (good (span 0 2)) 3 4
unfolding param_of started cut_of trivia walk
stray = refl

-- "a literal not closed there is 11": the string of ` '1'` where the reader ends before its second quote
cut_off : param_of (32 ∷ 39 ∷ 49 ∷ 39 ∷ []) 0 3 ≡ reading (bad (refusal 11 0 1)) 1 3
unfolding param_of started cut_of trivia walk
cut_off = refl

-- "an open comment runs to the end": `1/*,2`
open_comment : param_of (49 ∷ 47 ∷ 42 ∷ 44 ∷ 50 ∷ []) 0 5 ≡ reading (good (span 0 1)) 5 5
unfolding param_of started cut_of trivia walk
open_comment = refl

-- "span [..] outside the file or backwards": the reader stays as it came
backwards : param_of (49 ∷ []) 1 0 ≡ reading (bad (refusal 9 0 0)) 1 0
unfolding param_of
backwards = refl
