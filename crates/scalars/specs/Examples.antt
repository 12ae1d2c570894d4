-- Points that document 01 leaves to the Rust, or where the two part and the Rust decides, and what is said of an empty parameter.
-- Assumes nothing.
use Rattle.std.specs.Prelude.{◌≡◌, refl, []}
use Rattle.common.specs.Walk.{walk}
use Rattle.common.specs.Bytes.{bytes}
use Rattle.record.specs.Text.{past, trail, number_from}
use Rattle.reals.specs.Scalar.{parse_of, real_of, whole_of, reference_of}
use Rattle.reals.specs.Answer.{refused}
use Rattle.scalars.specs.Scalars.{is_unset, option_of, kernel_of, measure_of, truth_of}

-- "An empty parameter is a parameter (12 for every scalar)": as a reference it is 12
empty_reference : reference_of [] ≡ refused 12
unfolding reference_of
empty_reference = refl

-- an empty parameter, read as a reference or `$`, is 12
empty_option : option_of reference_of [] ≡ refused 12
unfolding reference_of is_unset
empty_option = refl

-- an empty parameter, read as an integer, is 12
empty_whole : whole_of [] ≡ refused 12
unfolding whole_of number_from walk
empty_whole = refl

-- an empty parameter, read as a real, is 12
empty_real : real_of [] ≡ refused 12
unfolding real_of parse_of number_from walk
empty_real = refl

-- an empty parameter, read as a measure, is 12
empty_measure : measure_of [] ≡ refused 12
unfolding measure_of kernel_of real_of parse_of number_from past walk
empty_measure = refl

-- an empty parameter, read as a boolean, is 12
empty_truth : truth_of [] ≡ refused 12
unfolding truth_of
empty_truth = refl

-- any bytes, or none, may stand before the first `(` of a measure: `(1.)` reads as `1.` does
no_keyword : measure_of (bytes "(1.)") ≡ real_of (bytes "1.")
unfolding measure_of kernel_of real_of parse_of number_from past trail walk
no_keyword = refl

-- any bytes may stand before the first `(` of a measure: `$(1.)` reads as `1.` does
unset_keyword : measure_of (bytes "$(1.)") ≡ real_of (bytes "1.")
unfolding measure_of kernel_of real_of parse_of number_from past trail walk
unset_keyword = refl

-- any bytes may stand before the first `(` of a measure: `'s'( 1. )` reads as `1.` does
string_keyword : measure_of (bytes "'s'( 1. )") ≡ real_of (bytes "1.")
unfolding measure_of kernel_of real_of parse_of number_from past trail walk
string_keyword = refl

-- in a measure the first `(` byte counts, one in a comment too
comment_keyword : measure_of (bytes "K/*(*/(1.)") ≡ refused 12
unfolding measure_of kernel_of real_of parse_of number_from past trail walk
comment_keyword = refl

-- what stands in a measure's parentheses is trimmed of whitespace alone, not of comments
comment_inside : measure_of (bytes "K(/**/1.)") ≡ refused 12
unfolding measure_of kernel_of real_of parse_of number_from past trail walk
comment_inside = refl

-- the last byte of a measure with a `(` must be `)`
unclosed_measure : measure_of (bytes "K(1.") ≡ refused 12
unfolding measure_of kernel_of real_of parse_of number_from past walk
unclosed_measure = refl

-- #101: "`1E27` in", in a measure's parentheses too
farthest_inside : measure_of (bytes "K(1E27)") ≡ real_of (bytes "1E27")
unfolding measure_of kernel_of real_of parse_of number_from past trail walk
farthest_inside = refl

-- #101: "and `1E28` out": 13 in a measure's parentheses too
outside_inside : measure_of (bytes "K(1E28)") ≡ refused 13
unfolding measure_of kernel_of real_of parse_of number_from past trail walk
outside_inside = refl

-- `.t.` is no boolean
small_letter : truth_of (bytes ".t.") ≡ refused 12
unfolding truth_of
small_letter = refl
