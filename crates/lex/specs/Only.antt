-- "that two allowed answers coincide is proved": a place or a refusal that is told is one answer of the code.
-- Assumes nothing.
use Rattle.std.specs.Prelude.{ℕ, ◌≡◌, Result}
use Rattle.error.specs.Refusal.{told_result}
use Rattle.error.specs.Only.{result_only}
use Rattle.error.specs.declared.Fault.{Fault}

-- `find_record_end`, `matching_paren` and `skip_trivia` have one answer: two that tell the same are one
pub found_place_only : (a b : Result ℕ Fault) → told_result a ≡ told_result b → a ≡ b
found_place_only = result_only
