-- "that two allowed answers coincide is proved": a place that is told by what is left from there is one place. Assumes nothing.
use Rattle.std.specs.Prelude.{ℕ, ◌≤◌, ◌≡◌, refl, List, length, drop, Option, Some, None}
use Rattle.std.proofs.Common.{ap, arith, length-drop}
use Rattle.common.specs.Compare.{clash}
use Rattle.tokens.specs.Answer.{told_token_end, TokenEndIn}

-- `find_byte`: of two places in the file that leave the same, none is the later
pub byte_place_only : (s : List ℕ) (a b : ℕ) → a ≤ length s → b ≤ length s → drop a s ≡ drop b s → a ≡ b
byte_place_only s a b h k e = let l : length (drop a s) ≡ length (drop b s) = ap length e in omega (arith, length-drop a s, length-drop b s)

-- `string_end` and `comment_end` have one answer: two that leave the same rest are one
pub token_end_only : (s : List ℕ) (start : ℕ) (a b : Option ℕ) → TokenEndIn start (length s) a → TokenEndIn start (length s) b → told_token_end s a ≡ told_token_end s b → a ≡ b
token_end_only s start (Some p) (Some q) h k e = ap Some (byte_place_only s p q h.1 k.1 (cc))
token_end_only s start (Some p) None h k e = clash (cc)
token_end_only s start None (Some q) h k e = clash (cc)
token_end_only s start None None h k e = refl
