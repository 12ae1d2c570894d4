-- Where any real is a zero and where an infinity, of a text: a zero up to and including half the least subnormal, and an infinity from halfway between the
-- largest f64 and 2 ^ 1024 on, each with the text's sign and each with its converse. Assumes nothing.
use Rattle.std.specs.Prelude.{ℕ, ◌-◌, ◌*◌, ◌^◌, ◌≤◌, ◌≡◌, Bool, true, false, List, ◌++◌, length}
use Rattle.std.proofs.Common.{sym, ◌∙◌, ap, arith}
use Rattle.record.specs.Form.{value_of}
use Rattle.nearest.specs.PatternUnits.{infinity}
use Rattle.nearest.specs.Near.{near}
use Rattle.nearest.specs.Nearest.{signed}
use Rattle.nearest.proofs.Borders.{zero_is, near_zero_only, infinity_is, near_infinity_only}
use Rattle.reals.specs.Scalar.{any_real_of}
use Rattle.reals.specs.Answer.{Answer, read, refused}
use Rattle.reals.specs.Form.{WrittenReal, upper_side, lower_side, AnyForm}
use Rattle.reals.specs.FormRight.{any_of_lem, any_only, under_pos}

-- two patterns that are the same with one sign are the same
signed_one : (s : Bool) (a b : ℕ) → signed s a ≡ signed s b → a ≡ b
signed_one true a b e = omega arith
signed_one false a b e = omega arith

-- the pattern that is read, 0 at a refusal
pattern : Answer ℕ → ℕ
pattern (read b) = b
pattern (refused n) = 0

-- a text that is written as a real, and its number as a fraction
module _ {t w f x : List ℕ} {s down : Bool} (r : WrittenReal t s w f down x) where
  -- the upper side of a written real's number as a fraction
  abbrev num : ℕ
  num = upper_side (value_of (w ++ f)) down (value_of x)

  -- the lower side of a written real's number as a fraction
  abbrev den : ℕ
  den = lower_side (length f) down (value_of x)

  -- the pattern that a written real reads as, without its sign, is the nearest one
  nearest_read : (b : ℕ) → any_real_of t ≡ read (signed s b) → near num den ≡ b
  unfolding pattern
  nearest_read b e = signed_one s (near num den) b (ap pattern (sym (any_of_lem r) ∙ e))

  -- a written real of at most half the least subnormal is a zero with its sign
  pub any_zero_is : num * 2 ^ 1075 ≤ den → any_real_of t ≡ read (signed s 0)
  any_zero_is l = sym (any_only (AnyForm.real r (zero_is num den (under_pos (length f) down (value_of x)) l)))

  -- no written real above half the least subnormal is a zero with its sign
  pub any_zero_only : any_real_of t ≡ read (signed s 0) → num * 2 ^ 1075 ≤ den
  any_zero_only e = near_zero_only num den (under_pos (length f) down (value_of x)) (nearest_read 0 e)

  -- a written real from halfway between the largest f64 and 2 ^ 1024 on is an infinity with its sign
  pub any_infinity_is : den * ((2 ^ 54 - 1) * 2 ^ 970) ≤ num → any_real_of t ≡ read (signed s infinity)
  any_infinity_is l = sym (any_only (AnyForm.real r (infinity_is num den (under_pos (length f) down (value_of x)) l)))

  -- no written real below halfway between the largest f64 and 2 ^ 1024 is an infinity with its sign
  pub any_infinity_only : any_real_of t ≡ read (signed s infinity) → den * ((2 ^ 54 - 1) * 2 ^ 970) ≤ num
  any_infinity_only e = near_infinity_only num den (under_pos (length f) down (value_of x)) (nearest_read infinity e)
