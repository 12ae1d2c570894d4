-- A number in the room against the fraction that it stands for: what the steps of the long path promise. Assumes nothing.
use Rattle.std.specs.Prelude.{ℕ, ◌+◌, ◌*◌, ◌^◌, ◌<◌, ◌≡◌, Bool, ltb}
use Rattle.nearest.specs.Near.{near}
use Rattle.nearest.specs.Nearest.{signed}

-- n divided by d is q, and `more` says whether anything is left
pub record Lowered (n d q : ℕ) (more : Bool) : Type 0 where
  pub rest : ℕ
  pub whole : q * d + rest ≡ n
  pub below : rest < d
  pub left : more ≡ ltb 0 rest

-- num / den is n divided by 10 ^ k, where n was moved up by s binary digits; `more` says whether digits of num below n were left out. `group` is how many
-- of num's units one of n counts, 10 ^ j where j digits were left out and 1 where none were, and `tail` is the number that they make
pub record MovedFraction (num den n s k : ℕ) (more : Bool) : Type 0 where
  pub group : ℕ
  pub tail : ℕ
  pub divisor : den ≡ 10 ^ k * group
  pub whole : num * 2 ^ s ≡ n * group + tail
  pub below : tail < group
  pub left : more ≡ ltb 0 tail

-- b is what n is lowered to: whatever fraction n stands for as `MovedFraction` says, its nearest f64 has the pattern b with its sign
abbrev pub LowersTo : Bool → ℕ → ℕ → ℕ → Bool → ℕ → Type 0
LowersTo s n up k more b = (num den : ℕ) → MovedFraction num den n up k more → b ≡ signed s (near num den)

-- n is a number moved up by 64 binary digits: the nearest f64 to that number times 10 ^ k has the pattern b with its sign. Where n is no multiple of 2 ^ 64
-- there is no such number, and this holds of every b; the code's `raised_in` is called with multiples alone
abbrev pub RaisesTo : Bool → ℕ → ℕ → ℕ → Type 0
RaisesTo s n k b = (num : ℕ) → num * 2 ^ 64 ≡ n → b ≡ signed s (near (num * 10 ^ k) 1)
