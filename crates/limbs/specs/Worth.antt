-- Whole numbers in digits of 32 binary digits each, as the long path of a decimal holds them; and what the steps on them promise.
-- Assumes nothing.
-- Definitions to be believed: no law, and nothing computed that no theorem ties (docs/BELIEVE.md).
use Rattle.std.specs.Prelude.{ℕ, ◌+◌, ◌*◌, ◌-◌, ◌^◌, ◌≤◌, ◌<◌, ◌≡◌, ◌⊎◌, List, [], ◌∷◌, ltb, length, take, get_or}
use Rattle.limbs.specs.declared.LeadingDigits.{LeadingDigits}

-- the number that digits make, the lowest first
unfoldable pub worth : List ℕ → ℕ
worth [] = 0
worth (x ∷ r) = x + 2 ^ 32 * worth r

-- each digit has 32 binary digits, as every `u32` has
abbrev pub LimbDigits : List ℕ → Type 0
LimbDigits xs = (i : ℕ) → get_or xs i 0 < 2 ^ 32

-- ys is the number in xs times m and a more, and r is what no longer fits
pub record Scaled (xs : List ℕ) (m a : ℕ) (ys : List ℕ) (r : ℕ) : Type 0 where
  pub same : length ys ≡ length xs
  pub whole : worth ys + r * 2 ^ (32 * length xs) ≡ worth xs * m + a

-- ys is the number in xs divided by d, and r is left; by 0 nothing is divided
pub record Divided (xs : List ℕ) (d : ℕ) (ys : List ℕ) (r : ℕ) : Type 0 where
  pub same : length ys ≡ length xs
  pub by_zero : d ≡ 0 → (ys ≡ xs) × (r ≡ 0)
  pub quotient : 0 < d → (worth ys * d + r ≡ worth xs) × (r < d)

-- a number has n digits: those from n on are 0, and the one below is not, if there is one
pub record Highest (xs : List ℕ) (n : ℕ) : Type 0 where
  pub within : n ≤ length xs
  pub same : worth (take n xs) ≡ worth xs
  pub leads : (n ≡ 0) ⊎ (0 < get_or xs (n - 1) 0)

-- how many binary digits stand below the leading ones
abbrev pub lower : LeadingDigits → ℕ
lower r = 32 * r.limbs + r.bits

-- a number by its leading 64 binary digits, and what stands below them; where anything does, the first digit is not 0
pub record LeadingDigitsOf (n : ℕ) (r : LeadingDigits) : Type 0 where
  pub rest : ℕ
  pub whole : r.digits * 2 ^ lower r + rest ≡ n
  pub under : rest < 2 ^ lower r
  pub left : r.more ≡ ltb 0 rest
  pub leads : ((r.limbs ≡ 0) × (r.bits ≡ 0)) ⊎ ((0 < r.bits) × (r.bits ≤ 32) × (2 ^ 63 ≤ r.digits))
