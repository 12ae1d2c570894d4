-- How many digits a text has, and what the steps promise that read the number which they make (Number.antt). Assumes nothing.
use Rattle.std.specs.Prelude.{ℕ, suc, ◌+◌, ◌/◌, ◌≤◌, ◌<◌, ◌≡◌, ◌⊎◌, true, List, [], ◌∷◌, length, take, drop}
use Rattle.common.specs.Pick.{pick}
use Rattle.record.specs.Byte.{digit}
use Rattle.limbs.specs.Worth.{worth}
use Rattle.long_reals.specs.Number.{number_in}
use Rattle.long_reals.specs.declared.Filled.{Filled}

-- how many digits a text has
unfoldable pub digits_in : List ℕ → ℕ
digits_in [] = 0
digits_in (c ∷ r) = pick (digit c) (suc (digits_in r)) (digits_in r)

-- a text begins with a digit that is not `0`
pub data LeadsNonzero : List ℕ → Type 0 where
  leads : (c : ℕ) (r : List ℕ) → digit c ≡ true → 48 < c → LeadsNonzero (c ∷ r)

-- i is the place of the first digit that is not `0`, or the end; what is passed over is worth nothing
pub record FirstAt (t : List ℕ) (from i : ℕ) : Type 0 where
  pub above : from ≤ i
  pub within : i ≤ length t
  pub same : number_in 0 (drop i t) ≡ number_in 0 (drop from t)
  pub found : (i ≡ length t) ⊎ LeadsNonzero (drop i t)

-- `count` digits from a place on are in the room's first `used` digits, and the rest of the text follows
pub record ReadAt (t : List ℕ) (from count : ℕ) (a : List ℕ) (r : Filled) : Type 0 where
  pub few : r.used ≤ count / 9 + 1
  pub some : 0 < r.used
  pub within : r.next ≤ length t
  pub value : number_in (worth (take r.used a)) (drop r.next t) ≡ number_in 0 (drop from t)
  pub rest : digits_in (drop r.next t) + count ≡ digits_in (drop from t)
