-- Document 01, 'Parameters', with the class of reals of #101, and any real: reals, integers and references as rules that name no loop: a rule speaks of a
-- list of bytes and of the parts it is put together from. The byte `#` is 35, `+` is 43, `-` is 45, `.` is 46, `E` is 69 and `e` is 101.
-- FormRight.antt and WholeRight.antt show that Scalar.antt computes just this, and that there is no other answer. Assumes nothing.
-- Definitions to be believed: no law, and nothing computed that no theorem ties (docs/BELIEVE.md).
use Rattle.std.specs.Prelude.{ℕ, ◌+◌, ◌*◌, ◌^◌, ◌≤◌, ◌<◌, ◌≡◌, ◌⊎◌, Bool, true, false, List, [], ◌∷◌, ◌++◌, ℤ, pos, neg_ℤ, length}
use Rattle.record.specs.Byte.{digit}
use Rattle.record.specs.Form.{All, value_of, Id}
use Rattle.nearest.specs.Nearest.{IsNearest, signed}
use Rattle.reals.specs.Answer.{Answer, read, refused, longest, farthest}

-- "Optional sign", and then u; true is the sign `-`
pub data Signed : List ℕ → Bool → List ℕ → Type 0 where
  unmarked : (u : List ℕ) → Signed u false u
  plus : (u : List ℕ) → Signed (43 ∷ u) false u
  minus : (u : List ℕ) → Signed (45 ∷ u) true u

-- "with an optional point": nothing, or a point and the digits f
pub data Fraction : List ℕ → List ℕ → Type 0 where
  pointless : Fraction [] []
  point : (f : List ℕ) → All digit f → Fraction (46 ∷ f) f

-- "optionally E or e, optional sign, digits": whether the exponent is negative, and its digits, none where there is no exponent
pub data Powered : List ℕ → Bool → List ℕ → Type 0 where
  powerless : Powered [] false []
  powered : (c : ℕ) (xs x : List ℕ) (s : Bool) → (c ≡ 69) ⊎ (c ≡ 101) → Signed xs s x → All digit x → (x ≡ [] → ⊥) → Powered (c ∷ xs) s x

-- "Optional sign; digits, at least one, with an optional point; optionally E or e, optional sign, digits": the digits before the
-- point, those after it, and the exponent's
pub record WrittenReal (t : List ℕ) (s : Bool) (w f : List ℕ) (down : Bool) (x : List ℕ) : Type 0 where
  pub u : List ℕ
  pub p : List ℕ
  pub e : List ℕ
  pub sign : Signed t s u
  pub shape : u ≡ w ++ (p ++ e)
  pub whole : All digit w
  pub fraction : Fraction p f
  pub some : w ++ f ≡ [] → ⊥
  pub power : Powered e down x

-- "e the exponent less the number of fraction digits": −far ≤ e ≤ far, the exponent being x and the number f
abbrev pub Reach : ℕ → ℕ → Bool → ℕ → Type 0
Reach far f false x = (x ≤ f + far) × (f ≤ x + far)
Reach far f true x = x + f ≤ far

-- #101: "m has at most 19 digits and −27 ≤ e ≤ 27", by the two bounds; "leading zeros dropped". The class is this at `longest` and `farthest` (Answer.antt)
pub record Classed (long far m f : ℕ) (down : Bool) (x : ℕ) : Type 0 where
  pub few : m < 10 ^ long
  pub reach : Reach far f down x

-- m·10^e as a fraction, the powers of ten multiplied out: its upper side
abbrev pub upper_side : ℕ → Bool → ℕ → ℕ
upper_side m false x = m * 10 ^ x
upper_side m true x = m

-- m·10^e as a fraction, the powers of ten multiplied out: its lower side
abbrev pub lower_side : ℕ → Bool → ℕ → ℕ
lower_side f false x = 10 ^ f
lower_side f true x = 10 ^ (x + f)

-- what a text answers as a real. #101: "answered with the nearest f64, ties to even", by its pattern, and "13 now means outside the wider class";
-- 01: "sign kept at zero", "all else, `inf` and `nan` included, is 12"
pub data RealForm : List ℕ → Answer ℕ → Type 0 where
  real : {t w f x : List ℕ} {s down : Bool} {b : ℕ} → WrittenReal t s w f down x → Classed longest farthest (value_of (w ++ f)) (length f) down (value_of x)
      → IsNearest (upper_side (value_of (w ++ f)) down (value_of x)) (lower_side (length f) down (value_of x)) b → RealForm t (read (signed s b))
  outside : {t w f x : List ℕ} {s down : Bool} → WrittenReal t s w f down x → (Classed longest farthest (value_of (w ++ f)) (length f) down (value_of x) → ⊥)
      → RealForm t (refused 13)
  other : {t : List ℕ} → ((s down : Bool) (w f x : List ℕ) → WrittenReal t s w f down x → ⊥) → RealForm t (refused 12)

-- what a text answers where any real is answered: the nearest f64, ties to even, the sign kept at zero, whatever the digits and the exponent. There is no class
-- and so no 13. Where zeros end and infinities begin, nearest/proofs/Borders.antt shows of `IsNearest`, and AnyBorders.antt of a text
pub data AnyForm : List ℕ → Answer ℕ → Type 0 where
  real : {t w f x : List ℕ} {s down : Bool} {b : ℕ} → WrittenReal t s w f down x
      → IsNearest (upper_side (value_of (w ++ f)) down (value_of x)) (lower_side (length f) down (value_of x)) b → AnyForm t (read (signed s b))
  other : {t : List ℕ} → ((s down : Bool) (w f x : List ℕ) → WrittenReal t s w f down x → ⊥) → AnyForm t (refused 12)

-- "in the signed 64-bit range": a number, negative where true
abbrev pub Ranged : Bool → ℕ → Type 0
Ranged false n = n < 2 ^ 63
Ranged true n = n ≤ 2 ^ 63

-- the integer of a size, negative where true
abbrev pub valued : Bool → ℕ → ℤ
valued false n = pos n
valued true n = neg_ℤ (pos n)

-- "integers with optional sign": digits, at least one, whose number is in the signed 64-bit range
pub record Integer (t : List ℕ) (s : Bool) (ds : List ℕ) : Type 0 where
  pub sign : Signed t s ds
  pub all : All digit ds
  pub some : ds ≡ [] → ⊥
  pub within : Ranged s (value_of ds)

-- what a text answers as an integer: the integer, or 12
pub data WholeForm : List ℕ → Answer ℤ → Type 0 where
  whole : {t ds : List ℕ} {s : Bool} → Integer t s ds → WholeForm t (read (valued s (value_of ds)))
  other : {t : List ℕ} → ((s : Bool) (ds : List ℕ) → Integer t s ds → ⊥) → WholeForm t (refused 12)

-- what a text answers as a reference: "`#` and digits up to 4294967295", as a record's id, or 12
pub data ReferenceForm : List ℕ → Answer ℕ → Type 0 where
  reference : (ds : List ℕ) → Id ds → ReferenceForm (35 ∷ ds) (read (value_of ds))
  other : {t : List ℕ} → ((ds : List ℕ) → t ≡ 35 ∷ ds → Id ds → ⊥) → ReferenceForm t (refused 12)
