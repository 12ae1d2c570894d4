-- Document 01, 'Parameters', with the class of reals of #101, and any real: reals, integers and references, computed from a trimmed parameter's bytes. Form.antt
-- has the same as rules, and FormRight.antt and WholeRight.antt that the two are one. Assumes nothing.
use Rattle.std.specs.Prelude.{ℕ, ◌+◌, ◌*◌, ◌-◌, ◌^◌, ◌≤◌, ◌<◌, min, ◌≡◌, Bool, true, false, ◌&&◌, ◌||◌, List, [], ◌∷◌, eqb, leb, ltb, length, drop, ℤ, pos, neg_ℤ, Float, Option, Some, None, Result}
use Rattle.common.specs.Pick.{pick}
use Rattle.record.specs.Text.{NumberAndRest, number_from}
use Rattle.nearest.specs.Near.{near}
use Rattle.nearest.specs.Nearest.{signed}
use Rattle.nearest.specs.Power.{near_by}
use Rattle.reals.specs.Answer.{Answer, read, refused, told_real, longest, farthest}
use Rattle.reals.specs.declared.NotRead.{NotRead}
use Rattle.reals.specs.declared.Number.{Number}
use Rattle.reals.specs.declared.Decimal.{Decimal}
use Rattle.reals.specs.declared.Power.{Power}

-- "Optional sign": what follows it in a text
abbrev pub unsigned : List ℕ → List ℕ
unsigned [] = []
unsigned (c ∷ r) = pick (eqb c 43 || eqb c 45) r (c ∷ r)

-- whether a text's sign is `-`
abbrev pub is_minus : List ℕ → Bool
is_minus [] = false
is_minus (c ∷ r) = eqb c 45

-- a mantissa: the number m of all digits, how many stand after the point, and what follows
pub record Mantissa : Type 0 where
  pub value : ℕ
  pub places : ℕ
  pub rest : List ℕ

-- a mantissa of its three parts
abbrev pub mantissa : ℕ → ℕ → List ℕ → Mantissa
mantissa m f r = record { value = m; places = f; rest = r }

-- after a point stands r, of which d was read: the number, as many places as bytes were read, and what is left
abbrev pub pointed : List ℕ → NumberAndRest → Mantissa
pointed r d = mantissa d.value (length r - length d.rest) d.rest

-- "with an optional point": w is the number of the digits before it
abbrev pub fraction_of : ℕ → List ℕ → Mantissa
fraction_of w [] = mantissa w 0 []
fraction_of w (c ∷ r) = pick (eqb c 46) (pointed r (number_from w r)) (mantissa w 0 (c ∷ r))

-- "optionally E or e, optional sign, digits": whether the exponent is negative, and its size
pub data Exponent : Type 0 where
  power : Bool → ℕ → Exponent
  malformed : Exponent

-- the bytes are digits, at least one
abbrev pub digits_only : List ℕ → Bool
digits_only u = eqb (length (number_from 0 u).rest) 0 && ltb 0 (length u)

-- an exponent's digits u, of which d is what was read: they are digits only, at least one, or it is malformed
abbrev pub exponent_of_digits : Bool → List ℕ → NumberAndRest → Exponent
exponent_of_digits s u d = pick (eqb (length d.rest) 0 && ltb 0 (length u)) (power s d.value) malformed

-- the exponent of a text: 0 of an empty one; else the letter, an optional sign and digits
abbrev pub exponent_of : List ℕ → Exponent
exponent_of [] = power false 0
exponent_of (c ∷ r) = pick (eqb c 69 || eqb c 101) (exponent_of_digits (is_minus r) (unsigned r) (number_from 0 (unsigned r))) malformed

-- a real's sign, m, number of fraction digits, and exponent; or what is not written as a real
pub data Parsed : Type 0 where
  parsed : Bool → ℕ → ℕ → Bool → ℕ → Parsed
  unparsed : Parsed

-- a real of a sign, a mantissa and an exponent, which must be well formed
abbrev pub parsed_real : Bool → Mantissa → Exponent → Parsed
parsed_real s m (power d x) = parsed s m.value m.places d x
parsed_real s m malformed = unparsed

-- "digits, at least one", else it is no real: where none stands before the point, and none after it
abbrev pub real_if_digits : Bool → List ℕ → NumberAndRest → Mantissa → Parsed
real_if_digits s u d m = pick (eqb (length d.rest) (length u) && eqb m.places 0) unparsed (parsed_real s m (exponent_of m.rest))

-- "Optional sign; digits, at least one, with an optional point; optionally E or e, optional sign, digits"
unfoldable pub parse_of : List ℕ → Parsed
parse_of t =
    real_if_digits (is_minus t) (unsigned t) (number_from 0 (unsigned t)) (fraction_of (number_from 0 (unsigned t)).value (number_from 0 (unsigned t)).rest)

-- −far ≤ e ≤ far, e being the exponent less the number f of fraction digits; true is a negative exponent
abbrev pub reaches : ℕ → ℕ → Bool → ℕ → Bool
reaches far f false x = leb x (f + far) && leb f (x + far)
reaches far f true x = leb (x + f) far

-- m has at most `long` digits and e is in reach: a class by its two bounds
abbrev pub belongs : ℕ → ℕ → ℕ → ℕ → Bool → ℕ → Bool
belongs long far m f d x = ltb m (10 ^ long) && reaches far f d x

-- "the f64 nearest to m·10^e"
abbrev pub near_ten : ℕ → ℕ → Bool → ℕ → ℕ
near_ten m f false x = near (m * 10 ^ x) (10 ^ f)
near_ten m f true x = near m (10 ^ (x + f))

-- the answer by a class's two bounds; "sign kept at zero". Document 01's class is the same at 15 and 22 (OldClass.antt)
abbrev pub class_in : ℕ → ℕ → Parsed → Answer ℕ
class_in long far (parsed s m f d x) = pick (belongs long far m f d x) (read (signed s (near_ten m f d x))) (refused 13)
class_in long far unparsed = refused 12

-- #101: "13 now means outside the wider class": the answer by the class's own bounds
abbrev pub class_of : Parsed → Answer ℕ
class_of p = class_in longest farthest p

-- what a text answers as a real
unfoldable pub real_of : List ℕ → Answer ℕ
real_of t = class_of (parse_of t)

-- every well-formed real is answered with the nearest f64, whatever its digits and its exponent: there is no class
abbrev pub any_of : Parsed → Answer ℕ
any_of (parsed s m f d x) = read (signed s (near_ten m f d x))
any_of unparsed = refused 12

-- what a text answers as any real
unfoldable pub any_real_of : List ℕ → Answer ℕ
any_real_of t = any_of (parse_of t)

-- ---- integers and references
-- "in the signed 64-bit range": an integer of this sign and size, or 12
abbrev pub integer_in_range : Bool → ℕ → Answer ℤ
integer_in_range false n = pick (ltb n (2 ^ 63)) (read (pos n)) (refused 12)
integer_in_range true n = pick (leb n (2 ^ 63)) (read (neg_ℤ (pos n))) (refused 12)

-- what a text answers as an integer: "integers with optional sign"
unfoldable pub whole_of : List ℕ → Answer ℤ
whole_of t = pick (digits_only (unsigned t)) (integer_in_range (is_minus t) (number_from 0 (unsigned t)).value) (refused 12)

-- what the bytes after `#` answer: "`#` and digits up to 4294967295"
abbrev pub reference_id : List ℕ → Answer ℕ
reference_id ds = pick (digits_only ds && leb (number_from 0 ds).value 4294967295) (read (number_from 0 ds).value) (refused 12)

-- what a text answers as a reference
unfoldable pub reference_of : List ℕ → Answer ℕ
reference_of [] = refused 12
reference_of (c ∷ r) = pick (eqb c 35) (reference_id r) (refused 12)

-- ---- what the code's parts promise, at a place of the text; a number is held as itself or, from the cap on, as the cap

-- the digits from `at`, after those that gave n: their number, held up to the cap, and the place after them
pub record NumberAt (t : List ℕ) (at from cap : ℕ) (r : Number) : Type 0 where
  pub value : (n : ℕ) → from ≡ min cap n → r.value ≡ min cap (number_from n (drop at t)).value
  pub rest : (n : ℕ) → (number_from n (drop at t)).rest ≡ drop r.next t
  pub above : at ≤ r.next
  pub within : r.next ≤ length t

-- the bytes are digits only, and their number is held up to the cap; or they are not
abbrev pub PlainAt : List ℕ → ℕ → Option ℕ → Type 0
PlainAt xs cap (Some n) = (digits_only xs ≡ true) × (n ≡ min cap (number_from 0 xs).value)
PlainAt xs cap None = digits_only xs ≡ false

-- one more than the largest m
abbrev pub mantissa_bound : ℕ
mantissa_bound = 10 ^ longest

-- the fraction from `at`, after digits that gave n: the number of all digits, how many stand after the point, and the place after them
pub record DecimalAt (t : List ℕ) (at from : ℕ) (r : Decimal) : Type 0 where
  pub value : (n : ℕ) → from ≡ min mantissa_bound n → r.value ≡ min mantissa_bound (fraction_of n (drop at t)).value
  pub places : (n : ℕ) → (fraction_of n (drop at t)).places ≡ r.places
  pub rest : (n : ℕ) → (fraction_of n (drop at t)).rest ≡ drop r.next t
  pub above : at ≤ r.next
  pub within : r.next ≤ length t
  pub short : r.places ≤ length t

-- the largest number that is held as itself; it stands for all above it
abbrev pub largest_held : ℕ
largest_held = 2 ^ 64 - 1

-- the exponent of a text, its size held up to the largest number, or malformed
abbrev pub TensAt : List ℕ → Option Power → Type 0
TensAt xs (Some e) = (n : ℕ) × (exponent_of xs ≡ power e.down n) × (e.size ≡ min largest_held n)
TensAt xs None = exponent_of xs ≡ malformed

-- r is the answer of the class for m, held up to its cap, and a power of ten
abbrev pub InClass : Bool → ℕ → Power → Result Float NotRead → Type 0
InClass s m p r = told_real r ≡ pick (ltb m mantissa_bound && leb p.size farthest) (read (signed s (near_by p.down m p.size))) (refused 13)

-- the power of ten that n digits are multiplied by, the exponent held up to the largest number; no text has 2 ^ 63 digits
abbrev pub ScaleAt : ℕ → Bool → ℕ → Power → Type 0
ScaleAt f d x r = (M X n : ℕ) → M < 10 ^ n → n < 2 ^ 63 → x ≡ min largest_held X → near_by r.down M r.size ≡ near_ten M f d X

-- the size of that power of ten tells whether the exponent is in the class's reach
abbrev pub ReachOf : ℕ → Bool → ℕ → Power → Type 0
ReachOf f d x r = (X : ℕ) → x ≡ min largest_held X → leb r.size farthest ≡ reaches farthest f d X
