-- What the code's parts promise of eight bytes, joined to one number; that what `number` promises (Told.antt) allows one answer. Assumes nothing.
use Rattle.std.specs.Prelude.{ℕ, ◌<◌, ◌^◌, ◌≡◌, refl, Bool, true, false, List, [], ◌∷◌, Option, Some, None}
use Rattle.std.proofs.Common.{sym, ◌∙◌, ap}
use Rattle.record.specs.Byte.{digit}
use Rattle.record.specs.Form.{All, value_of}
use Rattle.eights.specs.Fields.{fields_by, EachNumber}
use Rattle.eights.specs.Told.{EightTold}

-- what `number` promises of eight bytes allows one answer
pub eight_told_only : (bs : List ℕ) (x y : Option ℕ) → EightTold bs x → EightTold bs y → x ≡ y
eight_told_only bs (Some v) (Some u) h k = ap Some (h.1 ∙ sym k.1)
eight_told_only bs (Some v) None h k = absurd (k h.0)
eight_told_only bs None (Some u) h k = absurd (h k.0)
eight_told_only bs None None h k = refl

-- ---- what the code's parts promise of the eight bytes, joined
-- bytes as one number, in fields of eight binary digits, the first lowest
abbrev pub joined_of : List ℕ → ℕ
joined_of bs = fields_by 8 (λ (b : ℕ). b) bs

-- a list of eight bytes
abbrev pub eight_of : ℕ → ℕ → ℕ → ℕ → ℕ → ℕ → ℕ → ℕ → List ℕ
eight_of a b c d e f g h = a ∷ b ∷ c ∷ d ∷ e ∷ f ∷ g ∷ h ∷ []

-- what a test tells of A: true that A holds, false that it does not
abbrev pub TestSays : Bool → Type 0 → Type 0
TestSays true A = A
TestSays false A = A → ⊥

-- the test tells of any eight bytes that w joins whether they are digits
abbrev pub DigitsTest : ℕ → Bool → Type 0
DigitsTest w r = (a b c d e f g h : ℕ) → EachNumber (λ (x : ℕ). x < 2 ^ 8) (eight_of a b c d e f g h) → w ≡ joined_of (eight_of a b c d e f g h) → TestSays r (All digit (eight_of a b c d e f g h))

-- where w joins eight digits, v is the number that they make
abbrev pub Makes : ℕ → ℕ → Type 0
Makes w v = (a b c d e f g h : ℕ) → All digit (eight_of a b c d e f g h) → w ≡ joined_of (eight_of a b c d e f g h) → v ≡ value_of (eight_of a b c d e f g h)
