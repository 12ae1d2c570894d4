-- The class of reals, where m and the exponent are held up to their caps: what `in_class` and `less_places` answer. Assumes nothing.
use Rattle.std.specs.Prelude.{ℕ, ◌+◌, ◌*◌, ◌-◌, ◌^◌, ◌≤◌, ◌<◌, min, ◌≡◌, refl, Bool, true, false, ◌&&◌, ltb, leb, Float, Result}
use Rattle.std.proofs.Common.{sym, ◌∙◌, ap, mul_assoc, mul-one, arith, le-ltb, le-leb, pow-add}
use Rattle.std.proofs.lemmas.Bool.{lt-leb}
use Rattle.std.proofs.Math.Decide.{dec_lt, dec_le}
use Rattle.nearest.specs.Near.{near}
use Rattle.nearest.proofs.Near.{near_same}
use Rattle.nearest.specs.Nearest.{signed}
use Rattle.nearest.specs.PowerLaws.{ten_pos}
use Rattle.nearest.specs.Power.{near_by}
use Rattle.common.specs.Pick.{pick}
use Rattle.reals.specs.Scalar.{parsed, class_of, reaches, mantissa_bound, largest_held, InClass, ScaleAt, ReachOf}
use Rattle.reals.specs.declared.Power.{Power}
use Rattle.reals.specs.declared.NotRead.{NotRead}
use Rattle.reals.specs.Answer.{read, refused, told_real, longest, farthest}

-- an exponent that is the fraction's length or more: m times 10 ^ (x - f) has the nearest f64 of m·10^x / 10^f
pub raised_same : (m f x : ℕ) → f ≤ x → near (m * 10 ^ (x - f)) 1 ≡ near (m * 10 ^ x) (10 ^ f)
raised_same m f x g =
    let t : x - f + f ≡ x = omega arith in
    near_same (m * 10 ^ (x - f)) 1 (m * 10 ^ x) (10 ^ f) (ten_pos 0) (ten_pos f)
    (mul_assoc m (10 ^ (x - f)) (10 ^ f) ∙ ap (λ (n : ℕ). m * n) (sym (pow-add 10 (x - f) f) ∙ ap (λ (n : ℕ). 10 ^ n) t) ∙ sym (mul-one (m * 10 ^ x)))

-- a fraction as long as the exponent says, or longer: m by 10 ^ (f - x) has the nearest f64 of m·10^x / 10^f
pub lowered_same : (m f x : ℕ) → x ≤ f → near m (10 ^ (f - x)) ≡ near (m * 10 ^ x) (10 ^ f)
lowered_same m f x g =
    let t : x + (f - x) ≡ f = omega arith in
    near_same m (10 ^ (f - x)) (m * 10 ^ x) (10 ^ f) (ten_pos (f - x)) (ten_pos f)
    (ap (λ (n : ℕ). m * n) (ap (λ (n : ℕ). 10 ^ n) (sym t) ∙ pow-add 10 x (f - x)) ∙ sym (mul_assoc m (10 ^ x) (10 ^ (f - x))))

-- where the second of two tests fails, both together do
pub no_and : (a : Bool) → a && false ≡ false
no_and true = refl
no_and false = refl

-- r is the answer of the class, where m is held up to its cap and the exponent up to the largest number
abbrev pub ClassOf : Bool → ℕ → ℕ → Bool → ℕ → Result Float NotRead → Type 0
ClassOf s m f d x r = (M X : ℕ) → m ≡ min mantissa_bound M → x ≡ min largest_held X → told_real r ≡ class_of (parsed s M f d X)

-- m held up to its cap, and the power of ten that the exponent and the fraction make: the answer of the class. A number of the class has few digits, so
-- that the power is the right one however long the text is
pub class_told : (s d : Bool) (m f x : ℕ) (p : Power) (r : Result Float NotRead) → ScaleAt f d x p → ReachOf f d x p → InClass s m p r → ClassOf s m f d x r
class_told s d m f x p r scale reach told = λ M X a b. told ∙ go M X a b (dec_lt M mantissa_bound)
  where
    go : (M X : ℕ) → m ≡ min mantissa_bound M → x ≡ min largest_held X → Dec (M < mantissa_bound) → pick (ltb m mantissa_bound && leb p.size farthest) (read (signed s (near_by p.down m p.size))) (refused 13) ≡ class_of (parsed s M f d X)
    go M X a b (yes k) =
        let e : m ≡ M = omega arith in
        let n : longest < 2 ^ 63 = omega arith in
        ap (λ (v : ℕ). pick (ltb v mantissa_bound && leb p.size farthest) (read (signed s (near_by p.down v p.size))) (refused 13)) e
        ∙ ap (λ (v : Bool). pick (ltb M mantissa_bound && v) (read (signed s (near_by p.down M p.size))) (refused 13)) (reach X b)
        ∙ ap (λ (v : ℕ). pick (ltb M mantissa_bound && reaches farthest f d X) (read (signed s v)) (refused 13)) (scale M X longest k n b)
    go M X a b (no k) =
        let u : mantissa_bound ≤ m = omega arith in
        let v : mantissa_bound ≤ M = omega arith in
        rw (le-ltb m mantissa_bound u, le-ltb M mantissa_bound v) refl

-- ---- whether an exponent is in the class's reach, by the size of the power of ten
module _ (f x X : ℕ) (b : x ≡ min largest_held X) where
  -- a negative exponent: its size and the fraction's length together
  pub reach_down : leb (min (x + f) largest_held) farthest ≡ reaches farthest f true X
  reach_down = go (dec_le (X + f) farthest)
    where
      go : Dec (X + f ≤ farthest) → leb (min (x + f) largest_held) farthest ≡ leb (X + f) farthest
      go (yes h) =
          let k : min (x + f) largest_held ≤ farthest = omega arith in
          le-leb (min (x + f) largest_held) farthest k ∙ sym (le-leb (X + f) farthest h)
      go (no h) =
          let g : farthest < X + f = omega arith in
          let k : farthest < min (x + f) largest_held = omega arith in
          lt-leb (min (x + f) largest_held) farthest k ∙ sym (lt-leb (X + f) farthest g)

  -- an exponent of the fraction's length or more: what it has over
  pub reach_up : f < 2 ^ 63 → f ≤ x → leb (x - f) farthest ≡ reaches farthest f false X
  reach_up w g = go (dec_le (x - f) farthest)
    where
      go : Dec (x - f ≤ farthest) → leb (x - f) farthest ≡ leb X (f + farthest) && leb f (X + farthest)
      go (yes h) =
          let z : X ≤ f + farthest = omega arith in
          let v : f ≤ X + farthest = omega arith in
          rw (le-leb (x - f) farthest h, le-leb X (f + farthest) z, le-leb f (X + farthest) v) refl
      go (no h) =
          let k : farthest < x - f = omega arith in
          let z : f + farthest < X = omega arith in
          rw (lt-leb (x - f) farthest k, lt-leb X (f + farthest) z) refl

  -- a fraction as long as the exponent says, or longer: what it has over
  pub reach_mid : f < 2 ^ 63 → x ≤ f → leb (f - x) farthest ≡ reaches farthest f false X
  reach_mid w g = go (dec_le (f - x) farthest)
    where
      z : X ≤ f + farthest
      z = omega arith

      go : Dec (f - x ≤ farthest) → leb (f - x) farthest ≡ leb X (f + farthest) && leb f (X + farthest)
      go (yes h) =
          let v : f ≤ X + farthest = omega arith in
          rw (le-leb (f - x) farthest h, le-leb X (f + farthest) z, le-leb f (X + farthest) v) refl
      go (no h) =
          let k : farthest < f - x = omega arith in
          let v : X + farthest < f = omega arith in
          rw (lt-leb (f - x) farthest k, le-leb X (f + farthest) z, lt-leb f (X + farthest) v) refl
