-- Any real as a measure, and where it may be unset: no refusal but 12, and what the class reads there is read the same. Shown once of all readings by
-- which a measure or what may be unset is read. Assumes nothing.
use Rattle.std.specs.Prelude.{ℕ, ◌≡◌, refl, Bool, true, false, List, Option, None, eqb}
use Rattle.std.proofs.Common.{◌∙◌, ap, eqb-true}
use Rattle.common.specs.Pick.{pick}
use Rattle.common.specs.Compare.{clash}
use Rattle.reals.specs.Scalar.{real_of, any_real_of}
use Rattle.reals.specs.Answer.{Answer, read, refused}
use Rattle.reals.specs.OldClass.{any_kept, any_12, any_refused}
use Rattle.scalars.specs.Scalars.{is_unset, as_given, option_of, Kernel, inside, bare, kernel_of, kernel_real, measured, measure_by, measure_of}

-- ---- no refusal but 12
-- an answer is read, or is 12
abbrev pub ScalarTwelve : {A : Type 0} → Answer A → Type 0
ScalarTwelve (read a) = Unit {0}
ScalarTwelve (refused n) = n ≡ 12

-- where an answer is read or 12, a refusal of it is 12
pub scalar_twelve_only : {A : Type 0} {a : Answer A} → ScalarTwelve a → (n : ℕ) → a ≡ refused n → n ≡ 12
scalar_twelve_only {a = read v} h n e = clash (cc)
scalar_twelve_only {a = refused m} h n e = let z : n ≡ m = cc in z ∙ h

-- where each refusal of an answer is 12, it is read or 12
pub scalar_twelve_is : {A : Type 0} (a : Answer A) → ((n : ℕ) → a ≡ refused n → n ≡ 12) → ScalarTwelve a
scalar_twelve_is (read v) h = tt
scalar_twelve_is (refused n) h = h n refl

-- a measure is refused with 12 alone, where reals are
pub measure_12 : (g : List ℕ → Answer ℕ) → ((t : List ℕ) (n : ℕ) → g t ≡ refused n → n ≡ 12) → (t : List ℕ) (n : ℕ) → measure_by g t ≡ refused n → n ≡ 12
measure_12 g only t = scalar_twelve_only (go (g t) (scalar_twelve_is (g t) (only t)) (kernel_of t))
  where
    inner : (k : Kernel) → ScalarTwelve (kernel_real g k)
    inner (inside u) = scalar_twelve_is (g u) (only u)
    inner bare = refl

    by : (u : Bool) (m : ℕ) → m ≡ 12 → (k : Kernel) → ScalarTwelve (pick u (kernel_real g k) (refused m))
    by true m h k = inner k
    by false m h k = h

    go : (a : Answer ℕ) → ScalarTwelve a → (k : Kernel) → ScalarTwelve (measured g a k)
    go (read b) h k = tt
    go (refused m) h k = by (eqb m 12) m h k

-- a value that may be unset is refused with 12 alone, where the value is
pub option_12 : {A : Type 0} (g : List ℕ → Answer A) → ((t : List ℕ) (n : ℕ) → g t ≡ refused n → n ≡ 12) → (t : List ℕ) (n : ℕ) → option_of g t ≡ refused n → n ≡ 12
option_12 {A} g only t = scalar_twelve_only (go (is_unset t) (g t) (scalar_twelve_is (g t) (only t)))
  where
    go : (u : Bool) (a : Answer A) → ScalarTwelve a → ScalarTwelve (pick u (read None) (as_given a))
    go true a h = tt
    go false (read v) h = tt
    go false (refused n) h = h

-- a measure of any real is read or 12, never 13
pub any_measure_refused : (t : List ℕ) (n : ℕ) → measure_by any_real_of t ≡ refused n → n ≡ 12
any_measure_refused = measure_12 any_real_of any_refused

-- any real that may be unset is read or 12, never 13
pub opt_any_refused : (t : List ℕ) (n : ℕ) → option_of any_real_of t ≡ refused n → n ≡ 12
opt_any_refused = option_12 any_real_of any_refused

-- a measure of any real that may be unset is read or 12, never 13
pub opt_any_measure_refused : (t : List ℕ) (n : ℕ) → option_of (measure_by any_real_of) t ≡ refused n → n ≡ 12
opt_any_measure_refused = option_12 (measure_by any_real_of) any_measure_refused

-- ---- what f reads, g reads the same
-- what f reads as a measure, g reads the same, where what is 12 by f is 12 by g: then both look inside
pub measure_kept : (f g : List ℕ → Answer ℕ) → ((t : List ℕ) (b : ℕ) → f t ≡ read b → g t ≡ read b) → ((t : List ℕ) → f t ≡ refused 12 → g t ≡ refused 12)
    → (t : List ℕ) (b : ℕ) → measure_by f t ≡ read b → measure_by g t ≡ read b
measure_kept f g kept other t b e = go (f t) refl (kernel_of t) e
  where
    inner : (k : Kernel) → kernel_real f k ≡ read b → kernel_real g k ≡ read b
    inner (inside u) d = kept u b d
    inner bare d = clash (cc)

    by : (u : Bool) (m : ℕ) → eqb m 12 ≡ u → f t ≡ refused m → (k : Kernel) → pick u (kernel_real f k) (refused m) ≡ read b → measured g (g t) k ≡ read b
    by true m q h k d = ap (λ (a : Answer ℕ). measured g a k) (other t (h ∙ ap refused (eqb-true m 12 q))) ∙ inner k d
    by false m q h k d = clash (cc)

    go : (a : Answer ℕ) → f t ≡ a → (k : Kernel) → measured f a k ≡ read b → measured g (g t) k ≡ read b
    go (read c) h k d = ap (λ (a : Answer ℕ). measured g a k) (kept t c h) ∙ d
    go (refused m) h k d = by (eqb m 12) m refl h k d

-- what f reads as a value that may be unset, g reads the same
pub option_kept : {A : Type 0} (f g : List ℕ → Answer A) → ((t : List ℕ) (b : A) → f t ≡ read b → g t ≡ read b) → (t : List ℕ) (v : Option A) → option_of f t ≡ read v → option_of g t ≡ read v
option_kept {A} f g kept t v e = go (is_unset t) (f t) refl e
  where
    go : (u : Bool) (a : Answer A) → f t ≡ a → pick u (read None) (as_given a) ≡ read v → pick u (read None) (as_given (g t)) ≡ read v
    go true a h d = d
    go false (read b) h d = ap as_given (kept t b h) ∙ d
    go false (refused n) h d = clash (cc)

-- document 01's measures keep their values where any real is read
pub any_measure_kept : (t : List ℕ) (b : ℕ) → measure_of t ≡ read b → measure_by any_real_of t ≡ read b
unfolding measure_of
any_measure_kept = measure_kept real_of any_real_of any_kept any_12

-- document 01's reals that may be unset keep their values where any real is read
pub opt_any_kept : (t : List ℕ) (v : Option ℕ) → option_of real_of t ≡ read v → option_of any_real_of t ≡ read v
opt_any_kept = option_kept real_of any_real_of any_kept

-- document 01's measures that may be unset keep their values where any real is read
pub opt_any_measure_kept : (t : List ℕ) (v : Option ℕ) → option_of measure_of t ≡ read v → option_of (measure_by any_real_of) t ≡ read v
opt_any_measure_kept = option_kept measure_of (measure_by any_real_of) any_measure_kept
