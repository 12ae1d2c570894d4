-- #101: "The old class keeps its answers bit for bit": what document 01's class reads, this one reads the same; 12 stays 12, and nothing else
-- becomes it. Shown once for all classes by their two bounds. And what the class reads, the reading of any real reads the same. Assumes nothing.
use Rattle.std.specs.Prelude.{ℕ, ◌≤◌, ◌≡◌, refl, ◌⊎◌, Bool, true, false, List}
use Rattle.std.proofs.Common.{sym, ◌∙◌, ap, inl, inr, lt_of_lt_of_le, arith}
use Rattle.std.proofs.Math.Nat.{pow-le-pow_right}
use Rattle.common.specs.Compare.{clash}
use Rattle.nearest.specs.Nearest.{signed}
use Rattle.reals.specs.Scalar.{Parsed, parsed, unparsed, parse_of, near_ten, belongs, class_in, class_of, real_of, any_of, any_real_of}
use Rattle.reals.specs.Answer.{Answer, read, refused, longest, farthest}
use Rattle.reals.specs.Form.{Reach, Classed}
use Rattle.reals.specs.FormRight.{Decided, class_is}

-- document 01: "Class: m has at most 15 digits and −22 ≤ e ≤ 22". What a text answered as a real before #101
abbrev pub real_before : List ℕ → Answer ℕ
real_before t = class_in 15 22 (parse_of t)

-- ---- two classes by their bounds, the second with bounds as large or larger
-- an exponent in reach is in reach by a wider bound
reach_wider : (far far' f : ℕ) (d : Bool) (x : ℕ) → far ≤ far' → Reach far f d x → Reach far' f d x
reach_wider far far' f false x h r = let a = r.0 in let b = r.1 in (omega arith, omega arith)
reach_wider far far' f true x h r = omega arith

-- a real of a class is of every class with bounds as large or larger
pub classed_wider : (long far long' far' m f : ℕ) (d : Bool) (x : ℕ) → long ≤ long' → far ≤ far' → Classed long far m f d x → Classed long' far' m f d x
classed_wider long far long' far' m f d x l h c =
    record { few = lt_of_lt_of_le c.few (pow-le-pow_right (omega arith) l); reach = reach_wider far far' f d x h c.reach }

-- an answer that is read is no refusal
read_not_refused : {b n : ℕ} → read b ≡ refused n → ⊥
read_not_refused e = clash (cc)

-- refusal 13 is not refusal 12
outside_not_other : ◌≡◌ {A = Answer ℕ} (refused 13) (refused 12) → ⊥
outside_not_other e = let z : ◌≡◌ {A = ℕ} 13 12 = ap number e in absurd (omega arith)
  where
    number : Answer ℕ → ℕ
    number (read b) = 0
    number (refused n) = n

-- a real of a class is answered by the nearest f64
read_in : (long far : ℕ) (s : Bool) (m f : ℕ) (d : Bool) (x : ℕ) → belongs long far m f d x ≡ true → class_in long far (parsed s m f d x) ≡ read (signed s (near_ten m f d x))
read_in long far s m f d x e = rw e refl

-- a well-formed real outside a class is 13
out_of : (long far : ℕ) (s : Bool) (m f : ℕ) (d : Bool) (x : ℕ) → belongs long far m f d x ≡ false → class_in long far (parsed s m f d x) ≡ refused 13
out_of long far s m f d x e = rw e refl

-- what a class reads, a wider one reads the same
pub class_kept : (long far long' far' : ℕ) (p : Parsed) (b : ℕ) → long ≤ long' → far ≤ far' → class_in long far p ≡ read b → class_in long' far' p ≡ read b
class_kept long far long' far' unparsed b l h e = absurd (read_not_refused (sym e))
class_kept long far long' far' (parsed s m f d x) b l h e = go (class_is long far m f d x) (class_is long' far' m f d x)
  where
    go : Decided long far m f d x → Decided long' far' m f d x → class_in long' far' (parsed s m f d x) ≡ read b
    go (inl c) (inl k) = read_in long' far' s m f d x k.1 ∙ sym (read_in long far s m f d x c.1) ∙ e
    go (inl c) (inr k) = absurd (k.0 (classed_wider long far long' far' m f d x l h c.0))
    go (inr c) k = absurd (read_not_refused (sym e ∙ out_of long far s m f d x c.1))

-- what is 12 by one class is 12 by every other
pub class_other : (long far long' far' : ℕ) (p : Parsed) → class_in long far p ≡ refused 12 → class_in long' far' p ≡ refused 12
class_other long far long' far' unparsed e = refl
class_other long far long' far' (parsed s m f d x) e = go (class_is long far m f d x)
  where
    go : Decided long far m f d x → class_in long' far' (parsed s m f d x) ≡ refused 12
    go (inl c) = absurd (read_not_refused (sym (read_in long far s m f d x c.1) ∙ e))
    go (inr c) = absurd (outside_not_other (sym (out_of long far s m f d x c.1) ∙ e))

-- what is 13 by one class is read by another, or 13
pub class_outside : (long far long' far' : ℕ) (p : Parsed) → class_in long far p ≡ refused 13 → ((b : ℕ) × (class_in long' far' p ≡ read b)) ⊎ (class_in long' far' p ≡ refused 13)
class_outside long far long' far' unparsed e = absurd (outside_not_other (sym e))
class_outside long far long' far' (parsed s m f d x) e = go (class_is long' far' m f d x)
  where
    go : Decided long' far' m f d x → ((b : ℕ) × (class_in long' far' (parsed s m f d x) ≡ read b)) ⊎ (class_in long' far' (parsed s m f d x) ≡ refused 13)
    go (inl k) = inl (signed s (near_ten m f d x), read_in long' far' s m f d x k.1)
    go (inr k) = inr (out_of long' far' s m f d x k.1)

-- ---- document 01's class and this one
-- "The old class keeps its answers bit for bit"
pub before_kept : (t : List ℕ) (b : ℕ) → real_before t ≡ read b → real_of t ≡ read b
unfolding real_of
before_kept t b e = class_kept 15 22 longest farthest (parse_of t) b (omega arith) (omega arith) e

-- a text that was 12 by document 01's class is 12 by this one
pub before_12 : (t : List ℕ) → real_before t ≡ refused 12 → real_of t ≡ refused 12
unfolding real_of
before_12 t e = class_other 15 22 longest farthest (parse_of t) e

-- a text that is 12 by this class was 12 by document 01's
pub before_12_back : (t : List ℕ) → real_of t ≡ refused 12 → real_before t ≡ refused 12
unfolding real_of
before_12_back t e = class_other longest farthest 15 22 (parse_of t) e

-- "13 now means outside the wider class": what was 13 is read or 13
pub before_13 : (t : List ℕ) → real_before t ≡ refused 13 → ((b : ℕ) × (real_of t ≡ read b)) ⊎ (real_of t ≡ refused 13)
unfolding real_of
before_13 t e = class_outside 15 22 longest farthest (parse_of t) e

-- by the rules, too, a real of document 01's class is one of this
pub before_classed : (m f : ℕ) (d : Bool) (x : ℕ) → Classed 15 22 m f d x → Classed longest farthest m f d x
before_classed m f d x c = classed_wider 15 22 longest farthest m f d x (omega arith) (omega arith) c

-- ---- the class and any real
-- what a class reads, the reading of any real reads the same
any_in : (long far : ℕ) (p : Parsed) (b : ℕ) → class_in long far p ≡ read b → any_of p ≡ read b
any_in long far unparsed b e = absurd (read_not_refused (sym e))
any_in long far (parsed s m f d x) b e = go (class_is long far m f d x)
  where
    go : Decided long far m f d x → any_of (parsed s m f d x) ≡ read b
    go (inl c) = sym (read_in long far s m f d x c.1) ∙ e
    go (inr c) = absurd (read_not_refused (sym e ∙ out_of long far s m f d x c.1))

-- document 01's readers do not change: where both answer, they answer the same bits
pub any_kept : (t : List ℕ) (b : ℕ) → real_of t ≡ read b → any_real_of t ≡ read b
unfolding real_of any_real_of
any_kept t b e = any_in longest farthest (parse_of t) b e

-- a text that is 12 by the class is 12 where any real is read
pub any_12 : (t : List ℕ) → real_of t ≡ refused 12 → any_real_of t ≡ refused 12
unfolding real_of any_real_of
any_12 t e = go (parse_of t) e
  where
    go : (p : Parsed) → class_of p ≡ refused 12 → any_of p ≡ refused 12
    go unparsed e = refl
    go (parsed s m f d x) e = by (class_is longest farthest m f d x)
      where
        by : Decided longest farthest m f d x → any_of (parsed s m f d x) ≡ refused 12
        by (inl c) = absurd (read_not_refused (sym (read_in longest farthest s m f d x c.1) ∙ e))
        by (inr c) = absurd (outside_not_other (sym (out_of longest farthest s m f d x c.1) ∙ e))

-- a text that is 13 by the class is answered where any real is read
pub any_13 : (t : List ℕ) → real_of t ≡ refused 13 → (b : ℕ) × (any_real_of t ≡ read b)
unfolding real_of any_real_of
any_13 t e = go (parse_of t) e
  where
    go : (p : Parsed) → class_of p ≡ refused 13 → (b : ℕ) × (any_of p ≡ read b)
    go unparsed e = absurd (outside_not_other (sym e))
    go (parsed s m f d x) e = (signed s (near_ten m f d x), refl)

-- where any real is read, no refusal is other than 12
pub any_refused : (t : List ℕ) (n : ℕ) → any_real_of t ≡ refused n → n ≡ 12
unfolding any_real_of
any_refused t n e = go (parse_of t) e
  where
    number : Answer ℕ → ℕ
    number (read b) = 12
    number (refused n) = n

    go : (p : Parsed) → any_of p ≡ refused n → n ≡ 12
    go unparsed e = sym (ap number e)
    go (parsed s m f d x) e = absurd (read_not_refused e)
