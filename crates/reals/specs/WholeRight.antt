-- Form.antt's rules for integers and references and what Scalar.antt computes are one. Assumes nothing.
use Rattle.std.specs.Prelude.{ℕ, ◌^◌, ◌≤◌, ◌<◌, ◌≡◌, refl, Bool, true, false, ◌&&◌, List, [], ◌∷◌, ◌++◌, ◌⊎◌, eqb, ltb, leb, ℤ, length}
use Rattle.std.proofs.Common.{sym, ◌∙◌, ap, subst, append-nil, inl, inr, arith, lt-ltb, le-ltb, le-leb, eqb-true, ltb-true}
use Rattle.std.proofs.Math.Decide.{dec_lt, dec_le}
use Rattle.std.proofs.lemmas.Bool.{lt-leb}
use Rattle.common.specs.Pick.{pick}
use Rattle.common.specs.Compare.{clash}
use Rattle.common.specs.Tests.{both}
use Rattle.record.specs.Byte.{digit}
use Rattle.record.specs.Text.{NumberAndRest, number_from}
use Rattle.record.specs.Form.{All, SkippedBytes, value_of, Id}
use Rattle.record.specs.FormRight.{number_is}
use Rattle.reals.specs.Scalar.{unsigned, is_minus, digits_only, integer_in_range, whole_of, reference_of}
use Rattle.reals.specs.Answer.{Answer, read, refused}
use Rattle.reals.specs.Form.{Ranged, valued, Integer, WholeForm, whole, ReferenceForm, reference}
use Rattle.reals.specs.FormRight.{signed_only, signed_is, digits_bare, number_all, some_length}

-- ---- digits, at least one
-- digits, at least one, pass the test of `digits_only`
only_digits : (u : List ℕ) → All digit u → (u ≡ [] → ⊥) → digits_only u ≡ true
only_digits u a n = rw (number_all u a, lt-ltb 0 (length u) (some_length u n)) refl

-- the number of digits is the one that `number_from` computes
value_digits : (u : List ℕ) → All digit u → (number_from 0 u).value ≡ value_of u
value_digits u a = ap (λ (d : NumberAndRest). d.value) (number_all u a)

-- a list of length 0 is empty
empty : (r : List ℕ) → length r ≡ 0 → r ≡ []
empty [] e = refl
empty (c ∷ r) e = absurd (omega arith)

-- what passes the test of `digits_only` are digits, at least one
are_digits : (u : List ℕ) → digits_only u ≡ true → All digit u × (u ≡ [] → ⊥)
are_digits u e = by (number_is u (number_from 0 u).value (number_from 0 u).rest refl)
  where
    k : (eqb (length (number_from 0 u).rest) 0 ≡ true) × (ltb 0 (length u) ≡ true)
    k = both (eqb (length (number_from 0 u).rest) 0) (ltb 0 (length u)) e

    by : (ds : List ℕ) × (u ≡ ds ++ (number_from 0 u).rest) × SkippedBytes digit ds (number_from 0 u).rest × ((number_from 0 u).value ≡ value_of ds) → All digit u × (u ≡ [] → ⊥)
    by (ds, h, s, v) =
        let z : (number_from 0 u).rest ≡ [] = empty (number_from 0 u).rest (eqb-true (length (number_from 0 u).rest) 0 k.0) in
        let f : u ≡ ds = h ∙ ap (λ (r : List ℕ). ds ++ r) z ∙ append-nil ds in
        let l : 0 < length u = ltb-true 0 (length u) k.1 in
        (subst (All digit) (sym f) s.all, λ n. none (ap length n) l)
      where
        none : length u ≡ 0 → 0 < length u → ⊥
        none a b = omega arith

-- ---- integers
-- an integer in the signed 64-bit range is read as it is
ranged_in : (s : Bool) (n : ℕ) → Ranged s n → integer_in_range s n ≡ read (valued s n)
ranged_in false n h = rw (lt-ltb n (2 ^ 63) h) refl
ranged_in true n h = rw (le-leb n (2 ^ 63) h) refl

-- an integer is in the signed 64-bit range, or is refused
ranged_is : (s : Bool) (n : ℕ) → Ranged s n ⊎ ((Ranged s n → ⊥) × (integer_in_range s n ≡ refused 12))
ranged_is false n = go (dec_lt n (2 ^ 63))
  where
    go : Dec (n < 2 ^ 63) → (n < 2 ^ 63) ⊎ ((n < 2 ^ 63 → ⊥) × (integer_in_range false n ≡ refused 12))
    go (yes h) = inl h
    go (no h) = let l : 2 ^ 63 ≤ n = omega arith in inr (h, rw (le-ltb n (2 ^ 63) l) refl)
ranged_is true n = go (dec_le n (2 ^ 63))
  where
    go : Dec (n ≤ 2 ^ 63) → (n ≤ 2 ^ 63) ⊎ ((n ≤ 2 ^ 63 → ⊥) × (integer_in_range true n ≡ refused 12))
    go (yes h) = inl h
    go (no h) = let l : 2 ^ 63 < n = omega arith in inr (h, rw (lt-leb n (2 ^ 63) l) refl)

-- an integer by the rule is the one that is computed
integer_only : {t ds : List ℕ} {s : Bool} → Integer t s ds → whole_of t ≡ read (valued s (value_of ds))
unfolding whole_of
integer_only {t} {ds} {s} i =
    let k = signed_only t ds s i.sign (digits_bare ds i.all i.some) in
    let n : (number_from 0 (unsigned t)).value ≡ value_of ds = ap (λ (u : List ℕ). (number_from 0 u).value) k.0 ∙ value_digits ds i.all in
    let e : digits_only (unsigned t) ≡ true = ap digits_only k.0 ∙ only_digits ds i.all i.some in
    ap (λ (b : Bool). pick b (integer_in_range (is_minus t) (number_from 0 (unsigned t)).value) (refused 12)) e
    ∙ ap (λ (m : ℕ). integer_in_range (is_minus t) m) n
    ∙ ap (λ (b : Bool). integer_in_range b (value_of ds)) k.1
    ∙ ranged_in s (value_of ds) i.within

-- a text is an integer, or is refused
integer_is : (t : List ℕ) → ((s : Bool) × (ds : List ℕ) × Integer t s ds) ⊎ (whole_of t ≡ refused 12)
unfolding whole_of
integer_is t = go (digits_only (unsigned t)) refl
  where
    go : (b : Bool) → digits_only (unsigned t) ≡ b → ((s : Bool) × (ds : List ℕ) × Integer t s ds) ⊎ (pick b (integer_in_range (is_minus t) (number_from 0 (unsigned t)).value) (refused 12) ≡ refused 12)
    go false e = inr refl
    go true e = by (are_digits (unsigned t) e) (ranged_is (is_minus t) (value_of (unsigned t)))
      where
        by : All digit (unsigned t) × (unsigned t ≡ [] → ⊥) → Ranged (is_minus t) (value_of (unsigned t)) ⊎ ((Ranged (is_minus t) (value_of (unsigned t)) → ⊥) × (integer_in_range (is_minus t) (value_of (unsigned t)) ≡ refused 12))
            → ((s : Bool) × (ds : List ℕ) × Integer t s ds) ⊎ (integer_in_range (is_minus t) (number_from 0 (unsigned t)).value ≡ refused 12)
        by d (inl r) = inl (is_minus t, unsigned t, record { sign = signed_is t; all = d.0; some = d.1; within = r })
        by d (inr r) = inr (ap (integer_in_range (is_minus t)) (value_digits (unsigned t) d.0) ∙ r.1)

-- what `whole_of` computes is the answer by the rule for integers
pub whole_is : (t : List ℕ) → WholeForm t (whole_of t)
whole_is t = go (integer_is t)
  where
    never : {z : ℤ} → ◌≡◌ {A = Answer ℤ} (read z) (refused 12) → ⊥
    never e = clash (cc)

    go : ((s : Bool) × (ds : List ℕ) × Integer t s ds) ⊎ (whole_of t ≡ refused 12) → WholeForm t (whole_of t)
    go (inl (s, ds, i)) = subst (WholeForm t) (sym (integer_only i)) (whole i)
    go (inr e) = subst (WholeForm t) (sym e) (WholeForm.other (λ s ds i. never (sym (integer_only i) ∙ e)))

-- no answer but what `whole_of` computes is allowed by the rule for integers
pub whole_only : {t : List ℕ} {a : Answer ℤ} → WholeForm t a → a ≡ whole_of t
whole_only (whole i) = sym (integer_only i)
whole_only {t} (WholeForm.other h) = go (integer_is t)
  where
    go : ((s : Bool) × (ds : List ℕ) × Integer t s ds) ⊎ (whole_of t ≡ refused 12) → refused 12 ≡ whole_of t
    go (inl (s, ds, i)) = absurd (h s ds i)
    go (inr e) = sym e

-- ---- references
-- a reference by the rule is the one that is computed
id_only : (ds : List ℕ) → Id ds → reference_of (35 ∷ ds) ≡ read (value_of ds)
unfolding reference_of
id_only ds i = rw (only_digits ds i.all i.some, value_digits ds i.all, le-leb (value_of ds) 4294967295 i.within) refl

-- a text is a reference, or is refused
id_is : (t : List ℕ) → ((ds : List ℕ) × (t ≡ 35 ∷ ds) × Id ds) ⊎ (reference_of t ≡ refused 12)
unfolding reference_of
id_is [] = inr refl
id_is (c ∷ r) = go (eqb c 35) (digits_only r) refl refl
  where
    by : c ≡ 35 → All digit r × (r ≡ [] → ⊥) → Dec (value_of r ≤ 4294967295) → ((ds : List ℕ) × (c ∷ r ≡ 35 ∷ ds) × Id ds) ⊎ (pick (leb (number_from 0 r).value 4294967295) (read (number_from 0 r).value) (refused 12) ≡ refused 12)
    by e d (yes l) = inl (r, ap (λ (b : ℕ). b ∷ r) e, record { all = d.0; some = d.1; within = l })
    by e d (no l) = let k : 4294967295 < value_of r = omega arith in inr (rw (value_digits r d.0, lt-leb (value_of r) 4294967295 k) refl)

    go : (a b : Bool) → eqb c 35 ≡ a → digits_only r ≡ b → ((ds : List ℕ) × (c ∷ r ≡ 35 ∷ ds) × Id ds) ⊎ (pick a (pick (b && leb (number_from 0 r).value 4294967295) (read (number_from 0 r).value) (refused 12)) (refused 12) ≡ refused 12)
    go false b p q = inr refl
    go true false p q = inr refl
    go true true p q = by (eqb-true c 35 p) (are_digits r q) (dec_le (value_of r) 4294967295)

-- what `reference_of` computes is the answer by the rule for references
pub reference_is : (t : List ℕ) → ReferenceForm t (reference_of t)
reference_is t = go (id_is t)
  where
    never : {n : ℕ} → ◌≡◌ {A = Answer ℕ} (read n) (refused 12) → ⊥
    never e = clash (cc)

    go : ((ds : List ℕ) × (t ≡ 35 ∷ ds) × Id ds) ⊎ (reference_of t ≡ refused 12) → ReferenceForm t (reference_of t)
    go (inl (ds, e, i)) = subst (λ (l : List ℕ). ReferenceForm l (reference_of l)) (sym e) (subst (ReferenceForm (35 ∷ ds)) (sym (id_only ds i)) (reference ds i))
    go (inr e) = subst (ReferenceForm t) (sym e) (ReferenceForm.other (λ ds f i. never (sym (id_only ds i) ∙ ap reference_of (sym f) ∙ e)))

-- no answer but what `reference_of` computes is allowed by the rule for references
pub reference_only : {t : List ℕ} {a : Answer ℕ} → ReferenceForm t a → a ≡ reference_of t
reference_only (reference ds i) = sym (id_only ds i)
reference_only {t} (ReferenceForm.other h) = go (id_is t)
  where
    go : ((ds : List ℕ) × (t ≡ 35 ∷ ds) × Id ds) ⊎ (reference_of t ≡ refused 12) → refused 12 ≡ reference_of t
    go (inl (ds, e, i)) = absurd (h ds e i)
    go (inr e) = sym e
