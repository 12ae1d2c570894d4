-- Rules.antt's rules and what Scalars.antt computes are one: what is computed is so, and nothing else is. Assumes nothing.
use Rattle.std.specs.Prelude.{ℕ, ◌-◌, ◌≡◌, ◌⊎◌, Bool, true, not, Option, None, eqb, length, get_or}
use Rattle.std.proofs.Math.Path.{refl}
use Rattle.std.proofs.Common.{sym, ◌∙◌, ap, subst, inl, inr, arith, eqb-true, ne_eqb, length-append, take_at}
use Rattle.std.proofs.Math.Bool.{false}
use mathlib.Core.List.{List, [], ◌∷◌, ◌++◌}
use Rattle.std.proofs.lemmas.Bool.{not-false}
use Rattle.common.specs.Pick.{pick}
use Rattle.common.specs.Compare.{clash}
use Rattle.record.specs.Text.{past}
use Rattle.record.specs.Byte.{digit}
use Rattle.common.specs.Tests.{bounds}
use Rattle.record.specs.Word.{same_bytes, trimmed}
use Rattle.record.specs.Form.{All, Free, SkippedBytes}
use Rattle.common.specs.Bytes.{bytes}
use Rattle.record.specs.FormRight.{past_is, past_only, trimmed_is, trimmed_only, same_is, same_self}
use Rattle.record.specs.FormRight.Parts.{first_other, all_back, all_join, all_kind}
use Rattle.reals.specs.Scalar.{reference_of, real_of, any_real_of}
use Rattle.reals.specs.Which.{real_by}
use Rattle.reals.specs.Answer.{Answer, read, refused}
use Rattle.reals.specs.Form.{Signed, Fraction, Powered, WrittenReal, RealForm, AnyForm, ReferenceForm}
use Rattle.reals.specs.FormRight.{real_is, real_only, any_is, any_only}
use Rattle.reals.specs.By.{unwritten_by}
use Rattle.reals.specs.WholeRight.{reference_is, reference_only}
use Rattle.reals.specs.declared.Reals.{Reals}
use Rattle.reals.specs.declared.Reals.TheVariants.{Class, Any}
use Rattle.scalars.specs.Scalars.{is_unset, as_given, option_of, unopening, inside, bare, enclosed, kernel_from, kernel_of, measured, measure_by, measure_of, truth_of}
use Rattle.scalars.specs.declared.Truth.{Truth}
use Rattle.scalars.specs.declared.Truth.TheVariants.{True, False, Unknown}
use Rattle.scalars.specs.Rules.{Typed, MeasureForm, TruthForm, OptionForm}

-- ---- the same bytes
-- texts that differ fail the test for the same bytes
pub same_not : (x y : List ℕ) → (x ≡ y → ⊥) → same_bytes x y ≡ false
same_not x y h = go (same_bytes x y) refl
  where
    go : (t : Bool) → same_bytes x y ≡ t → same_bytes x y ≡ false
    go true e = absurd (h (same_is x y e))
    go false e = e

-- ---- no real has a `(`
-- a digit is no `(`
digit_free : (c : ℕ) → digit c ≡ true → not (eqb c 40) ≡ true
digit_free c h = let k = bounds 48 c 57 h in rw (ne_eqb c 40 (λ e. absurd (omega arith))) refl

-- digits have no `(`
digits_free : (f : List ℕ) → All digit f → Free 40 f
digits_free f = all_kind digit (λ c. not (eqb c 40)) f digit_free

-- an optional sign before a text without `(` has no `(`
signed_free : {t u : List ℕ} {s : Bool} → Signed t s u → Free 40 u → Free 40 t
signed_free (Signed.unmarked u) h = h
signed_free (Signed.plus u) h = (refl, h)
signed_free (Signed.minus u) h = (refl, h)

-- a point and its digits have no `(`
fraction_free : {p f : List ℕ} → Fraction p f → Free 40 p
fraction_free Fraction.pointless = tt
fraction_free (Fraction.point f a) = (refl, digits_free f a)

-- an exponent has no `(`
powered_free : {e x : List ℕ} {d : Bool} → Powered e d x → Free 40 e
powered_free Powered.powerless = tt
powered_free (Powered.powered c xs x s (inl e) g a n) = (rw e refl, signed_free g (digits_free x a))
powered_free (Powered.powered c xs x s (inr e) g a n) = (rw e refl, signed_free g (digits_free x a))

-- what is written as a real has no `(`
written_free : {t w f x : List ℕ} {s d : Bool} → WrittenReal t s w f d x → Free 40 t
written_free {w} r =
    signed_free r.sign (rw r.shape (all_join _ w (r.p ++ r.e) (digits_free w r.whole) (all_join _ r.p r.e (fraction_free r.fraction) (powered_free r.power))))

-- a text with a keyword has a `(`
typed_opens : {t u : List ℕ} → Typed t u → Free 40 t → ⊥
typed_opens y h = let (n, k) = all_back (λ c. not (eqb c 40)) y.keyword (40 ∷ (y.body ++ (41 ∷ []))) (rw y.shape at h) in clash (cc)

-- what has a keyword is no real, whichever reals are asked for
pub typed_by : (which : Reals) {t u : List ℕ} → Typed t u → real_by which t ≡ refused 12
typed_by which {t} y = unwritten_by which t (λ s d w f x r. typed_opens y (written_free r))

-- ---- `KEYWORD(real)`
-- what follows the `(` of a text that ends in `)` has a part in parentheses: all but its last byte, trimmed
enclosed_only : (b : List ℕ) → enclosed (b ++ (41 ∷ [])) ≡ inside (trimmed b)
enclosed_only b =
    let n : length (b ++ (41 ∷ [])) - 1 ≡ length b = simp length-append (omega arith) in
    rw (n, last b, take_at b (41 ∷ []) (length b) refl) refl
  where
    last : (b : List ℕ) → get_or (b ++ (41 ∷ [])) (length b) 0 ≡ 41
    last [] = refl
    last (c ∷ b) = last b

-- the part in parentheses by the rule is the one that is computed
pub typed_only : {t u : List ℕ} → Typed t u → kernel_of t ≡ inside u
unfolding kernel_of
typed_only {t} {u} y =
    let r : List ℕ = y.body ++ (41 ∷ []) in
    let e : past unopening t ≡ 40 ∷ r = rw y.shape (past_only unopening y.keyword (40 ∷ r) record { all = y.first; over = first_other unopening 40 r refl }) in
    ap kernel_from e ∙ enclosed_only y.body ∙ ap inside (sym (trimmed_only y.trims))

-- a list ends in a `)`, or has no part in parentheses
Ended : List ℕ → Type 0
Ended r = ((b : List ℕ) × (r ≡ b ++ (41 ∷ []))) ⊎ (enclosed r ≡ bare)

-- every list ends in a `)`, or has no part in parentheses
ended : (r : List ℕ) → Ended r
unfolding Ended
ended [] = inr refl
ended (c ∷ r) = go c r
  where
    back : (c : ℕ) (r : List ℕ) → get_or (c ∷ r) (length r) 0 ≡ 41 → (b : List ℕ) × (c ∷ r ≡ b ++ (41 ∷ []))
    back c [] e = ([], cc)
    back c (d ∷ r) e = let (b, f) = back d r e in (c ∷ b, cc)

    go : (c : ℕ) (r : List ℕ) → ((b : List ℕ) × (c ∷ r ≡ b ++ (41 ∷ []))) ⊎ (enclosed (c ∷ r) ≡ bare)
    go c r = by (eqb (get_or (c ∷ r) (length r) 0) 41) refl
      where
        n : length (c ∷ r) - 1 ≡ length r
        n = omega arith

        by : (t : Bool) → eqb (get_or (c ∷ r) (length r) 0) 41 ≡ t → ((b : List ℕ) × (c ∷ r ≡ b ++ (41 ∷ []))) ⊎ (enclosed (c ∷ r) ≡ bare)
        by true e = inl (back c r (eqb-true _ 41 e))
        by false e = inr (rw (n, e) refl)

-- a text has a keyword and parentheses by the rule, or none are found
pub typed_comes : (t : List ℕ) → ((u : List ℕ) × Typed t u) ⊎ (kernel_of t ≡ bare)
unfolding kernel_of Ended
typed_comes t = go (past unopening t) refl (past_is unopening t)
  where
    cut : (f r : List ℕ) → t ≡ f ++ (40 ∷ r) → Free 40 f → Ended r → ((u : List ℕ) × Typed t u) ⊎ (enclosed r ≡ bare)
    cut f r e a (inl (b, g)) = inl (trimmed b, record { keyword = f; body = b; shape = cc; first = a; trims = trimmed_is b })
    cut f r e a (inr h) = inr h

    go : (x : List ℕ) → past unopening t ≡ x → (f : List ℕ) × (t ≡ f ++ past unopening t) × SkippedBytes unopening f (past unopening t)
        → ((u : List ℕ) × Typed t u) ⊎ (kernel_from x ≡ bare)
    go [] q k = inr refl
    go (c ∷ r) q (f, e, s) =
        let h : c ≡ 40 = eqb-true c 40 (not-false (eqb c 40) (s.over c r q)) in
        cut f r (e ∙ ap (λ (l : List ℕ). f ++ l) (q ∙ ap (λ (d : ℕ). d ∷ r) h)) s.all (ended r)

-- ---- measures
-- a text for which no part in parentheses is computed has none by the rule
none_inside : {t u : List ℕ} → kernel_of t ≡ bare → Typed t u → ⊥
none_inside e y = clash (cc (typed_only y))

-- measures, as g reads reals, none of which has a keyword
module _ (g : List ℕ → Answer ℕ) (keyless : (t u : List ℕ) → Typed t u → g t ≡ refused 12) where
  -- a measure with a keyword is read by what stands inside
  measure_typed : {t u : List ℕ} → Typed t u → measure_by g t ≡ g u
  measure_typed {t} {u} y = rw (keyless t u y, typed_only y) refl

  -- a measure without a keyword is read as it stands
  measure_bare : (t : List ℕ) → kernel_of t ≡ bare → measure_by g t ≡ g t
  measure_bare t e = rw e (go (g t))
    where
      go : (a : Answer ℕ) → measured g a bare ≡ a
      go (read b) = refl
      go (refused n) = by (eqb n 12) refl
        where
          by : (t : Bool) → eqb n 12 ≡ t → pick {A = Answer ℕ} t (refused 12) (refused n) ≡ refused n
          by true h = ap refused (sym (eqb-true n 12 h))
          by false h = refl

  -- "A measure is a real or `KEYWORD(real)`.": what is computed is the answer, where it is for reals
  pub measured_is : (P : List ℕ → Answer ℕ → Type 0) → ((t : List ℕ) → P t (g t)) → (t : List ℕ) → MeasureForm P t (measure_by g t)
  measured_is P h t = go (typed_comes t)
    where
      go : ((u : List ℕ) × Typed t u) ⊎ (kernel_of t ≡ bare) → MeasureForm P t (measure_by g t)
      go (inl (u, y)) = subst (MeasureForm P t) (sym (measure_typed y)) (MeasureForm.typed y (h u))
      go (inr e) = subst (MeasureForm P t) (sym (measure_bare t e)) (MeasureForm.bare (λ u. none_inside e) (h t))

  -- no answer but what is computed is a measure's by the rule, where that is so of reals
  pub measured_only : (P : List ℕ → Answer ℕ → Type 0) → ((t : List ℕ) (a : Answer ℕ) → P t a → a ≡ g t) → {t : List ℕ} {a : Answer ℕ} → MeasureForm P t a → a ≡ measure_by g t
  measured_only P h (MeasureForm.typed {u} {a} y r) = h u a r ∙ sym (measure_typed y)
  measured_only P h {t} {a} (MeasureForm.bare n r) = go (typed_comes t)
    where
      go : ((u : List ℕ) × Typed t u) ⊎ (kernel_of t ≡ bare) → a ≡ measure_by g t
      go (inl (u, y)) = absurd (n u y)
      go (inr e) = h t a r ∙ sym (measure_bare t e)

-- `next_measure_f64`: the reals of the class
pub measure_is : (t : List ℕ) → MeasureForm RealForm t (measure_of t)
unfolding measure_of
measure_is = measured_is real_of (λ t u. typed_by Class) RealForm real_is

-- `next_measure_f64`: no answer but what is computed is a measure's by the rule
pub measure_only : {t : List ℕ} {a : Answer ℕ} → MeasureForm RealForm t a → a ≡ measure_of t
unfolding measure_of
measure_only = measured_only real_of (λ t u. typed_by Class) RealForm (λ t a. real_only)

-- "A measure is a real or `KEYWORD(real)`": what is computed of any real is the answer by the rule
pub any_measure_is : (t : List ℕ) → MeasureForm AnyForm t (measure_by any_real_of t)
any_measure_is = measured_is any_real_of (λ t u. typed_by Any) AnyForm any_is

-- no answer but what is computed is by the rule a measure's of any real
pub any_measure_only : {t : List ℕ} {a : Answer ℕ} → MeasureForm AnyForm t a → a ≡ measure_by any_real_of t
any_measure_only = measured_only any_real_of (λ t u. typed_by Any) AnyForm (λ t a. any_only)

-- ---- booleans
-- "`.T.` `.F.` `.U.`": the answer by the rules is the one that is computed
pub truth_only : {t : List ℕ} {a : Answer Truth} → TruthForm t a → a ≡ truth_of t
unfolding truth_of
truth_only TruthForm.true = refl
truth_only TruthForm.false = refl
truth_only TruthForm.unknown = refl
truth_only {t} (TruthForm.other h k l) = rw (same_not t (bytes ".T.") h, same_not t (bytes ".F.") k, same_not t (bytes ".U.") l) refl

-- every text has an answer as a boolean by the rules
truth_comes : (t : List ℕ) → (a : Answer Truth) × TruthForm t a
truth_comes t = go (same_bytes t (bytes ".T.")) (same_bytes t (bytes ".F.")) (same_bytes t (bytes ".U.")) refl refl refl
  where
    differs : (w : List ℕ) → same_bytes t w ≡ false → t ≡ w → ⊥
    differs w h e = clash (cc (ap (λ (x : List ℕ). same_bytes x w) e ∙ same_self w))

    go : (a b c : Bool) → same_bytes t (bytes ".T.") ≡ a → same_bytes t (bytes ".F.") ≡ b → same_bytes t (bytes ".U.") ≡ c → (a : Answer Truth) × TruthForm t a
    go true b c p q r = (_, subst (λ (x : List ℕ). TruthForm x (read True)) (sym (same_is t _ p)) TruthForm.true)
    go false true c p q r = (_, subst (λ (x : List ℕ). TruthForm x (read False)) (sym (same_is t _ q)) TruthForm.false)
    go false false true p q r = (_, subst (λ (x : List ℕ). TruthForm x (read Unknown)) (sym (same_is t _ r)) TruthForm.unknown)
    go false false false p q r = (refused 12, TruthForm.other (differs _ p) (differs _ q) (differs _ r))

-- what is computed of a boolean is the answer by the rules
pub truth_is : (t : List ℕ) → TruthForm t (truth_of t)
truth_is t = let (a, h) = truth_comes t in subst (TruthForm t) (truth_only h) h

-- ---- `$`
module _ {A : Type 0} (P : List ℕ → Answer A → Type 0) (f : List ℕ → Answer A) where
  -- what is computed of a parameter that may be unset is the answer by the rule, where that is so of values
  pub option_is : ((t : List ℕ) → P t (f t)) → (t : List ℕ) → OptionForm P t (option_of f t)
  unfolding is_unset
  option_is h t = go (same_bytes t (bytes "$")) refl (f t) (h t)
    where
      differs : same_bytes t (bytes "$") ≡ false → t ≡ bytes "$" → ⊥
      differs e q = clash (cc (ap (λ (x : List ℕ). same_bytes x (bytes "$")) q ∙ same_self (bytes "$")))

      go : (u : Bool) → same_bytes t (bytes "$") ≡ u → (a : Answer A) → P t a → OptionForm P t (pick u (read None) (as_given a))
      go true e a p = subst (λ (x : List ℕ). OptionForm P x (read None)) (sym (same_is t _ e)) OptionForm.unset
      go false e (read a) p = OptionForm.given (differs e) p
      go false e (refused n) p = OptionForm.other (differs e) p

  -- no answer but what is computed is by the rule that of a parameter that may be unset, where that is so of values
  pub option_only : ((t : List ℕ) (a : Answer A) → P t a → a ≡ f t) → {t : List ℕ} {a : Answer (Option A)} → OptionForm P t a → a ≡ option_of f t
  unfolding is_unset
  option_only h OptionForm.unset = refl
  option_only h {t} (OptionForm.given {a} n p) = rw (same_not t (bytes "$") n) (ap as_given (h t (read a) p))
  option_only h {t} (OptionForm.other {n} k p) = rw (same_not t (bytes "$") k) (ap as_given (h t (refused n) p))

-- `next_opt_ref`: what is computed of a reference or `$` is the answer by the rule
pub opt_reference_is : (t : List ℕ) → OptionForm ReferenceForm t (option_of reference_of t)
opt_reference_is = option_is ReferenceForm reference_of reference_is

-- `next_opt_ref`: no answer but what is computed is by the rule that of a reference or `$`
pub opt_reference_only : {t : List ℕ} {a : Answer (Option ℕ)} → OptionForm ReferenceForm t a → a ≡ option_of reference_of t
opt_reference_only = option_only ReferenceForm reference_of (λ t a. reference_only)

-- `next_opt_f64`: what is computed of a real or `$` is the answer by the rule
pub opt_real_is : (t : List ℕ) → OptionForm RealForm t (option_of real_of t)
opt_real_is = option_is RealForm real_of real_is

-- `next_opt_f64`: no answer but what is computed is by the rule that of a real or `$`
pub opt_real_only : {t : List ℕ} {a : Answer (Option ℕ)} → OptionForm RealForm t a → a ≡ option_of real_of t
opt_real_only = option_only RealForm real_of (λ t a. real_only)

-- what is computed of any real or `$` is the answer by the rule
pub opt_any_is : (t : List ℕ) → OptionForm AnyForm t (option_of any_real_of t)
opt_any_is = option_is AnyForm any_real_of any_is

-- no answer but what is computed is by the rule that of any real or `$`
pub opt_any_only : {t : List ℕ} {a : Answer (Option ℕ)} → OptionForm AnyForm t a → a ≡ option_of any_real_of t
opt_any_only = option_only AnyForm any_real_of (λ t a. any_only)
