-- A real, read at places of the text: what the code's parts promise put together. Assumes nothing.
use Rattle.std.specs.Prelude.{ℕ, ◌+◌, ◌-◌, ◌^◌, ◌≤◌, ◌<◌, min, ◌≡◌, refl, Bool, true, false, ◌&&◌, length, take, drop, Float, Some, None, Result}
use Rattle.std.proofs.Common.{sym, ◌∙◌, arith, eq-eqb, ne_eqb, length-take, length-drop, take-append-drop, drop-drop}
use Rattle.std.proofs.Math.Path.{ap}
use mathlib.Core.List.{List, ◌++◌}
use Rattle.std.proofs.Math.Decide.{ℕ_discrete}
use Rattle.std.proofs.Math.Dec.{eqb}
use Rattle.common.specs.Pick.{pick}
use Rattle.record.specs.Text.{number_from}
use Rattle.reals.specs.Scalar.{unsigned, is_minus, Mantissa, fraction_of, exponent_of, parsed, unparsed, parsed_real, parse_of, class_of, real_of, any_of, any_real_of, NumberAt, DecimalAt, TensAt, InClass, ScaleAt, ReachOf, mantissa_bound}
use Rattle.reals.specs.Which.{real_by}
use Rattle.reals.specs.Answer.{read, refused, told_real}
use Rattle.long_reals.specs.Number.{number_in}
use Rattle.long_reals.specs.Digits.{digits_in}
use Rattle.long_reals.specs.DigitsRight.{number_append, number_in_only, number_lt, digits_le}
use Rattle.nearest.specs.Nearest.{signed}
use Rattle.nearest.specs.Power.{near_by}
use Rattle.reals.specs.Class.{ClassOf, class_told}
use Rattle.reals.specs.AnyRealLaws.{AnyAt, number_rest, fraction_rest}
use Rattle.reals.specs.FormRight.{unparsed_by}
use Rattle.reals.specs.declared.Reals.{Reals}
use Rattle.reals.specs.declared.NotRead.{NotRead}
use Rattle.reals.specs.declared.Number.{Number}
use Rattle.reals.specs.declared.Decimal.{Decimal}
use Rattle.reals.specs.declared.Power.{Power}

-- two rests of a text have the same length just where they begin at one place
same_place : (t : List ℕ) (i j : ℕ) → i ≤ length t → j ≤ length t → eqb (length (drop i t)) (length (drop j t)) ≡ eqb i j
same_place t i j h k = simp length-drop (go (ℕ_discrete i j))
  where
    go : Dec (i ≡ j) → eqb (length t - i) (length t - j) ≡ eqb i j
    go (yes e) = let f : length t - i ≡ length t - j = omega arith in eq-eqb (length t - i) (length t - j) f ∙ sym (eq-eqb i j e)
    go (no n) =
        let f : length t - i ≡ length t - j → ⊥ = λ e. n (omega arith) in
        ne_eqb (length t - i) (length t - j) f ∙ sym (ne_eqb i j n)

module _ (t : List ℕ) (a : ℕ) (here : drop a t ≡ unsigned t) (within : a ≤ length t) (w : Number) (whole : NumberAt t a 0 mantissa_bound w) (d : Decimal) (decimal : DecimalAt t w.next w.value d) where
  -- what follows the digits before the point begins where the code stands
  rest_is : (number_from 0 (unsigned t)).rest ≡ drop w.next t
  rest_is = ap (λ (l : List ℕ). (number_from 0 l).rest) (sym here) ∙ whole.rest 0

  -- the fraction is read from where the code stands after the digits before the point
  mant_is : fraction_of (number_from 0 (unsigned t)).value (number_from 0 (unsigned t)).rest ≡ fraction_of (number_from 0 (unsigned t)).value (drop w.next t)
  mant_is = ap (fraction_of (number_from 0 (unsigned t)).value) rest_is

  -- m, as the code has it, is held up to its cap
  held : d.value ≡ min mantissa_bound (fraction_of (number_from 0 (unsigned t)).value (number_from 0 (unsigned t)).rest).value
  held =
      decimal.value (number_from 0 (unsigned t)).value (whole.value 0 refl ∙ ap (λ (l : List ℕ). min mantissa_bound (number_from 0 l).value) here)
      ∙ ap (λ (m : Mantissa). min mantissa_bound m.value) (sym mant_is)

  -- the number of fraction digits is as the code has counted
  places : (fraction_of (number_from 0 (unsigned t)).value (number_from 0 (unsigned t)).rest).places ≡ d.places
  places = ap (λ (m : Mantissa). m.places) mant_is ∙ decimal.places (number_from 0 (unsigned t)).value

  -- what follows the fraction begins where the code stands
  after : (fraction_of (number_from 0 (unsigned t)).value (number_from 0 (unsigned t)).rest).rest ≡ drop d.next t
  after = ap (λ (m : Mantissa). m.rest) mant_is ∙ decimal.rest (number_from 0 (unsigned t)).value

  -- no digit stands before the point where the code has not moved
  none_at : eqb (length (number_from 0 (unsigned t)).rest) (length (unsigned t)) ≡ eqb w.next a
  none_at =
      ap (λ (l : List ℕ). eqb (length l) (length (unsigned t))) rest_is
      ∙ ap (λ (l : List ℕ). eqb (length (drop w.next t)) (length l)) (sym here)
      ∙ same_place t w.next a whole.within within

  -- the parse of the text, by the code's places
  parsed_at : parse_of t ≡ pick (eqb w.next a && eqb d.places 0) unparsed (parsed_real (is_minus t) (fraction_of (number_from 0 (unsigned t)).value (number_from 0 (unsigned t)).rest) (exponent_of (drop d.next t)))
  unfolding parse_of
  parsed_at =
      let M = fraction_of (number_from 0 (unsigned t)).value (number_from 0 (unsigned t)).rest in
      ap (λ (b : Bool). pick (b && eqb M.places 0) unparsed (parsed_real (is_minus t) M (exponent_of M.rest))) none_at
      ∙ ap (λ (f : ℕ). pick (eqb w.next a && eqb f 0) unparsed (parsed_real (is_minus t) M (exponent_of M.rest))) places
      ∙ ap (λ (l : List ℕ). pick (eqb w.next a && eqb d.places 0) unparsed (parsed_real (is_minus t) M (exponent_of l))) after

  -- a text without a digit before or after the point is 12
  pub no_digit : (which : Reals) → eqb w.next a && eqb d.places 0 ≡ true → refused 12 ≡ real_by which t
  no_digit which e = sym (unparsed_by which t (parsed_at ∙ rw e refl))

  -- a text with a malformed exponent is 12
  pub bad_tens : (which : Reals) → eqb w.next a && eqb d.places 0 ≡ false → TensAt (drop d.next t) None → refused 12 ≡ real_by which t
  bad_tens which e f = sym (unparsed_by which t (parsed_at ∙ rw (e, f) refl))

  -- else the parse has the sign, m, the number of fraction digits and the exponent that the code holds
  good_tens : (s : Bool) (g : Power) → eqb w.next a && eqb d.places 0 ≡ false → s ≡ is_minus t → (f : TensAt (drop d.next t) (Some g)) → parsed s (fraction_of (number_from 0 (unsigned t)).value (number_from 0 (unsigned t)).rest).value d.places g.down f.0 ≡ parse_of t
  good_tens s g e m f =
      let M = fraction_of (number_from 0 (unsigned t)).value (number_from 0 (unsigned t)).rest in
      ap (λ (b : Bool). parsed b M.value d.places g.down f.0) m
      ∙ ap (λ (k : ℕ). parsed (is_minus t) M.value k g.down f.0) (sym places)
      ∙ sym (parsed_at ∙ rw (e, f.1) refl)

  -- the digits of the mantissa make m
  pub digits_held : number_in 0 (take (d.next - a) (drop a t)) ≡ (fraction_of (number_from 0 (unsigned t)).value (number_from 0 (unsigned t)).rest).value
  digits_held =
      let M = fraction_of (number_from 0 (unsigned t)).value (number_from 0 (unsigned t)).rest in
      let low : a ≤ d.next = let x = whole.above in let y = decimal.above in omega arith in
      let n : a + (d.next - a) ≡ d.next = omega arith in
      number_in_only (number_in 0 (take (d.next - a) (drop a t))) M.value (drop d.next t)
      (sym (number_append 0 (take (d.next - a) (drop a t)) (drop d.next t))
      ∙ ap (λ (l : List ℕ). number_in 0 (take (d.next - a) (drop a t) ++ l)) (ap (λ (i : ℕ). drop i t) (sym n) ∙ sym (drop-drop (d.next - a) a t))
      ∙ ap (number_in 0) (take-append-drop (d.next - a) (drop a t) ∙ here)
      ∙ number_rest 0 (unsigned t)
      ∙ fraction_rest (number_from 0 (unsigned t)).value (number_from 0 (unsigned t)).rest
      ∙ ap (number_in M.value) after)

  -- m, as the code has it, is the number of the mantissa's digits held up to its cap
  pub m_held : d.value ≡ min mantissa_bound (number_in 0 (take (d.next - a) (drop a t)))
  m_held = held ∙ ap (min mantissa_bound) (sym digits_held)

  -- the digits of the mantissa are fewer than 2 ^ 63
  few : length t < 2 ^ 63 → digits_in (take (d.next - a) (drop a t)) < 2 ^ 63
  few l = let n = digits_le (take (d.next - a) (drop a t)) in let x = length-take (d.next - a) (drop a t) in let y = length-drop a t in omega arith

  -- a text whose parts are well formed answers as the class does of what the code holds
  pub good_class : (s : Bool) (g : Power) (r : Result Float NotRead) → eqb w.next a && eqb d.places 0 ≡ false → s ≡ is_minus t → TensAt (drop d.next t) (Some g) → ClassOf s d.value d.places g.down g.size r → told_real r ≡ real_of t
  unfolding real_of
  good_class s g r e m f c =
      let M = fraction_of (number_from 0 (unsigned t)).value (number_from 0 (unsigned t)).rest in
      c M.value f.0 held f.2 ∙ ap class_of (good_tens s g e m f)

  -- the same, by the power of ten that the code holds
  pub good_class_by : (s : Bool) (g p : Power) (r : Result Float NotRead) → eqb w.next a && eqb d.places 0 ≡ false → s ≡ is_minus t → TensAt (drop d.next t) (Some g)
      → ScaleAt d.places g.down g.size p → ReachOf d.places g.down g.size p → InClass s d.value p r → told_real r ≡ real_of t
  good_class_by s g p r e m f scale reach q = good_class s g r e m f (class_told s g.down d.value d.places g.size p r scale reach q)

  -- a text whose parts are well formed answers as any real does of what the code holds
  pub good_any : (s : Bool) (g : Power) (b : ℕ) → eqb w.next a && eqb d.places 0 ≡ false → s ≡ is_minus t → TensAt (drop d.next t) (Some g)
      → AnyAt s (number_in 0 (take (d.next - a) (drop a t))) d.places g.down g.size b → read b ≡ any_real_of t
  unfolding any_real_of
  good_any s g b e m f c =
      ap read (c f.0 f.2)
      ∙ ap (λ (n : ℕ). any_of (parsed s n d.places g.down f.0)) digits_held
      ∙ ap any_of (good_tens s g e m f)

  -- the same, by the power of ten that the code holds, which is the right one for fewer than 2 ^ 63 digits
  pub good_any_by : (s : Bool) (g p : Power) (b : ℕ) → length t < 2 ^ 63 → eqb w.next a && eqb d.places 0 ≡ false → s ≡ is_minus t → TensAt (drop d.next t) (Some g)
      → ScaleAt d.places g.down g.size p → b ≡ signed s (near_by p.down (number_in 0 (take (d.next - a) (drop a t))) p.size) → read b ≡ any_real_of t
  good_any_by s g p b l e m f scale q =
      let xs = take (d.next - a) (drop a t) in
      good_any s g b e m f (λ X h. q ∙ ap (signed s) (scale (number_in 0 xs) X (digits_in xs) (number_lt xs) (few l) h))
