-- Form.antt's rules and what Scalar.antt computes are one: what is computed is so, and nothing else is. Assumes nothing.
use Rattle.std.specs.Prelude.{ℕ, suc, ◌+◌, ◌*◌, ◌-◌, ◌^◌, ◌≤◌, ◌<◌, ◌≡◌, refl, ◌⊎◌, Bool, true, false, ◌&&◌, ◌||◌, List, [], ◌∷◌, ◌++◌, eqb, leb, length}
use Rattle.std.proofs.Common.{sym, ◌∙◌, ap, subst, inl, inr, append-nil, arith, mul_assoc, add_assoc, add-mul, pow-add, lt-ltb, le-ltb, le-leb, eq-eqb, ne_eqb, eqb-true, length-append}
use Rattle.std.proofs.Math.Decide.{dec_lt, dec_le}
use Rattle.std.proofs.lemmas.Bool.{lt-leb}
use Rattle.common.specs.Pick.{pick}
use Rattle.common.specs.Compare.{clash}
use Rattle.common.specs.Tests.{bounds}
use Rattle.record.specs.Byte.{digit}
use Rattle.record.specs.Text.{NumberAndRest, number_and_rest, number_from}
use Rattle.record.specs.Form.{All, NotFirst, SkippedBytes, value_of}
use Rattle.record.specs.FormRight.{number_only, number_is}
use Rattle.record.specs.FormRight.Parts.{first_other, number_pass, number_halt, SplitAfter, split_is}
use Rattle.nearest.specs.Near.{near}
use Rattle.nearest.proofs.Near.{near_is, near_only}
use Rattle.nearest.specs.Nearest.{signed}
use Rattle.reals.specs.Scalar.{unsigned, is_minus, Mantissa, mantissa, pointed, fraction_of, power, malformed, exponent_of_digits, exponent_of, parsed, unparsed, real_if_digits, parse_of, reaches, belongs, near_ten, class_of, real_of, any_of, any_real_of}
use Rattle.reals.specs.Which.{real_by}
use Rattle.reals.specs.Answer.{Answer, read, refused, longest, farthest}
use Rattle.nearest.specs.PowerLaws.{ten_pos}
use Rattle.reals.specs.Form.{Signed, unmarked, plus, Fraction, pointless, point, Powered, powerless, powered, WrittenReal, Reach, Classed, upper_side, lower_side, RealForm, AnyForm, real, outside}
use Rattle.reals.specs.Form as Form
use Rattle.reals.specs.declared.Reals.{Reals}
use Rattle.reals.specs.declared.Reals.TheVariants.{Class, Any}

-- ---- the sign
-- a text does not begin with a sign: what is computed after one is the text itself, and it is not `-`
abbrev pub Bare : List ℕ → Type 0
Bare u = (unsigned u ≡ u) × (is_minus u ≡ false)

-- a text that begins with a byte above `-` begins with no sign
bare : (c : ℕ) (r : List ℕ) → 46 ≤ c → Bare (c ∷ r)
bare c r h =
    let a : c ≡ 43 → ⊥ = λ e. omega arith in
    let b : c ≡ 45 → ⊥ = λ e. omega arith in
    (rw (ne_eqb c 43 a, ne_eqb c 45 b) refl, ne_eqb c 45 b)

-- what follows an optional sign by the rule, and that sign, are what is computed
pub signed_only : (t u : List ℕ) (s : Bool) → Signed t s u → Bare u → (unsigned t ≡ u) × (is_minus t ≡ s)
signed_only t u s (unmarked v) h = h
signed_only t u s (plus v) h = (refl, refl)
signed_only t u s (Form.minus v) h = (refl, refl)

-- what is computed splits a text in an optional sign and what follows it
pub signed_is : (t : List ℕ) → Signed t (is_minus t) (unsigned t)
signed_is [] = unmarked []
signed_is (c ∷ r) = go (eqb c 43) (eqb c 45) refl refl
  where
    go : (a b : Bool) → eqb c 43 ≡ a → eqb c 45 ≡ b → Signed (c ∷ r) b (pick (a || b) r (c ∷ r))
    go true true p q = let z : ◌≡◌ {A = ℕ} 43 45 = sym (eqb-true c 43 p) ∙ eqb-true c 45 q in absurd (omega arith)
    go true false p q = rw (eqb-true c 43 p) (plus r)
    go false true p q = rw (eqb-true c 45 q) (Form.minus r)
    go false false p q = unmarked (c ∷ r)

-- a text that begins with a digit begins with no sign
digit_bare : (c : ℕ) (r : List ℕ) → digit c ≡ true → Bare (c ∷ r)
digit_bare c r h = let k = bounds 48 c 57 h in bare c r (omega arith)

-- ---- the exponent
-- a byte above `9` is no digit
not_digit : (c : ℕ) → 57 < c → digit c ≡ false
not_digit c h = rw (lt-leb c 57 h) (go (leb 48 c))
  where
    go : (b : Bool) → b && false ≡ false
    go true = refl
    go false = refl

-- `E` and `e` pass the test for an exponent's letter, and stand above `9`
letter : (c : ℕ) → (c ≡ 69) ⊎ (c ≡ 101) → (eqb c 69 || eqb c 101 ≡ true) × (57 < c)
letter c (inl e) = (rw (eq-eqb c 69 e) refl, omega arith)
letter c (inr e) = (rw (eq-eqb c 101 e) (go (eqb c 69)), omega arith)
  where
    go : (b : Bool) → b || true ≡ true
    go true = refl
    go false = refl

-- digits do not begin with a sign
pub digits_bare : (x : List ℕ) → All digit x → (x ≡ [] → ⊥) → Bare x
digits_bare [] a n = absurd (n refl)
digits_bare (c ∷ x) (h, a) n = digit_bare c x h

-- the empty text begins with no digit
nothing : NotFirst digit []
nothing c r e = clash (cc)

-- a text that is not empty has a positive length
pub some_length : (x : List ℕ) → (x ≡ [] → ⊥) → 0 < length x
some_length [] n = absurd (n refl)
some_length (c ∷ x) n = omega arith

-- of a text of digits alone all is read, and its number is the digits' value
pub number_all : (x : List ℕ) → All digit x → number_from 0 x ≡ number_and_rest (value_of x) []
number_all x a = ap (number_from 0) (sym (append-nil x)) ∙ number_only x [] record { all = a; over = nothing }

-- the exponent by the rule is the one that is computed
pub powered_only : (e x : List ℕ) (d : Bool) → Powered e d x → exponent_of e ≡ power d (value_of x)
unfolding value_of
powered_only e x d powerless = refl
powered_only e x d (powered c xs y s l g a n) =
    let k = signed_only xs y s g (digits_bare y a n) in
    rw ((letter c l).0, k.0, k.1, number_all y a, lt-ltb 0 (length y) (some_length y n)) refl

-- an exponent begins with no digit
powered_not_first : (e x : List ℕ) (d : Bool) → Powered e d x → NotFirst digit e
powered_not_first e x d powerless = nothing
powered_not_first e x d (powered c xs y s l g a n) = first_other digit c xs (not_digit c (letter c l).1)

-- a text is an exponent by the rule, or what is computed is malformed
pub powered_is : (e : List ℕ) → ((d : Bool) × (x : List ℕ) × Powered e d x) ⊎ (exponent_of e ≡ malformed)
powered_is [] = inl (false, [], powerless)
powered_is (c ∷ r) = go (eqb c 69) (eqb c 101) refl refl
  where
    no_digits : length (unsigned r) ≤ 0 → exponent_of_digits (is_minus r) (unsigned r) (number_from 0 (unsigned r)) ≡ malformed
    no_digits h = rw (le-ltb 0 (length (unsigned r)) h) (off (eqb (length (number_from 0 (unsigned r)).rest) 0))
      where
        off : (b : Bool) → pick (b && false) (power (is_minus r) (number_from 0 (unsigned r)).value) malformed ≡ malformed
        off true = refl
        off false = refl

    left_over : (b : ℕ) (l : List ℕ) → (number_from 0 (unsigned r)).rest ≡ b ∷ l → exponent_of_digits (is_minus r) (unsigned r) (number_from 0 (unsigned r)) ≡ malformed
    left_over b l h =
        let z : length (number_from 0 (unsigned r)).rest ≡ 0 → ⊥ = λ o. some_left (sym (ap length h) ∙ o) in
        rw (ne_eqb (length (number_from 0 (unsigned r)).rest) 0 z) refl
      where
        some_left : suc (length l) ≡ 0 → ⊥
        some_left o = omega arith

    read_on : (c ≡ 69) ⊎ (c ≡ 101) → ((d : Bool) × (x : List ℕ) × Powered (c ∷ r) d x) ⊎ (exponent_of_digits (is_minus r) (unsigned r) (number_from 0 (unsigned r)) ≡ malformed)
    read_on l = at (number_is (unsigned r) (number_from 0 (unsigned r)).value (number_from 0 (unsigned r)).rest refl) (number_from 0 (unsigned r)).rest refl
      where
        at : (ds : List ℕ) × (unsigned r ≡ ds ++ (number_from 0 (unsigned r)).rest) × SkippedBytes digit ds (number_from 0 (unsigned r)).rest × ((number_from 0 (unsigned r)).value ≡ value_of ds)
            → (q : List ℕ) → (number_from 0 (unsigned r)).rest ≡ q → ((d : Bool) × (x : List ℕ) × Powered (c ∷ r) d x) ⊎ (exponent_of_digits (is_minus r) (unsigned r) (number_from 0 (unsigned r)) ≡ malformed)
        at k (b ∷ q) h = inr (left_over b q h)
        at (ds, e, s, v) [] h = by ds e s
          where
            by : (ds : List ℕ) → unsigned r ≡ ds ++ (number_from 0 (unsigned r)).rest → SkippedBytes digit ds (number_from 0 (unsigned r)).rest → ((d : Bool) × (x : List ℕ) × Powered (c ∷ r) d x) ⊎ (exponent_of_digits (is_minus r) (unsigned r) (number_from 0 (unsigned r)) ≡ malformed)
            by [] e s = inr (no_digits (subst (λ (y : List ℕ). length y ≤ 0) (sym (e ∙ h)) (omega arith)))
            by (b ∷ ds) e s =
                let f : unsigned r ≡ b ∷ ds = e ∙ ap (λ (y : List ℕ). (b ∷ ds) ++ y) h ∙ append-nil (b ∷ ds) in
                inl (is_minus r, b ∷ ds, powered c r (b ∷ ds) (is_minus r) l (subst (Signed r (is_minus r)) f (signed_is r)) s.all (λ z. clash (cc)))

    go : (a b : Bool) → eqb c 69 ≡ a → eqb c 101 ≡ b → ((d : Bool) × (x : List ℕ) × Powered (c ∷ r) d x) ⊎ (pick (a || b) (exponent_of_digits (is_minus r) (unsigned r) (number_from 0 (unsigned r))) malformed ≡ malformed)
    go true b p q = read_on (inl (eqb-true c 69 p))
    go false true p q = read_on (inr (eqb-true c 101 q))
    go false false p q = inr refl

-- ---- the digits and the point
-- the number of two runs of digits, one after the other
value_join : (w f : List ℕ) → value_of w * 10 ^ length f + value_of f ≡ value_of (w ++ f)
unfolding value_of
value_join [] f = omega arith
value_join (c ∷ w) f =
    let d = c - 48 in
    let e : 10 ^ length (w ++ f) ≡ 10 ^ length w * 10 ^ length f = ap (λ (n : ℕ). 10 ^ n) (length-append w f) ∙ pow-add 10 (length w) (length f) in
    ap (λ (n : ℕ). n + value_of f) (add-mul (d * 10 ^ length w) (value_of w) (10 ^ length f))
    ∙ add_assoc (d * 10 ^ length w * 10 ^ length f) (value_of w * 10 ^ length f) (value_of f)
    ∙ ap (λ (n : ℕ). d * 10 ^ length w * 10 ^ length f + n) (value_join w f)
    ∙ ap (λ (n : ℕ). n + value_of (w ++ f)) (mul_assoc d (10 ^ length w) (10 ^ length f) ∙ ap (λ (n : ℕ). d * n) (sym e))

-- after the digits before the point there is no digit: a point, or what follows where there is none
fraction_first : (p f e : List ℕ) → Fraction p f → NotFirst digit e → NotFirst digit (p ++ e)
fraction_first p f e pointless h = h
fraction_first p f e (point g a) h = first_other digit 46 (g ++ e) refl

-- an exponent's first byte is no point: before one there is no fraction
after_point : (n : ℕ) (e x : List ℕ) (d : Bool) → Powered e d x → fraction_of n e ≡ mantissa n 0 e
after_point n e x d powerless = refl
after_point n e x d (powered c xs y s l g a m) =
    let k = (letter c l).1 in
    let q : c ≡ 46 → ⊥ = λ z. omega arith in
    rw (ne_eqb c 46 q) refl

-- the digits after the point, by the rule, are those that are computed
fraction_only : (w p f e x : List ℕ) (d : Bool) → Fraction p f → Powered e d x → fraction_of (value_of w) (p ++ e) ≡ mantissa (value_of (w ++ f)) (length f) e
fraction_only w p f e x d pointless h = after_point (value_of w) e x d h ∙ ap (λ (y : List ℕ). mantissa (value_of y) 0 e) (sym (append-nil w))
fraction_only w p f e x d (point g a) h =
    let n : number_from (value_of w) (g ++ e) ≡ number_and_rest (value_of (w ++ g)) e =
    number_pass (value_of w) g e a ∙ number_halt (value_of w * 10 ^ length g + value_of g) e (powered_not_first e x d h) ∙ ap (λ (v : ℕ). number_and_rest v e) (value_join w g) in
    let l : length (g ++ e) - length e ≡ length g = simp length-append (omega arith) in
    ap (λ (k : NumberAndRest). pointed (g ++ e) k) n ∙ ap (λ (k : ℕ). mantissa (value_of (w ++ g)) k e) l

-- a real's first byte after the sign is a digit or the point
whole_bare : (w p f e : List ℕ) → All digit w → Fraction p f → (w ++ f ≡ [] → ⊥) → Bare (w ++ (p ++ e))
whole_bare [] p f e a pointless n = absurd (n refl)
whole_bare [] p f e a (point g b) n = bare 46 (g ++ e) (omega arith)
whole_bare (c ∷ w) p f e (h, a) g n = digit_bare c (w ++ (p ++ e)) h

-- a real has a digit before or after the point, so the test for none fails
counts : (w p f e : List ℕ) → (w ++ f ≡ [] → ⊥) → eqb (length (p ++ e)) (length (w ++ (p ++ e))) && eqb (length f) 0 ≡ false
counts [] p f e n = rw (eq-eqb (length (p ++ e)) (length (p ++ e)) refl, ne_eqb (length f) 0 (none f n)) refl
  where
    none : (f : List ℕ) → (f ≡ [] → ⊥) → length f ≡ 0 → ⊥
    none [] n z = n refl
    none (c ∷ f) n z = omega arith
counts (c ∷ w) p f e n =
    let l : length (p ++ e) ≡ suc (length (w ++ (p ++ e))) → ⊥ = λ z. more z (length-append w (p ++ e)) in
    rw (ne_eqb (length (p ++ e)) (suc (length (w ++ (p ++ e)))) l) refl
  where
    more : length (p ++ e) ≡ suc (length (w ++ (p ++ e))) → length (w ++ (p ++ e)) ≡ length w + length (p ++ e) → ⊥
    more z y = omega arith

-- what is written as a real is parsed to its parts
pub written_only : {t w f x : List ℕ} {s d : Bool} → WrittenReal t s w f d x → parse_of t ≡ parsed s (value_of (w ++ f)) (length f) d (value_of x)
unfolding parse_of
written_only {t} {w} {f} {x} {s} {d} r =
    let p = r.p in
    let e = r.e in
    let g : Bare r.u = subst Bare (sym r.shape) (whole_bare w p f e r.whole r.fraction r.some) in
    let k = signed_only t r.u s r.sign g in
    let u : unsigned t ≡ w ++ (p ++ e) = k.0 ∙ r.shape in
    let n : number_from 0 (unsigned t) ≡ number_and_rest (value_of w) (p ++ e) =
    ap (number_from 0) u ∙ number_only w (p ++ e) record { all = r.whole; over = fraction_first p f e r.fraction (powered_not_first e x d r.power) } in
    let m : fraction_of (number_from 0 (unsigned t)).value (number_from 0 (unsigned t)).rest ≡ mantissa (value_of (w ++ f)) (length f) e =
    ap (λ (z : NumberAndRest). fraction_of z.value z.rest) n ∙ fraction_only w p f e x d r.fraction r.power in
    ap (λ (z : Mantissa). real_if_digits (is_minus t) (unsigned t) (number_from 0 (unsigned t)) z) m
    ∙ ap (λ (z : NumberAndRest). real_if_digits (is_minus t) (unsigned t) z (mantissa (value_of (w ++ f)) (length f) e)) n
    ∙ ap (λ (z : List ℕ). real_if_digits (is_minus t) z (number_and_rest (value_of w) (p ++ e)) (mantissa (value_of (w ++ f)) (length f) e)) u
    ∙ ap (λ (z : Bool). real_if_digits z (w ++ (p ++ e)) (number_and_rest (value_of w) (p ++ e)) (mantissa (value_of (w ++ f)) (length f) e)) k.1
    ∙ rw (counts w p f e r.some, powered_only e x d r.power) refl

-- r begins with a point and digits, or with neither, and this is the fraction that is computed
Split : ℕ → List ℕ → Type 0
Split n r = (p f e : List ℕ) × (r ≡ p ++ e) × Fraction p f × ((fraction_of n r).places ≡ length f) × ((fraction_of n r).rest ≡ e)

-- every text begins with a point and digits, or with neither, as is computed
fraction_is : (n : ℕ) (r : List ℕ) → Split n r
unfolding Split
fraction_is n [] = ([], [], [], refl, pointless, refl, refl)
fraction_is n (c ∷ r) = go (eqb c 46) refl
  where
    part : (f e : List ℕ) × (r ≡ f ++ e) × All digit f × ((number_from n r).rest ≡ e)
    part = by (split_is digit r)
      where
        by : SplitAfter digit r → (f e : List ℕ) × (r ≡ f ++ e) × All digit f × ((number_from n r).rest ≡ e)
        by (f, e, h, s) =
            (f, e, h, s.all, ap (λ (l : List ℕ). (number_from n l).rest) h ∙ ap (λ (d : NumberAndRest). d.rest) (number_pass n f e s.all ∙ number_halt (n * 10 ^ length f + value_of f) e s.over))

    go : (a : Bool) → eqb c 46 ≡ a → (p f e : List ℕ) × (c ∷ r ≡ p ++ e) × Fraction p f × ((pick a (pointed r (number_from n r)) (mantissa n 0 (c ∷ r))).places ≡ length f) × ((pick a (pointed r (number_from n r)) (mantissa n 0 (c ∷ r))).rest ≡ e)
    go true h = made part
      where
        made : (f e : List ℕ) × (r ≡ f ++ e) × All digit f × ((number_from n r).rest ≡ e) → (p f e : List ℕ) × (c ∷ r ≡ p ++ e) × Fraction p f × (length r - length (number_from n r).rest ≡ length f) × ((number_from n r).rest ≡ e)
        made (f, e, s, a, q) =
            let l : length r ≡ length f + length e = ap length s ∙ length-append f e in
            let m : length (number_from n r).rest ≡ length e = ap length q in
            (46 ∷ f, f, e, subst (λ (b : ℕ). b ∷ r ≡ 46 ∷ (f ++ e)) (sym (eqb-true c 46 h)) (ap (λ (y : List ℕ). 46 ∷ y) s), point f a, omega arith, q)
    go false h = ([], [], c ∷ r, refl, pointless, refl, refl)

-- a text is written as a real, or is not parsed
pub written_is : (t : List ℕ) → ((s d : Bool) × (w f x : List ℕ) × WrittenReal t s w f d x) ⊎ (parse_of t ≡ unparsed)
unfolding parse_of Split
written_is t = at (number_is (unsigned t) (number_from 0 (unsigned t)).value (number_from 0 (unsigned t)).rest refl) (fraction_is (number_from 0 (unsigned t)).value (number_from 0 (unsigned t)).rest)
  where
    at : (w : List ℕ) × (unsigned t ≡ w ++ (number_from 0 (unsigned t)).rest) × SkippedBytes digit w (number_from 0 (unsigned t)).rest × ((number_from 0 (unsigned t)).value ≡ value_of w)
        → (p f e : List ℕ) × ((number_from 0 (unsigned t)).rest ≡ p ++ e) × Fraction p f × ((fraction_of (number_from 0 (unsigned t)).value (number_from 0 (unsigned t)).rest).places ≡ length f) × ((fraction_of (number_from 0 (unsigned t)).value (number_from 0 (unsigned t)).rest).rest ≡ e)
        → ((s d : Bool) × (w f x : List ℕ) × WrittenReal t s w f d x) ⊎ (real_if_digits (is_minus t) (unsigned t) (number_from 0 (unsigned t)) (fraction_of (number_from 0 (unsigned t)).value (number_from 0 (unsigned t)).rest) ≡ unparsed)
    at (w, h, s, v) (p, f, e, k, g, l, m) = by w f (powered_is e) h g s.all l
      where
        shape : (w : List ℕ) → unsigned t ≡ w ++ (number_from 0 (unsigned t)).rest → unsigned t ≡ w ++ (p ++ e)
        shape w h = h ∙ ap (λ (y : List ℕ). w ++ y) k

        by : (w f : List ℕ) → ((d : Bool) × (x : List ℕ) × Powered e d x) ⊎ (exponent_of e ≡ malformed) → unsigned t ≡ w ++ (number_from 0 (unsigned t)).rest → Fraction p f → All digit w → (fraction_of (number_from 0 (unsigned t)).value (number_from 0 (unsigned t)).rest).places ≡ length f
            → ((s d : Bool) × (w f x : List ℕ) × WrittenReal t s w f d x) ⊎ (real_if_digits (is_minus t) (unsigned t) (number_from 0 (unsigned t)) (fraction_of (number_from 0 (unsigned t)).value (number_from 0 (unsigned t)).rest) ≡ unparsed)
        by w f (inr b) h g a l = inr (rw (m, b) (off (eqb (length (number_from 0 (unsigned t)).rest) (length (unsigned t)) && eqb (fraction_of (number_from 0 (unsigned t)).value (number_from 0 (unsigned t)).rest).places 0)))
          where
            off : (b : Bool) → pick b unparsed unparsed ≡ unparsed
            off true = refl
            off false = refl
        by [] [] (inl (d, x, q)) h g a l = inr (rw (eq-eqb (length (number_from 0 (unsigned t)).rest) (length (unsigned t)) (sym (ap length h)), l) refl)
        by (c ∷ w) f (inl (d, x, q)) h g a l =
            inl (is_minus t, d, c ∷ w, f, x, record { u = unsigned t; p = p; e = e; sign = signed_is t; shape = shape (c ∷ w) h; whole = a; fraction = g; some = λ z. clash (cc); power = q })
        by [] (c ∷ f) (inl (d, x, q)) h g a l =
            inl (is_minus t, d, [], c ∷ f, x, record { u = unsigned t; p = p; e = e; sign = signed_is t; shape = shape [] h; whole = a; fraction = g; some = λ z. clash (cc); power = q })

-- ---- the class
-- the lower side of m·10^e as a fraction is positive
pub under_pos : (f : ℕ) (d : Bool) (x : ℕ) → 0 < lower_side f d x
under_pos f false x = ten_pos f
under_pos f true x = ten_pos (x + f)

-- the nearest f64 to m·10^e, as `near_ten` has it, is the one to the fraction
near_ten_lem : (m f : ℕ) (d : Bool) (x : ℕ) → near_ten m f d x ≡ near (upper_side m d x) (lower_side f d x)
near_ten_lem m f false x = refl
near_ten_lem m f true x = refl

-- either e is in reach and the test for it passes, or neither
reach_is : (far f : ℕ) (d : Bool) (x : ℕ) → (Reach far f d x × (reaches far f d x ≡ true)) ⊎ ((Reach far f d x → ⊥) × (reaches far f d x ≡ false))
reach_is far f false x = go (dec_le x (f + far)) (dec_le f (x + far))
  where
    go : Dec (x ≤ f + far) → Dec (f ≤ x + far) → (((x ≤ f + far) × (f ≤ x + far)) × (leb x (f + far) && leb f (x + far) ≡ true)) ⊎ (((x ≤ f + far) × (f ≤ x + far) → ⊥) × (leb x (f + far) && leb f (x + far) ≡ false))
    go (yes a) (yes b) = inl ((a, b), rw (le-leb x (f + far) a, le-leb f (x + far) b) refl)
    go (yes a) (no b) = let l : x + far < f = omega arith in inr (λ k. b k.1, rw (le-leb x (f + far) a, lt-leb f (x + far) l) refl)
    go (no a) d = let l : f + far < x = omega arith in inr (λ k. a k.0, rw (lt-leb x (f + far) l) refl)
reach_is far f true x = go (dec_le (x + f) far)
  where
    go : Dec (x + f ≤ far) → ((x + f ≤ far) × (leb (x + f) far ≡ true)) ⊎ ((x + f ≤ far → ⊥) × (leb (x + f) far ≡ false))
    go (yes a) = inl (a, le-leb (x + f) far a)
    go (no a) = let l : far < x + f = omega arith in inr (a, lt-leb (x + f) far l)

-- either a real is of the class and the test for it passes, or neither
abbrev pub Decided : ℕ → ℕ → ℕ → ℕ → Bool → ℕ → Type 0
Decided long far m f d x = (Classed long far m f d x × (belongs long far m f d x ≡ true)) ⊎ ((Classed long far m f d x → ⊥) × (belongs long far m f d x ≡ false))

-- at all bounds a real is of the class just where the test for it passes
pub class_is : (long far m f : ℕ) (d : Bool) (x : ℕ) → Decided long far m f d x
class_is long far m f d x = go (dec_lt m (10 ^ long)) (reach_is far f d x)
  where
    go : Dec (m < 10 ^ long) → (Reach far f d x × (reaches far f d x ≡ true)) ⊎ ((Reach far f d x → ⊥) × (reaches far f d x ≡ false)) → Decided long far m f d x
    go (yes a) (inl b) = inl (record { few = a; reach = b.0 }, rw (lt-ltb m (10 ^ long) a, b.1) refl)
    go (yes a) (inr b) = inr (λ k. b.0 k.reach, rw (lt-ltb m (10 ^ long) a, b.1) refl)
    go (no a) r = let l : 10 ^ long ≤ m = omega arith in inr (λ k. a k.few, rw (le-ltb m (10 ^ long) l) refl)

-- ---- the theorems
-- what is written as a real is answered by the class
real_of_lem : {t w f x : List ℕ} {s d : Bool} → WrittenReal t s w f d x → real_of t ≡ class_of (parsed s (value_of (w ++ f)) (length f) d (value_of x))
unfolding real_of
real_of_lem r = ap class_of (written_only r)

-- a real of the class is answered by the nearest f64
in_class : (s : Bool) (m f : ℕ) (d : Bool) (x : ℕ) → belongs longest farthest m f d x ≡ true → class_of (parsed s m f d x) ≡ read (signed s (near (upper_side m d x) (lower_side f d x)))
in_class s m f d x e = rw e (ap (λ (b : ℕ). read (signed s b)) (near_ten_lem m f d x))

-- a real outside the class is 13
out_class : (s : Bool) (m f : ℕ) (d : Bool) (x : ℕ) → belongs longest farthest m f d x ≡ false → class_of (parsed s m f d x) ≡ refused 13
out_class s m f d x e = rw e refl

-- what is no real is 12, whichever reals are asked for
pub unparsed_by : (which : Reals) (t : List ℕ) → parse_of t ≡ unparsed → real_by which t ≡ refused 12
unfolding real_of any_real_of
unparsed_by Class t e = ap class_of e
unparsed_by Any t e = ap any_of e

-- what `real_of` computes is the answer by the rule
pub real_is : (t : List ℕ) → RealForm t (real_of t)
real_is t = go (written_is t)
  where
    go : ((s d : Bool) × (w f x : List ℕ) × WrittenReal t s w f d x) ⊎ (parse_of t ≡ unparsed) → RealForm t (real_of t)
    go (inl (s, d, w, f, x, r)) = by (class_is longest farthest (value_of (w ++ f)) (length f) d (value_of x))
      where
        by : Decided longest farthest (value_of (w ++ f)) (length f) d (value_of x) → RealForm t (real_of t)
        by (inl k) =
            subst (RealForm t) (sym (real_of_lem r ∙ in_class s (value_of (w ++ f)) (length f) d (value_of x) k.1))
            (real r k.0 (near_is (upper_side (value_of (w ++ f)) d (value_of x)) (lower_side (length f) d (value_of x)) (under_pos (length f) d (value_of x))))
        by (inr k) = subst (RealForm t) (sym (real_of_lem r ∙ out_class s (value_of (w ++ f)) (length f) d (value_of x) k.1)) (outside r k.0)
    go (inr e) = subst (RealForm t) (sym (unparsed_by Class t e)) (RealForm.other (λ s d w f x r. never (sym (written_only r) ∙ e)))
      where
        never : {s d : Bool} {m f x : ℕ} → parsed s m f d x ≡ unparsed → ⊥
        never e = clash (cc)

-- no answer but what `real_of` computes is allowed by the rule for reals
pub real_only : {t : List ℕ} {a : Answer ℕ} → RealForm t a → a ≡ real_of t
real_only {t} (real {w = w} {f = f} {x = x} {s = s} {down = d} {b = b} r c n) = by (class_is longest farthest (value_of (w ++ f)) (length f) d (value_of x))
  where
    by : Decided longest farthest (value_of (w ++ f)) (length f) d (value_of x) → read (signed s b) ≡ real_of t
    by (inl k) =
        ap (λ (y : ℕ). read (signed s y)) (near_only (upper_side (value_of (w ++ f)) d (value_of x)) (lower_side (length f) d (value_of x)) b (under_pos (length f) d (value_of x)) n)
        ∙ sym (real_of_lem r ∙ in_class s (value_of (w ++ f)) (length f) d (value_of x) k.1)
    by (inr k) = absurd (k.0 c)
real_only {t} (outside {w = w} {f = f} {x = x} {s = s} {down = d} r c) = by (class_is longest farthest (value_of (w ++ f)) (length f) d (value_of x))
  where
    by : Decided longest farthest (value_of (w ++ f)) (length f) d (value_of x) → refused 13 ≡ real_of t
    by (inl k) = absurd (c k.0)
    by (inr k) = sym (real_of_lem r ∙ out_class s (value_of (w ++ f)) (length f) d (value_of x) k.1)
real_only {t} (RealForm.other h) = go (written_is t)
  where
    go : ((s d : Bool) × (w f x : List ℕ) × WrittenReal t s w f d x) ⊎ (parse_of t ≡ unparsed) → refused 12 ≡ real_of t
    go (inl (s, d, w, f, x, r)) = absurd (h s d w f x r)
    go (inr e) = sym (unparsed_by Class t e)

-- ---- any real
-- what is written as a real is answered by the nearest f64, where any real is
pub any_of_lem : {t w f x : List ℕ} {s d : Bool} → WrittenReal t s w f d x → any_real_of t ≡ read (signed s (near (upper_side (value_of (w ++ f)) d (value_of x)) (lower_side (length f) d (value_of x))))
unfolding any_real_of
any_of_lem {w = w} {f = f} {x = x} {s = s} {d = d} r = ap any_of (written_only r) ∙ ap (λ (b : ℕ). read (signed s b)) (near_ten_lem (value_of (w ++ f)) (length f) d (value_of x))

-- what `any_real_of` computes is the answer by the rule for any real
pub any_is : (t : List ℕ) → AnyForm t (any_real_of t)
any_is t = go (written_is t)
  where
    go : ((s d : Bool) × (w f x : List ℕ) × WrittenReal t s w f d x) ⊎ (parse_of t ≡ unparsed) → AnyForm t (any_real_of t)
    go (inl (s, d, w, f, x, r)) =
        subst (AnyForm t) (sym (any_of_lem r))
        (AnyForm.real r (near_is (upper_side (value_of (w ++ f)) d (value_of x)) (lower_side (length f) d (value_of x)) (under_pos (length f) d (value_of x))))
    go (inr e) = subst (AnyForm t) (sym (unparsed_by Any t e)) (AnyForm.other (λ s d w f x r. never (sym (written_only r) ∙ e)))
      where
        never : {s d : Bool} {m f x : ℕ} → parsed s m f d x ≡ unparsed → ⊥
        never e = clash (cc)

-- no answer but what `any_real_of` computes is allowed by the rule for any real
pub any_only : {t : List ℕ} {a : Answer ℕ} → AnyForm t a → a ≡ any_real_of t
any_only {t} (AnyForm.real {w = w} {f = f} {x = x} {s = s} {down = d} {b = b} r n) =
    ap (λ (y : ℕ). read (signed s y)) (near_only (upper_side (value_of (w ++ f)) d (value_of x)) (lower_side (length f) d (value_of x)) b (under_pos (length f) d (value_of x)) n)
    ∙ sym (any_of_lem r)
any_only {t} (AnyForm.other h) = go (written_is t)
  where
    go : ((s d : Bool) × (w f x : List ℕ) × WrittenReal t s w f d x) ⊎ (parse_of t ≡ unparsed) → refused 12 ≡ any_real_of t
    go (inl (s, d, w, f, x, r)) = absurd (h s d w f x r)
    go (inr e) = sym (unparsed_by Any t e)
