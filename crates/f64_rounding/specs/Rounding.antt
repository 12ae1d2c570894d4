-- Rounding, as the tests of `rounded_off` tell it. Laws for the proofs; no promise names them. Assumes nothing.
use Prim.Native.Nat.{ℕ, ◌+◌, ◌-◌, ◌*◌, ◌/◌, ◌%◌, ◌^◌, ◌≤◌, ◌<◌, compare, Ordering}
use Rattle.std.specs.Prelude.{◌≡◌, refl, Bool, true, false, cond, ◌||◌, ◌&&◌, eqb, ltb}
use Rattle.std.proofs.Common.{sym, ◌∙◌, ap, subst, div-add-mod', mod-lt, mod-eq_of_lt, one-mul, mul-one, mul-le-mul_left, arith, eq-eqb, ne_eqb, lt-ltb, le-ltb, eqb-true, pow_pos}
use Rattle.std.proofs.Math.Decide.{dec_lt}
use Rattle.std.proofs.lemmas.Bool.{eqb-false}
use Rattle.std.proofs.Math.Pow.{pow-lt}
use Rattle.std.specs.Float.Ieee.{nearest}
use Rattle.nearest.specs.Near.{Cmp, cmp}
use Rattle.nearest.specs.Scaled.{order_is}
use Rattle.f64_rounding.specs.Half.{half_order, against}

-- how `against` answers, by the order of twice `low` and the unit
pub against_told : (o : Ordering) (low unit : ℕ) (more : Bool) → Cmp o (low * 2) unit → against low unit more ≡ half_order o more
against_told o low unit more h = ap (λ (p : Ordering). half_order p more) (order_is (compare (low * 2) unit) o (low * 2) unit (cmp (low * 2) unit) h)

-- 2 ^ drop, as the machine shifts 1, is 2 ^ drop where drop is below 64
pub drop_unit_is : (drop : ℕ) → drop < 64 → 1 * 2 ^ drop % 18446744073709551616 ≡ 2 ^ drop
drop_unit_is drop h = ap (λ (x : ℕ). x % 18446744073709551616) (one-mul (2 ^ drop)) ∙ mod-eq_of_lt (pow-lt h)

module _ (w drop unit : ℕ) (e : unit ≡ 2 ^ drop) where
  -- what the code drops is the rest of w by 2 ^ drop
  pub dropped_is : w - w / 2 ^ drop * unit ≡ w % 2 ^ drop
  dropped_is = rest (w / 2 ^ drop * 2 ^ drop) (w % 2 ^ drop) (ap (λ (x : ℕ). w / 2 ^ drop * x) e) (div-add-mod' w (2 ^ drop))
    where
      rest : (a b : ℕ) → w / 2 ^ drop * unit ≡ a → a + b ≡ w → w - w / 2 ^ drop * unit ≡ b
      rest a b f g = omega arith

  -- what the code drops of w is less than 2 ^ drop
  pub dropped_lt : w - w / 2 ^ drop * unit < 2 ^ drop
  dropped_lt = subst (λ (x : ℕ). x < 2 ^ drop) (sym dropped_is) (mod-lt w (pow_pos drop))

  -- what the code keeps of w, times 2 ^ drop, is no more than w
  pub kept_le : w / 2 ^ drop * unit ≤ w
  kept_le = part (w / 2 ^ drop * 2 ^ drop) (w % 2 ^ drop) (ap (λ (x : ℕ). w / 2 ^ drop * x) e) (div-add-mod' w (2 ^ drop))
    where
      part : (a b : ℕ) → w / 2 ^ drop * unit ≡ a → a + b ≡ w → w / 2 ^ drop * unit ≤ w
      part a b f g = omega arith

  module _ (more : Bool) where
    -- the order of the code's numbers is the order of the definition's: `against` answers by it
    as_is : (o : Ordering) → Cmp o ((w - w / 2 ^ drop * unit) * 2) unit → against (w % 2 ^ drop) (2 ^ drop) more ≡ half_order o more
    as_is o h = against_told o (w % 2 ^ drop) (2 ^ drop) more (subst (λ (x : ℕ). Cmp o (w % 2 ^ drop * 2) x) e (subst (λ (x : ℕ). Cmp o (x * 2) unit) dropped_is h))

    -- the code's test for rounding up: past half, or just half and more left or an odd digit
    abbrev pub rounds_up : Bool
    rounds_up = ltb unit ((w - w / 2 ^ drop * unit) * 2) || (eqb ((w - w / 2 ^ drop * unit) * 2) unit && (more || eqb (w / 2 ^ drop % 2) 1))

    -- the code's test for rounding up gives the digits that the order with half tells
    test_is : (o : Ordering) (m odd : Bool) → Cmp o ((w - w / 2 ^ drop * unit) * 2) unit → more ≡ m → eqb (w / 2 ^ drop % 2) 1 ≡ odd → cond rounds_up (w / 2 ^ drop + 1) (w / 2 ^ drop) ≡ nearest (w / 2 ^ drop) (half_order o m)
    test_is Ordering.lt m odd c f g =
        let l : (w - w / 2 ^ drop * unit) * 2 ≤ unit = omega arith in
        let n : (w - w / 2 ^ drop * unit) * 2 ≡ unit → ⊥ = λ z. omega arith in
        rw (le-ltb unit ((w - w / 2 ^ drop * unit) * 2) l, ne_eqb ((w - w / 2 ^ drop * unit) * 2) unit n) refl
    test_is Ordering.eq true odd c f g =
        let l : (w - w / 2 ^ drop * unit) * 2 ≤ unit = omega arith in
        rw (le-ltb unit ((w - w / 2 ^ drop * unit) * 2) l, eq-eqb ((w - w / 2 ^ drop * unit) * 2) unit c, f) (omega arith)
    test_is Ordering.eq false true c f g =
        let l : (w - w / 2 ^ drop * unit) * 2 ≤ unit = omega arith in
        let h : w / 2 ^ drop % 2 ≡ 1 = eqb-true (w / 2 ^ drop % 2) 1 g in
        rw (le-ltb unit ((w - w / 2 ^ drop * unit) * 2) l, eq-eqb ((w - w / 2 ^ drop * unit) * 2) unit c, f, g) (omega arith)
    test_is Ordering.eq false false c f g =
        let l : (w - w / 2 ^ drop * unit) * 2 ≤ unit = omega arith in
        let h : w / 2 ^ drop % 2 ≡ 1 → ⊥ = eqb-false (w / 2 ^ drop % 2) 1 g in
        rw (le-ltb unit ((w - w / 2 ^ drop * unit) * 2) l, eq-eqb ((w - w / 2 ^ drop * unit) * 2) unit c, f, g) (omega arith)
    test_is Ordering.gt m odd c f g = rw (lt-ltb unit ((w - w / 2 ^ drop * unit) * 2) c) (omega arith)

    -- the digits that the code keeps and rounds are the nearest
    pub rounded_is : cond rounds_up (w / 2 ^ drop + 1) (w / 2 ^ drop) ≡ nearest (w / 2 ^ drop) (against (w % 2 ^ drop) (2 ^ drop) more)
    rounded_is =
        let o = compare ((w - w / 2 ^ drop * unit) * 2) unit in
        let c = cmp ((w - w / 2 ^ drop * unit) * 2) unit in
        test_is o more (eqb (w / 2 ^ drop % 2) 1) c refl refl ∙ ap (nearest (w / 2 ^ drop)) (sym (as_is o c))

    -- where the code rounds up, the carry has room: what is kept and 1 is at most w
    pub carry_room : rounds_up ≡ true → w / 2 ^ drop + 1 ≤ w
    carry_room h = go (dec_lt ((w - w / 2 ^ drop * unit) * 2) unit)
      where
        go : Dec ((w - w / 2 ^ drop * unit) * 2 < unit) → w / 2 ^ drop + 1 ≤ w
        go (yes l) =
            let a : (w - w / 2 ^ drop * unit) * 2 ≤ unit = omega arith in
            let n : (w - w / 2 ^ drop * unit) * 2 ≡ unit → ⊥ = λ z. omega arith in
            let f = rw (le-ltb unit ((w - w / 2 ^ drop * unit) * 2) a, ne_eqb ((w - w / 2 ^ drop * unit) * 2) unit n) at h in
            let z : ◌≡◌ {A = ℕ} 0 1 = cc in
            omega arith
        go (no g) =
            let p : 0 < unit = subst (λ (x : ℕ). 0 < x) (sym e) (pow_pos drop) in
            let m : w / 2 ^ drop * 1 ≤ w / 2 ^ drop * unit = mul-le-mul_left (w / 2 ^ drop) p in
            let o : w / 2 ^ drop * 1 ≡ w / 2 ^ drop = mul-one (w / 2 ^ drop) in
            omega arith

-- where fewer than 64 digits are dropped, the machine's shift by drop drops just so many
pub few_dropped : (w : ℕ) (more : Bool) (drop k : ℕ) → drop < 64 → k ≡ nearest (w / 2 ^ (drop % 64)) (against (w % 2 ^ (drop % 64)) (2 ^ (drop % 64)) more) → k ≡ nearest (w / 2 ^ drop) (against (w % 2 ^ drop) (2 ^ drop) more)
few_dropped w more drop k h e = subst (λ (n : ℕ). k ≡ nearest (w / 2 ^ n) (against (w % 2 ^ n) (2 ^ n) more)) (mod-eq_of_lt h) e
