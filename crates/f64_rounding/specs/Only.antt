-- "that two allowed answers coincide is proved": each number that is cut so, or seen so, rounds to one pattern. Assumes nothing.
use Rattle.std.specs.Prelude.{ℕ, suc, ◌+◌, ◌*◌, ◌^◌, ◌<◌, ◌≡◌, refl, Bool, true, false}
use Rattle.std.proofs.Common.{sym, ◌∙◌, ap, subst, mul_assoc, mul_comm, mul-pos, add-mul, one-mul, add-zero, arith, lt-ltb, pow_pos, pow-add}
use Rattle.std.proofs.Math.Pow.{pow-lt}
use Rattle.f64_rounding.specs.CutNumbers.{CutNumber, RoundsTo}
use Rattle.f64_rounding.specs.Window.{Window, RoundsAs}

-- ---- no promise by `RoundsTo` is empty: for all w, `more` and x there is a number that is cut so
-- a number that is cut with nothing left: w * 2 ^ x in units of 2 ^ -1074
cut_whole : (w x : ℕ) → CutNumber (w * 2 ^ x) (2 ^ 1074) w false x
cut_whole w x = record {
  up = 1074;
  unit = x;
  rest = 0;
  scale = omega arith;
  place = refl;
  divisor = pow_pos 1074;
  whole =
      add-zero (w * (2 ^ 1074 * 2 ^ x))
      ∙ ap (λ (n : ℕ). w * n) (mul_comm (2 ^ 1074) (2 ^ x))
      ∙ sym (mul_assoc w (2 ^ x) (2 ^ 1074));
  below = mul-pos (pow_pos 1074) (pow_pos x);
  left = refl;
}

-- a number that is cut with something left: 2 ^ -(x + 1) of a unit
cut_more : (w x : ℕ) → CutNumber (w * 2 ^ suc x + 1) (2 ^ 1075) w true x
cut_more w x = record {
  up = 1074;
  unit = x;
  rest = 1 * 2 ^ 1074;
  scale = omega arith;
  place = refl;
  divisor = pow_pos 1075;
  whole =
      ap (λ (n : ℕ). w * n + 1 * 2 ^ 1074) (sym (pow-add 2 1075 x) ∙ ap (λ (n : ℕ). 2 ^ n) moved ∙ pow-add 2 (suc x) 1074)
      ∙ ap (λ (n : ℕ). n + 1 * 2 ^ 1074) (sym (mul_assoc w (2 ^ suc x) (2 ^ 1074)))
      ∙ sym (add-mul (w * 2 ^ suc x) 1 (2 ^ 1074));
  below = subst (λ (n : ℕ). n < 2 ^ 1075 * 2 ^ x) (sym (one-mul (2 ^ 1074))) (subst (λ (n : ℕ). 2 ^ 1074 < n) (pow-add 2 1075 x) (pow-lt less));
  left = sym (lt-ltb 0 (1 * 2 ^ 1074) (subst (λ (n : ℕ). 0 < n) (sym (one-mul (2 ^ 1074))) (pow_pos 1074)));
}
  where
    moved : 1075 + x ≡ suc x + 1074
    moved = omega arith

    less : 1074 < 1075 + x
    less = omega arith

-- two patterns that `RoundsTo` allows are the same
pub rounds_only : (s : Bool) (w : ℕ) (more : Bool) (x a b : ℕ) → RoundsTo s w more x a → RoundsTo s w more x b → a ≡ b
rounds_only s w false x a b h k = h (w * 2 ^ x) (2 ^ 1074) (cut_whole w x) ∙ sym (k (w * 2 ^ x) (2 ^ 1074) (cut_whole w x))
rounds_only s w true x a b h k = h (w * 2 ^ suc x + 1) (2 ^ 1075) (cut_more w x) ∙ sym (k (w * 2 ^ suc x + 1) (2 ^ 1075) (cut_more w x))

-- ---- nor is one by `RoundsAs`
-- a number that is seen with nothing left: w * 2 ^ y in units of 2 ^ -1075
window_whole : (w y : ℕ) → Window (w * 2 ^ y) (2 ^ 1075) w false y
window_whole w y = record {
  rest = 0;
  divisor = pow_pos 1075;
  whole =
      add-zero (w * (2 ^ 1075 * 2 ^ y))
      ∙ ap (λ (n : ℕ). w * n) (mul_comm (2 ^ 1075) (2 ^ y))
      ∙ sym (mul_assoc w (2 ^ y) (2 ^ 1075));
  below = mul-pos (pow_pos 1075) (pow_pos y);
  left = refl;
}

-- a number that is seen with something left: 2 ^ -(y + 1) of a unit
window_more : (w y : ℕ) → Window (w * 2 ^ suc y + 1) (2 ^ 1076) w true y
window_more w y = record {
  rest = 1 * 2 ^ 1075;
  divisor = pow_pos 1076;
  whole =
      ap (λ (n : ℕ). w * n + 1 * 2 ^ 1075) (sym (pow-add 2 1076 y) ∙ ap (λ (n : ℕ). 2 ^ n) moved ∙ pow-add 2 (suc y) 1075)
      ∙ ap (λ (n : ℕ). n + 1 * 2 ^ 1075) (sym (mul_assoc w (2 ^ suc y) (2 ^ 1075)))
      ∙ sym (add-mul (w * 2 ^ suc y) 1 (2 ^ 1075));
  below = subst (λ (n : ℕ). n < 2 ^ 1076 * 2 ^ y) (sym (one-mul (2 ^ 1075))) (subst (λ (n : ℕ). 2 ^ 1075 < n) (pow-add 2 1076 y) (pow-lt less));
  left = sym (lt-ltb 0 (1 * 2 ^ 1075) (subst (λ (n : ℕ). 0 < n) (sym (one-mul (2 ^ 1075))) (pow_pos 1075)));
}
  where
    moved : 1076 + y ≡ suc y + 1075
    moved = omega arith

    less : 1075 < 1076 + y
    less = omega arith

-- two patterns that `RoundsAs` allows are the same
pub rounds_as_only : (s : Bool) (w : ℕ) (more : Bool) (y a b : ℕ) → RoundsAs s w more y a → RoundsAs s w more y b → a ≡ b
rounds_as_only s w false y a b h k = h (w * 2 ^ y) (2 ^ 1075) (window_whole w y) ∙ sym (k (w * 2 ^ y) (2 ^ 1075) (window_whole w y))
rounds_as_only s w true y a b h k = h (w * 2 ^ suc y + 1) (2 ^ 1076) (window_more w y) ∙ sym (k (w * 2 ^ suc y + 1) (2 ^ 1076) (window_more w y))
