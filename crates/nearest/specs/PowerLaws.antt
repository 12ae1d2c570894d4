-- Powers of ten: laws. Assumes nothing.
use Rattle.std.specs.Prelude.{ℕ, zero, suc, ◌*◌, ◌^◌, ◌<◌, ◌≡◌, refl}
use Rattle.std.proofs.Common.{sym, ◌∙◌, ap, mul_assoc, mul_comm, mul_left_comm, pow-suc, arith}
use Rattle.std.proofs.Math.Nat.{one-le-pow}

-- a power of ten is positive
pub ten_pos : (k : ℕ) → 0 < 10 ^ k
ten_pos k = one-le-pow k 10 (omega arith)

-- 10 ^ k by its prime factors
pub tens : (k : ℕ) → 10 ^ k ≡ 5 ^ k * 2 ^ k
tens zero = refl
tens (suc k) =
    pow-suc 10 k
    ∙ ap (λ (x : ℕ). x * 10) (tens k)
    ∙ regroup (5 ^ k) (2 ^ k) 5 2
    ∙ ap (λ (x : ℕ). x * (2 ^ k * 2)) (sym (pow-suc 5 k))
    ∙ ap (λ (x : ℕ). 5 ^ suc k * x) (sym (pow-suc 2 k))
  where
    regroup : (a b p q : ℕ) → a * b * (p * q) ≡ a * p * (b * q)
    regroup a b p q = simp (mul_assoc, mul_comm, mul_left_comm) refl
