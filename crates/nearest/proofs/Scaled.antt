-- The law of the digits at any scale: where the fraction was multiplied by a power of two that is as small as the digits need, and
-- not by 2 ^ 1074, so that a machine's numbers can hold it. Assumes nothing.
use Prim.Native.Nat.{ℕ, ◌+◌, ◌*◌, ◌^◌, ◌≤◌, ◌<◌, min, compare, Ordering}
use Rattle.std.specs.Prelude.{◌≡◌}
use Rattle.std.proofs.Common.{sym, ◌∙◌, ap, subst, inr, mul_assoc, mul_right_comm, add-mul, mul-lt-mul_of_pos_right, pow_pos, pow-add}
use Rattle.std.specs.Float.Ieee.{nearest}
use Rattle.nearest.specs.PatternUnits.{infinity}
use Rattle.nearest.specs.Near.{Cmp, cmp, near}
use Rattle.nearest.proofs.Near.{near_digits}
use Rattle.nearest.specs.Scaled.{order_is}

-- two numbers times a positive third stand in the same order
scaled_order : (o : Ordering) (a b c : ℕ) → 0 < c → Cmp o a b → Cmp o (a * c) (b * c)
scaled_order Ordering.lt a b c p h = mul-lt-mul_of_pos_right h p
scaled_order Ordering.eq a b c p h = ap (λ (x : ℕ). x * c) h
scaled_order Ordering.gt a b c p h = mul-lt-mul_of_pos_right h p

-- `compare` answers the same of two numbers and of both times a positive third
compare_scaled : (a b c : ℕ) → 0 < c → compare (a * c) (b * c) ≡ compare a b
compare_scaled a b c p = order_is (compare (a * c) (b * c)) (compare a b) (a * c) (b * c) (cmp (a * c) (b * c)) (scaled_order (compare a b) a b c p (cmp a b))

-- num * 2 ^ s is q times den * 2 ^ j with r left over, q of 53 digits: twice r against the divisor decides
pub near_scaled : (num den s t j q r : ℕ) → s + t ≡ 1074 → 0 < den → q * (den * 2 ^ j) + r ≡ num * 2 ^ s → r < den * 2 ^ j → q < 2 ^ 53 → 2 ^ 52 ≤ q → near num den ≡ min infinity ((j + t) * 2 ^ 52 + nearest q (compare (r * 2) (den * 2 ^ j)))
near_scaled num den s t j q r e dp split rl qk lead =
    let c = 2 ^ t in
    let u = den * 2 ^ j in
    let v : den * 2 ^ (j + t) ≡ u * c = ap (λ (x : ℕ). den * x) (pow-add 2 j t) ∙ sym (mul_assoc den (2 ^ j) c) in
    let whole : q * (den * 2 ^ (j + t)) + r * c ≡ num * 2 ^ 1074 =
    ap (λ (x : ℕ). q * x + r * c) v
    ∙ ap (λ (x : ℕ). x + r * c) (sym (mul_assoc q u c))
    ∙ sym (add-mul (q * u) r c)
    ∙ ap (λ (x : ℕ). x * c) split
    ∙ mul_assoc num (2 ^ s) c
    ∙ ap (λ (x : ℕ). num * x) (sym (pow-add 2 s t) ∙ ap (λ (x : ℕ). 2 ^ x) e) in
    let rest : r * c < den * 2 ^ (j + t) = subst (λ (x : ℕ). r * c < x) (sym v) (mul-lt-mul_of_pos_right rl (pow_pos t)) in
    near_digits num den (j + t) q (r * c) dp whole rest qk (inr lead)
    ∙ ap (λ (o : Ordering). min infinity ((j + t) * 2 ^ 52 + nearest q o))
    (ap (λ (x : ℕ). compare (r * c * 2) x) v ∙ ap (λ (x : ℕ). compare x (u * c)) (mul_right_comm r c 2) ∙ compare_scaled (r * 2) u c (pow_pos t))
