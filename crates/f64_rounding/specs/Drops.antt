-- How many digits of w are dropped, and what is left: the machine's count of zeros tells. Laws for the proofs; no promise names them. Assumes nothing.
use Rattle.std.specs.Prelude.{ℕ, suc, ◌+◌, ◌-◌, ◌/◌, ◌^◌, ◌≤◌, ◌<◌, ◌≡◌, ◌⊎◌}
use Rattle.std.proofs.Common.{sym, ◌∙◌, ap, subst, inl, inr, le-div_iff_mul-le, div-lt_iff_lt-mul, lt_of_le_of_lt, lt_of_lt_of_le, arith, pow_pos, pow-add}
use Rattle.std.proofs.Math.Decide.{dec_lt}
use Rattle.std.specs.Int.Count.{count_leading_zeros}
use Rattle.std.proofs.lemmas.Nat.{leading_top, leading_length}
use Rattle.nearest.specs.Round.{pow_lt_back}
use Rattle.f64_rounding.specs.CutNumbers.{digits_beyond53}
use Rattle.f64_rounding.specs.Window.{spare_of}

-- of w, which has from 54 to 64 digits, as many are dropped as leave 53
pub drops : (w : ℕ) → 2 ^ 53 ≤ w → w < 2 ^ 64 → (count_leading_zeros 64 w ≤ 10) × (2 ^ 52 ≤ w / 2 ^ digits_beyond53 w) × (w / 2 ^ digits_beyond53 w < 2 ^ 53)
drops w l h =
    let t = leading_top 64 w (lt_of_lt_of_le (pow_pos 53) l) h in
    let z = count_leading_zeros 64 w in
    let j = t.0 in
    let e : z + suc j ≡ 64 = t.1 in
    let g : 53 < suc j = pow_lt_back 53 (suc j) (lt_of_le_of_lt l t.3) in
    let d : 52 + (11 - z) ≡ j = omega arith in
    let f : 53 + (11 - z) ≡ suc j = omega arith in (
      omega arith,
      (le-div_iff_mul-le {x = 2 ^ 52} {y = w} (pow_pos (11 - z))).1 (subst (λ (x : ℕ). x ≤ w) (ap (λ (x : ℕ). 2 ^ x) (sym d) ∙ pow-add 2 52 (11 - z)) t.2),
      (div-lt_iff_lt-mul {x = w} {y = 2 ^ 53} (pow_pos (11 - z))).1 (subst (λ (x : ℕ). w < x) (ap (λ (x : ℕ). 2 ^ x) (sym f) ∙ pow-add 2 53 (11 - z)) t.3),
    )

-- where w has 55 to 64 digits, two of them are dropped or more
pub drops_two : (w : ℕ) → 2 ^ 54 ≤ w → w < 2 ^ 64 → count_leading_zeros 64 w ≤ 9
drops_two w l h =
    let t = leading_top 64 w (lt_of_lt_of_le (pow_pos 54) l) h in
    let e : count_leading_zeros 64 w + suc t.0 ≡ 64 = t.1 in
    let g : 54 < suc t.0 = pow_lt_back 54 (suc t.0) (lt_of_le_of_lt l t.3) in
    omega arith

-- a number of 53 digits at most drops one, and one of more as many as are beyond 53
pub spare_is : (w : ℕ) → w < 2 ^ 64 → ((w < 2 ^ 53) × (spare_of w ≡ 1)) ⊎ ((2 ^ 53 ≤ w) × (spare_of w ≡ digits_beyond53 w))
spare_is w h = go (dec_lt w (2 ^ 53))
  where
    go : Dec (w < 2 ^ 53) → ((w < 2 ^ 53) × (spare_of w ≡ 1)) ⊎ ((2 ^ 53 ≤ w) × (spare_of w ≡ digits_beyond53 w))
    go (yes l) =
        let t = leading_length 64 w h in
        let e : count_leading_zeros 64 w + t.0 ≡ 64 = t.1 in
        let m : t.0 < 54 = pow_lt_back t.0 54 (lt_of_le_of_lt t.3 (omega arith)) in
        inl (l, omega arith)
    go (no n) =
        let l : 2 ^ 53 ≤ w = omega arith in
        let z : count_leading_zeros 64 w ≤ 10 = (drops w l h).0 in
        inr (l, omega arith)

-- where `spare_of w` digits of w are dropped, at most 53 are left; and just 53, unless one is dropped
pub spare_leaves : (w : ℕ) → w < 2 ^ 64 → (w / 2 ^ spare_of w < 2 ^ 53) × ((spare_of w ≡ 1) ⊎ (2 ^ 52 ≤ w / 2 ^ spare_of w))
spare_leaves w h = go (spare_is w h)
  where
    go : ((w < 2 ^ 53) × (spare_of w ≡ 1)) ⊎ ((2 ^ 53 ≤ w) × (spare_of w ≡ digits_beyond53 w)) → (w / 2 ^ spare_of w < 2 ^ 53) × ((spare_of w ≡ 1) ⊎ (2 ^ 52 ≤ w / 2 ^ spare_of w))
    go (inl s) = let l : w < 2 ^ 53 = s.0 in (subst (λ (n : ℕ). w / 2 ^ n < 2 ^ 53) (sym s.1) (omega arith), inl s.1)
    go (inr s) =
        let d = drops w s.0 h in
        (subst (λ (n : ℕ). w / 2 ^ n < 2 ^ 53) (sym s.1) d.2, inr (subst (λ (n : ℕ). 2 ^ 52 ≤ w / 2 ^ n) (sym s.1) d.1))
