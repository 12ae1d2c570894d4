-- From the digits that are kept to the f64's pattern: the machine's count of zeros tells how many are dropped. Laws for the
-- proofs; no promise names them. Assumes nothing.
use Prim.Native.Nat.{ℕ, suc, ◌+◌, ◌-◌, ◌*◌, ◌/◌, ◌%◌, ◌^◌, ◌≤◌, ◌<◌, min, Ordering}
use Rattle.std.specs.Prelude.{◌≡◌, refl, Bool, true, false, not, ◌||◌, eqb, leb, ltb}
use Rattle.std.proofs.Common.{sym, ◌∙◌, ap, subst, le_of_lt, div-add-mod', mod-lt, pow-suc, arith, eq-eqb, ne_eqb, lt-ltb, le-ltb, ltb-true, leb-true, le-leb, pow_pos, pow-add}
use Rattle.std.proofs.Math.Decide.{dec_le, ℕ_discrete}
use Rattle.std.proofs.lemmas.Bool.{lt-leb}
use Rattle.std.specs.Int.Count.{count_leading_zeros}
use Rattle.std.specs.Float.Ieee.{nearest}
use Rattle.std.specs.Float.Ieee.Fits.{nearest-le}
use Rattle.nearest.specs.PatternUnits.{infinity}
use Rattle.nearest.specs.Near.{near}
use Rattle.f64_rounding.specs.CutNumbers.{CutNumber, near_cut, WithinTwoUnits, sure, digits_beyond53, sure_down, sure_up}
use Rattle.f64_rounding.specs.Half.{against}
use Rattle.f64_rounding.specs.Rounding.{against_told, few_dropped}
use Rattle.f64_rounding.specs.Drops.{drops}

-- ---- the test for no doubt
-- the code's one test for no doubt: what is dropped is not just half, nor the one below, where a unit is a multiple of four
pub sure_test : (low unit : ℕ) → unit % 4 ≡ 0 → not (eqb ((low + 1) / 2 * 4) unit) ≡ sure low unit
sure_test low unit m = go (ℕ_discrete ((low + 1) / 2 * 4) unit)
  where
    other : (a : Bool) → a || true ≡ true
    other true = refl
    other false = refl

    go : Dec ((low + 1) / 2 * 4 ≡ unit) → not (eqb ((low + 1) / 2 * 4) unit) ≡ sure low unit
    go (yes e) =
        let a : unit < (low + 2) * 2 = omega arith in
        let b : low * 2 ≤ unit = omega arith in
        rw (eq-eqb ((low + 1) / 2 * 4) unit e, lt-leb ((low + 2) * 2) unit a, le-ltb unit (low * 2) b) refl
    go (no n) = side (dec_le ((low + 2) * 2) unit)
      where
        side : Dec ((low + 2) * 2 ≤ unit) → not (eqb ((low + 1) / 2 * 4) unit) ≡ sure low unit
        side (yes l) = rw (ne_eqb ((low + 1) / 2 * 4) unit n, le-leb ((low + 2) * 2) unit l) refl
        side (no l) =
            let b : unit < low * 2 = omega arith in
            rw (ne_eqb ((low + 1) / 2 * 4) unit n, lt-ltb unit (low * 2) b) (sym (other (leb ((low + 2) * 2) unit)))

-- a unit of two binary digits or more is a multiple of four
pub unit_four : (z d : ℕ) → d ≡ 11 - z → z ≤ 9 → 2 ^ d % 4 ≡ 0
unit_four z d e l =
    let f : 9 - z + 2 ≡ d = omega arith in
    four (2 ^ (9 - z)) (2 ^ d) (ap (λ (n : ℕ). 2 ^ n) (sym f) ∙ pow-add 2 (9 - z) 2)
  where
    four : (a b : ℕ) → b ≡ a * 4 → b % 4 ≡ 0
    four a b e = omega arith

-- ---- the pattern. A place up to 2000 keeps it below infinity's, which 2047 begins
module _ (w : ℕ) (more : Bool) (x k : ℕ) (least : 2 ^ 53 ≤ w) (most : w < 2 ^ 64) (far : x ≤ 2000) (kept : k ≡ nearest (w / 2 ^ digits_beyond53 w) (against (w % 2 ^ digits_beyond53 w) (2 ^ digits_beyond53 w) more)) where
  -- the pattern that is made of what is kept is a number's
  pattern_lt : (x + digits_beyond53 w) * 2 ^ 52 + k < infinity
  pattern_lt =
      let d = digits_beyond53 w in
      let q = w / 2 ^ d in
      let a : q < 2 ^ 53 = (drops w least most).2 in
      let b : nearest q (against (w % 2 ^ d) (2 ^ d) more) ≤ suc q = nearest-le q (against (w % 2 ^ d) (2 ^ d) more) in
      omega arith

  -- the pattern that is made of what is kept is the nearest of every number that is cut to w
  pattern_near : (num den : ℕ) → CutNumber num den w more x → (x + digits_beyond53 w) * 2 ^ 52 + k ≡ near num den
  pattern_near num den c =
      let z = count_leading_zeros 64 w in
      let d = 11 - z in
      let s = drops w least most in
      let a : z ≤ 10 = s.0 in
      let e : suc (10 - z) ≡ d = omega arith in
      let double : 2 ^ d ≡ 2 ^ (10 - z) * 2 = ap (λ (n : ℕ). 2 ^ n) (sym e) ∙ pow-suc 2 (10 - z) in
      let p : (x + d) * 2 ^ 52 + k < infinity = pattern_lt in
      whole ((x + d) * 2 ^ 52 + k) p
      ∙ ap (λ (n : ℕ). min infinity ((x + d) * 2 ^ 52 + n)) kept
      ∙ sym (near_cut num den w more x c d (2 ^ (10 - z)) (w / 2 ^ d) (w % 2 ^ d) double (div-add-mod' w (2 ^ d)) (mod-lt w (pow_pos d)) s.2 s.1)
    where
      whole : (p : ℕ) → p < infinity → p ≡ min infinity p
      whole p h = omega arith

  -- where w's own digits leave no doubt, the pattern of what is kept is the nearest of every number near above w
  pattern_sure : sure (w % 2 ^ digits_beyond53 w) (2 ^ digits_beyond53 w) ≡ true → (num den : ℕ) → WithinTwoUnits num den w x → (x + digits_beyond53 w) * 2 ^ 52 + k ≡ near num den
  pattern_sure t num den c =
      let z = count_leading_zeros 64 w in
      let d = 11 - z in
      let s = drops w least most in
      let a : z ≤ 10 = s.0 in
      let e : suc (10 - z) ≡ d = omega arith in
      let double : 2 ^ d ≡ 2 ^ (10 - z) * 2 = ap (λ (n : ℕ). 2 ^ n) (sym e) ∙ pow-suc 2 (10 - z) in
      let p : (x + d) * 2 ^ 52 + k < infinity = pattern_lt in
      whole ((x + d) * 2 ^ 52 + k) p ∙ ap (λ (n : ℕ). min infinity ((x + d) * 2 ^ 52 + n)) kept ∙ go z double s.1 s.2 (leb ((w % 2 ^ d + 2) * 2) (2 ^ d)) refl t
    where
      whole : (p : ℕ) → p < infinity → p ≡ min infinity p
      whole p h = omega arith

      go : (z : ℕ) → 2 ^ (11 - z) ≡ 2 ^ (10 - z) * 2 → 2 ^ 52 ≤ w / 2 ^ (11 - z) → w / 2 ^ (11 - z) < 2 ^ 53 → (b : Bool) → leb ((w % 2 ^ (11 - z) + 2) * 2) (2 ^ (11 - z)) ≡ b → b || ltb (2 ^ (11 - z)) (w % 2 ^ (11 - z) * 2) ≡ true → min infinity ((x + (11 - z)) * 2 ^ 52 + nearest (w / 2 ^ (11 - z)) (against (w % 2 ^ (11 - z)) (2 ^ (11 - z)) more)) ≡ near num den
      go z double lead few true l u =
          let d = 11 - z in
          let g : (w % 2 ^ d + 2) * 2 ≤ 2 ^ d = leb-true ((w % 2 ^ d + 2) * 2) (2 ^ d) l in
          let h : w % 2 ^ d + 2 ≤ 2 ^ (10 - z) = halves (w % 2 ^ d + 2) (2 ^ (10 - z)) (2 ^ d) double g in
          let c' : w % 2 ^ d * 2 < 2 ^ d = omega arith in
          ap (λ (o : Ordering). min infinity ((x + d) * 2 ^ 52 + nearest (w / 2 ^ d) o)) (against_told Ordering.lt (w % 2 ^ d) (2 ^ d) more c')
          ∙ sym (sure_down num den w x c d (2 ^ (10 - z)) (w / 2 ^ d) (w % 2 ^ d) double (pow_pos (10 - z)) (div-add-mod' w (2 ^ d)) (mod-lt w (pow_pos d)) few lead h)
        where
          halves : (a b e : ℕ) → e ≡ b * 2 → a * 2 ≤ e → a ≤ b
          halves a b e f g = omega arith
      go z double lead few false l u =
          let d = 11 - z in
          let g : 2 ^ d < w % 2 ^ d * 2 = ltb-true (2 ^ d) (w % 2 ^ d * 2) u in
          let h : 2 ^ (10 - z) < w % 2 ^ d = halves (w % 2 ^ d) (2 ^ (10 - z)) (2 ^ d) double g in
          ap (λ (o : Ordering). min infinity ((x + d) * 2 ^ 52 + nearest (w / 2 ^ d) o)) (against_told Ordering.gt (w % 2 ^ d) (2 ^ d) more g)
          ∙ sym (sure_up num den w x c d (2 ^ (10 - z)) (w / 2 ^ d) (w % 2 ^ d) double (pow_pos (10 - z)) (div-add-mod' w (2 ^ d)) (mod-lt w (pow_pos d)) few lead h)
        where
          halves : (a b e : ℕ) → e ≡ b * 2 → e < a * 2 → b < a
          halves a b e f g = omega arith

-- the pattern where d is what the code drops of w
module _ (w : ℕ) (more : Bool) (x k d : ℕ) (least : 2 ^ 53 ≤ w) (most : w < 2 ^ 64) (far : x ≤ 2000) (is : d ≡ digits_beyond53 w) (kept : k ≡ nearest (w / 2 ^ (d % 64)) (against (w % 2 ^ (d % 64)) (2 ^ (d % 64)) more)) where
  -- what is kept and rounded, the machine's shift written out
  kept_there : k ≡ nearest (w / 2 ^ digits_beyond53 w) (against (w % 2 ^ digits_beyond53 w) (2 ^ digits_beyond53 w) more)
  kept_there = subst (λ (n : ℕ). k ≡ nearest (w / 2 ^ n) (against (w % 2 ^ n) (2 ^ n) more)) is (few_dropped w more d k (omega arith) kept)

  -- the pattern that the code makes of what is kept is no NaN's
  pub made_le : (x + d) * 2 ^ 52 + k ≤ infinity
  made_le = le_of_lt (subst (λ (n : ℕ). (x + n) * 2 ^ 52 + k < infinity) (sym is) (pattern_lt w more x k least most far kept_there))

  -- the pattern that the code makes of what is kept is the nearest of every number that is cut to w
  pub made_near : (num den : ℕ) → CutNumber num den w more x → (x + d) * 2 ^ 52 + k ≡ near num den
  made_near num den c = ap (λ (n : ℕ). (x + n) * 2 ^ 52 + k) is ∙ pattern_near w more x k least most far kept_there num den c

  -- where there is no doubt, the pattern that the code makes is the nearest of every number near above w
  pub made_sure : sure (w % 2 ^ digits_beyond53 w) (2 ^ digits_beyond53 w) ≡ true → (num den : ℕ) → WithinTwoUnits num den w x → (x + d) * 2 ^ 52 + k ≡ near num den
  made_sure t num den c = ap (λ (n : ℕ). (x + n) * 2 ^ 52 + k) is ∙ pattern_sure w more x k least most far kept_there t num den c
