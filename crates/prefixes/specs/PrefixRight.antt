-- The factor of a prefix by the rule that names no search (Rules.antt): Prefix.antt computes just this. Assumes nothing.
use Rattle.std.specs.Prelude.{ℕ, zero, suc, ◌^◌, ◌≤◌, ◌<◌, ◌≡◌, refl, Bool, true, false, not, ◌&&◌, List, [], ◌∷◌, T, length, get_or}
use Rattle.std.proofs.Common.{sym, ◌∙◌, ap, subst, le_of_suc-le-suc, arith}
use Rattle.std.proofs.Math.Nat.{one-le-pow}
use Rattle.std.proofs.Math.Decide.{dec_lt}
use Rattle.std.specs.Float.Ieee.Bits.{is_false}
use Rattle.std.specs.Float.Ieee.Fits.{and_l, and_r}
use Rattle.common.specs.Pick.{pick}
use Rattle.record.specs.Word.{same_bytes, is_word}
use Rattle.record.specs.Form.{Spelt}
use Rattle.common.specs.Bytes.{bytes}
use Rattle.record.specs.FormRight.{spelt_is, spelt_only}
use Rattle.nearest.specs.Near.{near}
use Rattle.nearest.proofs.Near.{near_is, near_only}
use Rattle.prefixes.specs.Prefix.{place_in, prefix_of, factor_of, place_most}
use Rattle.prefixes.specs.Rules.{Prefix, prefixes, unity, ten_up, ten_down, PrefixForm, named, other}

-- ---- no two rows have one name: one test that antt computes
-- no row of the table is named w
abbrev absent : List ℕ → List Prefix → Bool
absent w [] = true
absent w (q ∷ qs) = not (same_bytes (bytes q.name) w) && absent w qs

-- no row of the table has a later one's name
abbrev distinct : List Prefix → Bool
distinct [] = true
distinct (p ∷ ps) = absent (bytes p.name) ps && distinct ps

-- the names of the sixteen prefixes are distinct
all_distinct : T (distinct prefixes)
all_distinct = tt

-- where no row is named w, the name at row j is another
absent_at : (w : List ℕ) (ps : List Prefix) (j : ℕ) → T (absent w ps) → j < length ps → same_bytes (bytes (get_or ps j unity).name) w ≡ false
absent_at w [] j a h = absurd (omega arith)
absent_at w (q ∷ qs) zero a h = is_false (same_bytes (bytes q.name) w) (and_l (not (same_bytes (bytes q.name) w)) (absent w qs) a)
absent_at w (q ∷ qs) (suc j) a h = absent_at w qs j (and_r (not (same_bytes (bytes q.name) w)) (absent w qs) a) (le_of_suc-le-suc h)

-- ---- the search finds the row that is named so
-- where row j has the name t, the search finds row j
place_only : (t : List ℕ) (ps : List Prefix) (j : ℕ) → T (distinct ps) → j < length ps → Spelt t (get_or ps j unity).name → place_in ps t ≡ j
unfolding place_in
place_only t [] j d h s = absurd (omega arith)
place_only t (p ∷ ps) zero d h s = rw (spelt_only t p.name s) refl
place_only t (p ∷ ps) (suc j) d h s =
    let a : T (absent (bytes p.name) ps) = and_l (absent (bytes p.name) ps) (distinct ps) d in
    let e : is_word t (bytes p.name) ≡ false = ap (λ (l : List ℕ). same_bytes l (bytes p.name)) s ∙ absent_at (bytes p.name) ps j a (le_of_suc-le-suc h) in
    rw e (ap suc (place_only t ps j (and_r (absent (bytes p.name) ps) (distinct ps) d) (le_of_suc-le-suc h) s))

-- the row that the search finds has the name t
place_is : (t : List ℕ) (ps : List Prefix) → place_in ps t < length ps → Spelt t (get_or ps (place_in ps t) unity).name
unfolding place_in
place_is t [] h = absurd (omega arith)
place_is t (p ∷ ps) h = go (is_word t (bytes p.name)) refl h (place_is t ps)
  where
    go : (b : Bool) → is_word t (bytes p.name) ≡ b → pick b 0 (suc (place_in ps t)) < suc (length ps) → (place_in ps t < length ps → Spelt t (get_or ps (place_in ps t) unity).name) → Spelt t (get_or (p ∷ ps) (pick b 0 (suc (place_in ps t))) unity).name
    go true e h r = spelt_is t p.name e
    go false e h r = r (le_of_suc-le-suc h)

-- ---- the theorems
-- the lower side of a power of ten as a fraction is positive
up_pos : (p : Prefix) → 0 < ten_down p
up_pos p = go p.down p.tens
  where
    go : (b : Bool) (k : ℕ) → 0 < pick b (10 ^ k) 1
    go true k = one-le-pow k 10 (omega arith)
    go false k = omega arith

-- where the search finds no row, the factor is 1.0
at_end : (t : List ℕ) → place_in prefixes t ≡ 16 → factor_of t ≡ near 1 1
at_end t e = ap (λ (k : ℕ). near (ten_up (get_or prefixes k unity)) (ten_down (get_or prefixes k unity))) e

-- the factor that `factor_of` computes is the one of the rule
pub prefix_is : (t : List ℕ) → PrefixForm t (factor_of t)
prefix_is t = go (dec_lt (place_in prefixes t) 16) (place_most t)
  where
    never : (a k : ℕ) → a ≡ 16 → a ≡ k → k < 16 → ⊥
    never a k e f h = omega arith

    go : Dec (place_in prefixes t < 16) → place_in prefixes t ≤ 16 → PrefixForm t (factor_of t)
    go (yes h) m = named (place_in prefixes t) h (place_is t prefixes h) (near_is (ten_up (prefix_of t)) (ten_down (prefix_of t)) (up_pos (prefix_of t)))
    go (no h) m =
        let e : place_in prefixes t ≡ 16 = omega arith in
        subst (PrefixForm t) (sym (at_end t e)) (other (λ k l s. never (place_in prefixes t) k e (place_only t prefixes k all_distinct l s) l) (near_is 1 1 (omega arith)))

-- no factor but the one that `factor_of` computes is allowed by the rule
pub prefix_only : {t : List ℕ} {b : ℕ} → PrefixForm t b → b ≡ factor_of t
prefix_only {t} {b} (named k h s n) =
    near_only (ten_up (get_or prefixes k unity)) (ten_down (get_or prefixes k unity)) b (up_pos (get_or prefixes k unity)) n
    ∙ ap (λ (j : ℕ). near (ten_up (get_or prefixes j unity)) (ten_down (get_or prefixes j unity))) (sym (place_only t prefixes k all_distinct h s))
prefix_only {t} {b} (other h n) = near_only 1 1 b (omega arith) n ∙ sym (at_end t (by (dec_lt (place_in prefixes t) 16) (place_most t)))
  where
    by : Dec (place_in prefixes t < 16) → place_in prefixes t ≤ 16 → place_in prefixes t ≡ 16
    by (yes l) m = absurd (h (place_in prefixes t) l (place_is t prefixes l))
    by (no l) m = omega arith
