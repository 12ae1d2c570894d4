-- What may stand between tokens: that it is what `past_gap` passes over, and which bytes it is not. Assumes nothing.
use Rattle.std.specs.Prelude.{ℕ, ◌≤◌, ◌≡◌, refl, Bool, true, false, not, List, [], ◌∷◌, ◌++◌, eqb}
use Rattle.std.proofs.Common.{ap, ◌∙◌, arith, ne_eqb}
use Rattle.std.proofs.lemmas.Bool.{not-true}
use Rattle.common.specs.Compare.{clash}
use Rattle.common.specs.Tests.{bounds}
use Rattle.lex.specs.Byte.{white}
use Rattle.record.specs.Text.{past, past_gap}
use Rattle.record.specs.Byte.{digit}
use Rattle.record.specs.Form.{NotFirst, Gap, NoGapFirst, Gapped, NoParen}
use Rattle.record.specs.FormRight.Parts.{first_other, first_part, all_join, all_kind, SplitAfter, split_is, past_pass, past_halt}

-- a byte that begins nothing that may stand between tokens
abbrev pub begins_token : ℕ → Bool
begins_token c = not (white c)

-- a list whose first byte is not white begins with no gap
pub gap_other : (c : ℕ) (xs : List ℕ) → begins_token c ≡ true → NoGapFirst (c ∷ xs)
gap_other c xs h = first_other white c xs (not-true (white c) h)

-- where a list begins with no gap, its front part begins with none
pub gap_part : (t z : List ℕ) → NoGapFirst (t ++ z) → NoGapFirst t
gap_part t z = first_part white t z

-- a list that begins with no gap begins with none when more follows it
pub gap_more : (c : ℕ) (t z : List ℕ) → NoGapFirst (c ∷ t) → NoGapFirst (c ∷ (t ++ z))
gap_more c t z h = first_other white c (t ++ z) (h c t refl)

-- two gaps, one after the other, are a gap
pub gap_join : (f g : List ℕ) → Gap f → Gap g → Gap (f ++ g)
gap_join = all_join white

-- `past_gap` answers r, where the whole gap f stands before r
pub gap_only : (f r : List ℕ) → Gapped f r → past_gap (f ++ r) ≡ r
gap_only f r s = past_pass white f r s.all ∙ past_halt white r s.over

-- what `past_gap` answers follows the whole gap at the list's start
pub gap_is : (xs : List ℕ) → (f : List ℕ) × (xs ≡ f ++ past_gap xs) × Gapped f (past_gap xs)
gap_is xs = go (split_is white xs)
  where
    go : SplitAfter white xs → (f : List ℕ) × (xs ≡ f ++ past white xs) × Gapped f (past white xs)
    go (f, r, e, s) =
        let k : Gapped f r = record { all = s.all; over = s.over } in
        let g : past white xs ≡ r = ap (past white) e ∙ gap_only f r k in
        (f, rw g e, rw g k)

-- every list begins with a gap, which may be empty
pub gap_comes : (xs : List ℕ) → (f r : List ℕ) × (xs ≡ f ++ r) × Gapped f r
gap_comes xs = let (f, e, s) = gap_is xs in (f, past_gap xs, e, s)

-- no `(` is in a gap
pub gap_free : (w : List ℕ) → Gap w → NoParen w
gap_free w = all_kind white (λ c. not (eqb c 40)) w (λ c k. rw (ne_eqb c 40 (λ e. let f : white 40 ≡ true = rw e at k in clash (cc))))

-- no whitespace is a digit
pub white_digit : (c : ℕ) → white c ≡ true → digit c ≡ false
white_digit c h = go (digit c) refl
  where
    go : (t : Bool) → digit c ≡ t → digit c ≡ false
    go false e = e
    go true e =
        let l : (48 ≤ c) × (c ≤ 57) = bounds 48 c 57 e in
        let n : (b : ℕ) → (c ≡ b → ⊥) → eqb c b ≡ false = ne_eqb c in
        let w : white c ≡ false = rw (n 32 (omega arith), n 9 (omega arith), n 10 (omega arith), n 12 (omega arith), n 13 (omega arith)) in
        clash (cc)

-- where y begins with no digit, a gap and y after it begin with no digit
pub gap_digit : (w y : List ℕ) → Gap w → NotFirst digit y → NotFirst digit (w ++ y)
gap_digit [] y h k = k
gap_digit (c ∷ w) y (h, t) k = first_other digit c (w ++ y) (white_digit c h)
