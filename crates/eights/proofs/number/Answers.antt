use Rattle.std.specs.Prelude.{ℕ, ◌^◌, ◌≤◌, ◌<◌, ◌≡◌, Bool, true, false, List, [], ◌∷◌, length, get_or, Some, None}
use Rattle.std.proofs.Common.{sym, ◌∙◌, subst, arith}
use Rattle.std.specs.Int.{w64, from_le_bytes}
use Rattle.eights.specs.Fields.{EachNumber}
use Rattle.eights.specs.Eights.{joined_of, eight_of, DigitsTest, Makes}
use Rattle.eights.specs.Told.{EightTold}
use Rattle.eights.specs.Right.{threes, all_bounded, joined_bounds, digits_test_passed, digits_test_failed}
use Rattle.eights.proofs.number.Goals as goal

-- `eights::number` meets its contract: the test tells whether the bytes are digits, and the value what they make. Assumes nothing.

-- what holds of any eight bytes holds of a list of eight
of_eight : (P : List ℕ → Type 0) → ((a b c d e f g h : ℕ) → P (eight_of a b c d e f g h)) → (bs : List ℕ) → length bs ≡ 8 → P bs
of_eight P p (a ∷ b ∷ c ∷ d ∷ e ∷ f ∷ g ∷ h ∷ []) l = p a b c d e f g h
of_eight P p [] l = absurd (omega arith)
of_eight P p (a ∷ []) l = absurd (omega arith)
of_eight P p (a ∷ b ∷ []) l = absurd (omega arith)
of_eight P p (a ∷ b ∷ c ∷ []) l = absurd (omega arith)
of_eight P p (a ∷ b ∷ c ∷ d ∷ []) l = absurd (omega arith)
of_eight P p (a ∷ b ∷ c ∷ d ∷ e ∷ []) l = absurd (omega arith)
of_eight P p (a ∷ b ∷ c ∷ d ∷ e ∷ f ∷ []) l = absurd (omega arith)
of_eight P p (a ∷ b ∷ c ∷ d ∷ e ∷ f ∷ g ∷ []) l = absurd (omega arith)
of_eight P p (a ∷ b ∷ c ∷ d ∷ e ∷ f ∷ g ∷ h ∷ i ∷ r) l = absurd (omega arith)

-- the number that eight bytes are in memory is the number that joins them
le_joined : (a b c d e f g h : ℕ) → from_le_bytes w64 (eight_of a b c d e f g h) ≡ joined_of (eight_of a b c d e f g h)
le_joined a b c d e f g h = omega arith

-- what the test of an array's bytes and the value made of them tell of the bytes
record Numbered (bs : List ℕ) (w : ℕ) (r : Bool) : Type 0 where
  pub bounds : r ≡ true → (threes ≤ w) × (w ≤ 0x3939_3939_3939_3939)
  pub makes : r ≡ true → (v : ℕ) → Makes w v → EightTold bs (Some v)
  pub none : r ≡ false → EightTold bs None

-- the test of an array's bytes tells whether they are digits, and the value what they make
numbered : (bs : List ℕ) → length bs ≡ 8 → (w : ℕ) (r : Bool) → ((k : ℕ) → get_or bs k 0 < 2 ^ 8) → w ≡ from_le_bytes w64 bs → DigitsTest w r → Numbered bs w r
numbered bs n w r = of_eight (λ (bs : List ℕ). ((k : ℕ) → get_or bs k 0 < 2 ^ 8) → w ≡ from_le_bytes w64 bs → DigitsTest w r → Numbered bs w r) go bs n
  where
    go : (a b c d e f g h : ℕ) → ((k : ℕ) → get_or (eight_of a b c d e f g h) k 0 < 2 ^ 8) → w ≡ from_le_bytes w64 (eight_of a b c d e f g h) → DigitsTest w r → Numbered (eight_of a b c d e f g h) w r
    go a b c d e f g h l i t =
        let is : w ≡ joined_of (eight_of a b c d e f g h) = i ∙ le_joined a b c d e f g h in
        let bytes : EachNumber (λ (x : ℕ). x < 2 ^ 8) (eight_of a b c d e f g h) = (l 0, (l 1, (l 2, (l 3, (l 4, (l 5, (l 6, (l 7, tt)))))))) in
        record {
          bounds = λ p. subst (λ (n : ℕ). (threes ≤ n) × (n ≤ 0x3939_3939_3939_3939)) (sym is) (joined_bounds a b c d e f g h (all_bounded (eight_of a b c d e f g h) (digits_test_passed a b c d e f g h w r bytes is t p)));
          makes = λ p v m. let all = digits_test_passed a b c d e f g h w r bytes is t p in (all, m a b c d e f g h all is);
          none = λ p. digits_test_failed a b c d e f g h w r bytes is t p;
        }

pub value-requires : goal.value-requires
value-requires c = (numbered c.args.bytes.now c.told-bytes c.from_le_bytes-w.result c.are_digits.result c.fits-bytes c.from_le_bytes-w.ensures c.are_digits.ensures).bounds c.if-are_digits.true

pub returns-then-are_digits : goal.returns-then-are_digits
returns-then-are_digits c =
    (numbered c.args.bytes.now c.told-bytes c.from_le_bytes-w.result c.are_digits.result c.fits-bytes c.from_le_bytes-w.ensures c.are_digits.ensures).makes c.if-are_digits.true c.value.result c.value.ensures

pub returns : goal.returns
returns c = (numbered c.args.bytes.now c.told-bytes c.from_le_bytes-w.result c.are_digits.result c.fits-bytes c.from_le_bytes-w.ensures c.are_digits.ensures).none c.if-are_digits.false
