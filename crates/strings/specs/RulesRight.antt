-- Rules.antt's rules and what Text.antt computes are one: what is computed is so, and nothing else is. No theorem asks that the
-- numbers of a list are bytes. Assumes nothing.
use Rattle.std.specs.Prelude.{ℕ, zero, suc, ◌+◌, ◌*◌, ◌-◌, ◌≤◌, ◌<◌, min, ◌≡◌, refl, Bool, true, false, ◌&&◌, ◌||◌, List, [], ◌∷◌, ◌++◌, eqb, leb, ltb, length, take, drop}
use Rattle.std.proofs.Common.{sym, ◌∙◌, ap, subst, arith, ltb-true, ltb-false, leb-true, lt-ltb, le-ltb, le-leb, eqb-true, eq-eqb, ne_eqb, length-drop, take-append-drop, drop-cons, get_or-drop}
use Rattle.std.proofs.Math.Decide.{dec_lt}
use Rattle.std.proofs.lemmas.Bool.{lt-leb, eqb-false}
use Rattle.common.specs.Pick.{pick}
use Rattle.common.specs.Tests.{both, neither, in_range}
use Rattle.lex.specs.Grammar.{Begins}
use Rattle.utf8.specs.Utf8.{encode, byte_at, lead_of}
use Rattle.utf8.specs.Answer.{LeadCharacter, valid, invalid}
use Rattle.utf8.specs.Rfc3629.{Encoded, line_one, line_two, line_three, line_four}
use Rattle.utf8.specs.Laws.{scalar_low, scalar_high, scalar_between, scalar_above, encode_one}
use Rattle.utf8.specs.Agree.{table_is, table_only, encode_leads, lead_is}
use Rattle.pages.specs.Pages.{page_of, code_of}
use Rattle.pages.specs.Rules.{page_a}
use Rattle.pages.specs.Right as Page
use Rattle.strings.specs.Text
use Rattle.strings.specs.Hex.{hex_within, four_within}
use Rattle.strings.specs.Steps.{is_within, groups_end_here, groups_stop, groups_wrong, groups_char, piece_fits, text_goes, page_stays, plain_stays}
use Rattle.strings.specs.Rules

-- from a test that passes and fails anything follows
differ : {A : Type 0} (t : Bool) → t ≡ true → t ≡ false → A
differ t p q = let z : ◌≡◌ {A = ℕ} 0 1 = ap (λ (u : Bool). pick u 0 1) (sym p ∙ q) in absurd (omega arith)

-- ---- hex digits
-- a byte that is computed to be a hex digit is one, of the value computed
pub hex_is : (b : ℕ) → Text.hex_digit b ≡ true → Rules.HexValue b (Text.hex_value b)
hex_is b e = go (leb 48 b && leb b 57) (leb 65 b && leb b 70) (leb 97 b && leb b 102) refl refl refl
  where
    go : (x y z : Bool) → leb 48 b && leb b 57 ≡ x → leb 65 b && leb b 70 ≡ y → leb 97 b && leb b 102 ≡ z → Rules.HexValue b (Text.hex_value b)
    go true y z p q r =
        let (k, l) = both (leb 48 b) (leb b 57) p in
        let i = leb-true 48 b k in
        let j = leb-true b 57 l in
        let f : 48 + (b - 48) ≡ b = omega arith in
        rw l (subst (λ (c : ℕ). Rules.HexValue c (b - 48)) f (Rules.decimal {v = b - 48} (omega arith)))
    go false true z p q r =
        let (k, l) = both (leb 65 b) (leb b 70) q in
        let i = leb-true 65 b k in
        let j = leb-true b 70 l in
        let f : 65 + (b - 65) ≡ b = omega arith in
        let g : 10 + (b - 65) ≡ b - 55 = omega arith in
        rw (lt-leb b 57 (omega arith), l, ← g) (subst (λ (c : ℕ). Rules.HexValue c (10 + (b - 65))) f (Rules.capital {v = b - 65} (omega arith)))
    go false false true p q r =
        let (k, l) = both (leb 97 b) (leb b 102) r in
        let i = leb-true 97 b k in
        let j = leb-true b 102 l in
        let f : 97 + (b - 97) ≡ b = omega arith in
        let g : 10 + (b - 97) ≡ b - 87 = omega arith in
        rw (lt-leb b 57 (omega arith), lt-leb b 70 (omega arith), ← g) (subst (λ (c : ℕ). Rules.HexValue c (10 + (b - 97))) f (Rules.small {v = b - 97} (omega arith)))
    go false false false p q r = differ (Text.hex_digit b) e (rw (p, q, r) refl)

-- a number above a range fails its test
over : (l h b : ℕ) → l ≤ b → h < b → leb l b && leb b h ≡ false
over l h b p q = rw (le-leb l b p, lt-leb b h q) refl

-- a hex digit is computed to be one, of its value
pub hex_only : {b v : ℕ} → Rules.HexValue b v → (Text.hex_digit b ≡ true) × (Text.hex_value b ≡ v)
hex_only (Rules.decimal {v = v} h) = one (48 + v) v refl h
  where
    one : (b v : ℕ) → b ≡ 48 + v → v < 10 → (Text.hex_digit b ≡ true) × (Text.hex_value b ≡ v)
    one b v e h = (rw (in_range 48 b 57 (omega arith) (omega arith)) refl, rw (le-leb b 57 (omega arith)) (omega arith))
hex_only (Rules.capital {v = v} h) = one (65 + v) v refl h
  where
    one : (b v : ℕ) → b ≡ 65 + v → v < 6 → (Text.hex_digit b ≡ true) × (Text.hex_value b ≡ 10 + v)
    one b v e h = (
      rw (over 48 57 b (omega arith) (omega arith), in_range 65 b 70 (omega arith) (omega arith)) refl,
      rw (lt-leb b 57 (omega arith), le-leb b 70 (omega arith)) (omega arith),
    )
hex_only (Rules.small {v = v} h) = one (97 + v) v refl h
  where
    one : (b v : ℕ) → b ≡ 97 + v → v < 6 → (Text.hex_digit b ≡ true) × (Text.hex_value b ≡ 10 + v)
    one b v e h = (
      rw (over 48 57 b (omega arith) (omega arith), over 65 70 b (omega arith) (omega arith), in_range 97 b 102 (omega arith) (omega arith)) refl,
      rw (lt-leb b 57 (omega arith), lt-leb b 70 (omega arith)) (omega arith),
    )

-- four bytes that are computed to be hex digits are four by the rule
pub four_is : (s : List ℕ) → Text.four_at s 0 ≡ true → Rules.FourHex s (Text.four_of s 0)
four_is [] e = let h = four_within [] 0 e in absurd (omega arith)
four_is (a ∷ []) e = let h = four_within (a ∷ []) 0 e in absurd (omega arith)
four_is (a ∷ b ∷ []) e = let h = four_within (a ∷ b ∷ []) 0 e in absurd (omega arith)
four_is (a ∷ b ∷ c ∷ []) e = let h = four_within (a ∷ b ∷ c ∷ []) 0 e in absurd (omega arith)
four_is (a ∷ b ∷ c ∷ d ∷ r) e =
    let (x, y) = both (Text.hex_digit a && Text.hex_digit b) (Text.hex_digit c && Text.hex_digit d) e in
    let (p, q) = both (Text.hex_digit a) (Text.hex_digit b) x in
    let (t, u) = both (Text.hex_digit c) (Text.hex_digit d) y in
    let f : Text.hex_value a * 4096 + Text.hex_value b * 256 + Text.hex_value c * 16 + Text.hex_value d ≡ (Text.hex_value a * 16 + Text.hex_value b) * 256 + (Text.hex_value c * 16 + Text.hex_value d) = sum (Text.hex_value a) (Text.hex_value b) (Text.hex_value c) (Text.hex_value d) in
    subst (Rules.FourHex (a ∷ b ∷ c ∷ d ∷ r)) f (Rules.digits (hex_is a p) (hex_is b q) (hex_is c t) (hex_is d u))
  where
    sum : (i j k l : ℕ) → i * 4096 + j * 256 + k * 16 + l ≡ (i * 16 + j) * 256 + (k * 16 + l)
    sum i j k l = omega arith

-- four hex digits by the rule are computed to be four, of their number
pub four_only : {s : List ℕ} {n : ℕ} → Rules.FourHex s n → (Text.four_at s 0 ≡ true) × (Text.four_of s 0 ≡ n)
four_only (Rules.digits {i = i} {j = j} {k = k} {l = l} p q t u) =
    let (a, e) = hex_only p in
    let (b, f) = hex_only q in
    let (c, g) = hex_only t in
    let (d, h) = hex_only u in
    (rw (a, b, c, d) refl, rw (e, f, g, h) (omega arith))

-- the four digits after the first four, counted from there or from the start
four_next : (s : List ℕ) → (Text.four_at (drop 4 s) 0 ≡ Text.four_at s 4) × (Text.four_of (drop 4 s) 0 ≡ Text.four_of s 4)
four_next s = (
  rw (get_or-drop 4 s 0 256, get_or-drop 4 s 1 256, get_or-drop 4 s 2 256, get_or-drop 4 s 3 256) refl,
  rw (get_or-drop 4 s 0 256, get_or-drop 4 s 1 256, get_or-drop 4 s 2 256, get_or-drop 4 s 3 256) refl,
)

-- four bytes after the first four that are computed to be hex digits are four by the rule
second_is : (s : List ℕ) → Text.four_at s 4 ≡ true → Rules.FourHex (drop 4 s) (Text.four_of s 4)
second_is s e = let (p, q) = four_next s in subst (Rules.FourHex (drop 4 s)) q (four_is (drop 4 s) (p ∙ e))

-- four hex digits by the rule after the first four are computed to be four, of their number
second_only : (s : List ℕ) (n : ℕ) → Rules.FourHex (drop 4 s) n → (Text.four_at s 4 ≡ true) × (Text.four_of s 4 ≡ n)
second_only s n f = let (p, q) = four_next s in let (t, u) = four_only f in (sym p ∙ t, sym q ∙ u)

-- ---- groups
-- the character that is computed of a code is the code's
pub shown_is : (n : ℕ) → Rules.CharacterOfCode n (Text.character_of_code n)
shown_is n = go (dec_lt n 55296) (dec_lt n 57344) (dec_lt 1114111 n)
  where
    go : Dec (n < 55296) → Dec (n < 57344) → Dec (1114111 < n) → Rules.CharacterOfCode n (Text.character_of_code n)
    go (yes h) _ _ = rw (scalar_low n h) (Rules.below h)
    go (no a) (yes h) _ = rw (scalar_between n (omega arith) (omega arith)) (Rules.surrogate {n = n} (omega arith, omega arith))
    go (no a) (no b) (yes h) = rw (scalar_above n h) (Rules.beyond h)
    go (no a) (no b) (no c) = rw (scalar_high n (omega arith) (omega arith)) (Rules.above {n = n} (omega arith, omega arith))

-- no character but the one that is computed is a code's
pub shown_only : {n c : ℕ} → Rules.CharacterOfCode n c → Text.character_of_code n ≡ c
shown_only {n} (Rules.below h) = rw (scalar_low n h) refl
shown_only {n} (Rules.above (l, h)) = rw (scalar_high n l h) refl
shown_only {n} (Rules.surrogate (l, h)) = rw (scalar_between n l h) refl
shown_only {n} (Rules.beyond h) = rw (scalar_above n h) refl

-- a number of a range whose end is left out passes its test
half : (l h b : ℕ) → l ≤ b → b < h → leb l b && ltb b h ≡ true
half l h b p q = rw (le-leb l b p, lt-ltb b h q) refl

-- a number outside a range whose end is left out fails its test
outside : (l h b : ℕ) → (l ≤ b → b < h → ⊥) → leb l b && ltb b h ≡ false
outside l h b n = go (leb l b && ltb b h) refl
  where
    go : (t : Bool) → leb l b && ltb b h ≡ t → leb l b && ltb b h ≡ false
    go true e = let (p, q) = both (leb l b) (ltb b h) e in absurd (n (leb-true l b p) (ltb-true b h q))
    go false e = e

-- a good group by the rule is computed to be one
pub good_only : {w : ℕ} {s : List ℕ} {c k : ℕ} → Rules.GoodGroup w s c k → Text.group_of w s ≡ Text.char c k
unfolding Text.group_two Text.group_four
good_only {s = s} (Rules.single {n = n} f h g) =
    let (p, q) = four_only f in
    let u : Text.high n ≡ false = outside 55296 56320 n (λ a b. h (a, omega arith)) in
    rw (p, q, u, shown_only g) refl
good_only {s = s} (Rules.pair {y = y} {x = x} f h g i) =
    let (p, q) = four_only f in
    let (t, e) = second_only s (56320 + x) g in
    let u : Text.high (55296 + y) ≡ true = half 55296 56320 (55296 + y) (omega arith) (omega arith) in
    let v : Text.low (56320 + x) ≡ true = half 56320 57344 (56320 + x) (omega arith) (omega arith) in
    let a : 55296 + y - 55296 ≡ y = omega arith in
    let b : 56320 + x - 56320 ≡ x = omega arith in
    rw (p, q, u, t, e, v, a, b) refl
good_only {s = s} (Rules.unpaired {n = n} {m = m} f (l, h) g i) =
    let (p, q) = four_only f in
    let (t, e) = second_only s m g in
    let u : Text.high n ≡ true = half 55296 56320 n l (omega arith) in
    let v : Text.low m ≡ false = outside 56320 57344 m (λ a b. i (a, omega arith)) in
    rw (p, q, u, t, e, v) refl
good_only {s = s} (Rules.eight {n = n} {m = m} f g h) =
    let (p, q) = four_only f in
    let (t, e) = second_only s m g in
    rw (p, q, t, e, shown_only h) refl

-- what a group as computed is by the rules: a good one of its character and its bytes, or nothing is said
abbrev Told : ℕ → List ℕ → Text.Group → Type 0
Told w s (Text.char c k) = Rules.GoodGroup w s c k
Told w s Text.wrong = Unit {0}

-- a group of four digits as computed is as `Told` says
two_told : (s : List ℕ) → Told 4 s (Text.group_two s)
unfolding Text.group_two
two_told s = go (Text.four_at s 0) refl
  where
    both_are : (t : Bool) → Text.low (Text.four_of s 4) ≡ t → Text.four_at s 0 ≡ true → Text.high (Text.four_of s 0) ≡ true → Text.four_at s 4 ≡ true → Rules.GoodGroup 4 s (pick t (65536 + (Text.four_of s 0 - 55296) * 1024 + (Text.four_of s 4 - 56320)) 65533) 8
    both_are true e p h q =
        let (a, b) = both (leb 55296 (Text.four_of s 0)) (ltb (Text.four_of s 0) 56320) h in
        let (c, d) = both (leb 56320 (Text.four_of s 4)) (ltb (Text.four_of s 4) 57344) e in
        let al = leb-true 55296 (Text.four_of s 0) a in
        let ah = ltb-true (Text.four_of s 0) 56320 b in
        let bl = leb-true 56320 (Text.four_of s 4) c in
        let bh = ltb-true (Text.four_of s 4) 57344 d in
        let f : Text.four_of s 0 ≡ 55296 + (Text.four_of s 0 - 55296) = omega arith in
        let g : Text.four_of s 4 ≡ 56320 + (Text.four_of s 4 - 56320) = omega arith in
        Rules.pair (subst (Rules.FourHex s) f (four_is s p)) (omega arith) (subst (Rules.FourHex (drop 4 s)) g (second_is s q)) (omega arith)
    both_are false e p h q =
        let (a, b) = both (leb 55296 (Text.four_of s 0)) (ltb (Text.four_of s 0) 56320) h in
        let ah = ltb-true (Text.four_of s 0) 56320 b in
        Rules.unpaired (four_is s p) (leb-true 55296 (Text.four_of s 0) a, omega arith) (second_is s q) (λ (l, h). differ (Text.low (Text.four_of s 4)) (half 56320 57344 (Text.four_of s 4) l (omega arith)) e)

    second : (t : Bool) → Text.four_at s 4 ≡ t → Text.four_at s 0 ≡ true → Text.high (Text.four_of s 0) ≡ true → Told 4 s (pick t (Text.char (Text.surrogates_joined (Text.four_of s 0) (Text.four_of s 4)) 8) Text.wrong)
    second true q p h = both_are (Text.low (Text.four_of s 4)) refl p h q
    second false q p h = tt

    first : (t : Bool) → Text.high (Text.four_of s 0) ≡ t → Text.four_at s 0 ≡ true → Told 4 s (pick t (Text.pair_of s) (Text.char (Text.character_of_code (Text.four_of s 0)) 4))
    first true h p = second (Text.four_at s 4) refl p h
    first false h p = Rules.single (four_is s p) (λ (a, b). differ (Text.high (Text.four_of s 0)) (half 55296 56320 (Text.four_of s 0) a (omega arith)) h) (shown_is (Text.four_of s 0))

    go : (t : Bool) → Text.four_at s 0 ≡ t → Told 4 s (pick t (pick (Text.high (Text.four_of s 0)) (Text.pair_of s) (Text.char (Text.character_of_code (Text.four_of s 0)) 4)) Text.wrong)
    go true p = first (Text.high (Text.four_of s 0)) refl p
    go false p = tt

-- a group of eight digits as computed is as `Told` says
four_told : (s : List ℕ) → Told 8 s (Text.group_four s)
unfolding Text.group_four
four_told s = go (Text.four_at s 0 && Text.four_at s 4) refl
  where
    go : (t : Bool) → Text.four_at s 0 && Text.four_at s 4 ≡ t → Told 8 s (pick t (Text.char (Text.character_of_code (Text.four_of s 0 * 65536 + Text.four_of s 4)) 8) Text.wrong)
    go true e =
        let (p, q) = both (Text.four_at s 0) (Text.four_at s 4) e in
        Rules.eight (four_is s p) (second_is s q) (shown_is (Text.four_of s 0 * 65536 + Text.four_of s 4))
    go false e = tt

-- a group as computed, of four digits or of eight, is as `Told` says
told : {d w : ℕ} (s : List ℕ) → Rules.GroupWidth d w → Told w s (Text.group_of w s)
told s Rules.two = two_told s
told s Rules.four = four_told s

-- a group as computed is a good one by the rule
pub good_is : {d w : ℕ} (s : List ℕ) (c k : ℕ) → Rules.GroupWidth d w → Text.group_of w s ≡ Text.char c k → Rules.GoodGroup w s c k
good_is {w = w} s c k n e = subst (Told w s) e (told s n)

-- from a group that is a character and is none anything follows
apart : {A : Type 0} (c k : ℕ) → Text.char c k ≡ Text.wrong → A
apart c k e = let z : ◌≡◌ {A = ℕ} 0 1 = cc in absurd (omega arith)

-- where no good group stands by the rule, none is computed
pub good_none : {d w : ℕ} (s : List ℕ) → Rules.GroupWidth d w → ((c k : ℕ) → Rules.GoodGroup w s c k → ⊥) → Text.group_of w s ≡ Text.wrong
good_none {w = w} s n h = go (Text.group_of w s) refl
  where
    go : (g : Text.Group) → Text.group_of w s ≡ g → g ≡ Text.wrong
    go (Text.char c k) e = absurd (h c k (good_is s c k n e))
    go Text.wrong e = refl

-- four hex digits are bytes that are there, and no backslash stands first
four_starts : {s : List ℕ} {n : ℕ} → Rules.FourHex s n → (4 ≤ length s) × (Text.is s 0 92 ≡ false)
four_starts {s} f =
    let (p, q) = four_only f in
    (four_within s 0 p, go (Text.is s 0 92) refl p)
  where
    go : (t : Bool) → Text.is s 0 92 ≡ t → Text.four_at s 0 ≡ true → t ≡ false
    go true e p =
        let b : byte_at s 0 ≡ 92 = eqb-true (byte_at s 0) 92 e in
        let (x, y) = both (Text.two_at s 0) (Text.two_at s 2) p in
        let (u, v) = both (Text.hex_digit (byte_at s 0)) (Text.hex_digit (byte_at s 1)) x in
        let w : ◌≡◌ {A = Bool} false true = sym (ap Text.hex_digit b) ∙ u in
        differ false w refl
    go false e p = refl

-- a good group begins where a group may, and takes bytes that are there
good_starts : {w : ℕ} {s : List ℕ} {c k : ℕ} → Rules.GoodGroup w s c k → (w ≤ length s) × (Text.is s 0 92 ≡ false) × (0 < w) × (0 < k)
good_starts (Rules.single f h g) = let (l, b) = four_starts f in (l, b, omega arith, omega arith)
good_starts (Rules.pair f h g i) = let (l, b) = four_starts f in (l, b, omega arith, omega arith)
good_starts (Rules.unpaired f h g i) = let (l, b) = four_starts f in (l, b, omega arith, omega arith)
good_starts {s = s} (Rules.eight f g h) =
    let (l, b) = four_starts f in
    let (m, c) = four_starts g in
    let e : length (drop 4 s) ≡ length s - 4 = length-drop 4 s in
    (omega arith, b, omega arith, omega arith)

-- no group is computed of a high surrogate without four hex digits after it
high_wrong : (s : List ℕ) (n : ℕ) → Text.four_at s 0 ≡ true → Text.four_of s 0 ≡ n → Text.high n ≡ true → Text.four_at s 4 ≡ false → Text.group_of 4 s ≡ Text.wrong
unfolding Text.group_two
high_wrong s n p q h e = rw (p, q, h, e) refl

-- "a high one not followed by four hex digits is a bad group"
pub high_alone : {s : List ℕ} {n : ℕ} → Rules.FourHex s n → Rules.High n → ((m : ℕ) → Rules.FourHex (drop 4 s) m → ⊥) → Rules.BadGroup 4 s
high_alone {s} {n} f (l, h) g =
    let (p, q) = four_only f in
    let (i, j) = four_starts f in
    record {
      whole = i;
      unmarked = λ (r, e). differ (Text.is s 0 92) (ap (λ (z : List ℕ). Text.is z 0 92) e) j;
      not_good = λ c k b. apart c k (sym (good_only b) ∙ high_wrong s n p q (half 55296 56320 n l (omega arith)) (go (Text.four_at s 4) refl));
    }
  where
    go : (t : Bool) → Text.four_at s 4 ≡ t → t ≡ false
    go true e = absurd (g (Text.four_of s 4) (second_is s e))
    go false e = refl

-- ---- the groups of a directive
-- where the byte at k is a, the list from k on begins with a
here : (s : List ℕ) (k a : ℕ) → a < 256 → Text.is s k a ≡ true → drop k s ≡ a ∷ drop (suc k) s
here s k a h e = drop-cons s k 256 (is_within s k a h e) ∙ ap (λ (b : ℕ). b ∷ drop (suc k) s) (eqb-true (byte_at s k) a e)

-- where the first two bytes are a and b, the list begins with them
here_two : (s : List ℕ) (a b : ℕ) → a < 256 → b < 256 → Text.is s 0 a ≡ true → Text.is s 1 b ≡ true → s ≡ a ∷ b ∷ drop 2 s
here_two s a b h i p q = here s 0 a h p ∙ ap (λ (r : List ℕ). a ∷ r) (here s 1 b i q)

-- the groups end at a backslash
slash_ends : (w : ℕ) (r : List ℕ) → groups_end_here w (92 ∷ r) ≡ true
slash_ends w r = go (ltb (length (92 ∷ r)) w)
  where
    go : (t : Bool) → t || true ≡ true
    go true = refl
    go false = refl

-- the groups do not end where a group may start
group_starts : (w : ℕ) (s : List ℕ) → w ≤ length s → Text.is s 0 92 ≡ false → groups_end_here w s ≡ false
group_starts w s h e = rw (le-ltb (length s) w h, e) refl

-- where no `\X0` stands, the test for one behind the backslash fails
unclosed : (r : List ℕ) → ((q : List ℕ) → r ≡ 88 ∷ 48 ∷ q → ⊥) → Text.is r 0 88 && Text.is r 1 48 ≡ false
unclosed r h = go (Text.is r 0 88 && Text.is r 1 48) refl
  where
    go : (t : Bool) → Text.is r 0 88 && Text.is r 1 48 ≡ t → t ≡ false
    go true e = let (p, q) = both (Text.is r 0 88) (Text.is r 1 48) e in absurd (h (drop 2 r) (here_two r 88 48 (omega arith) (omega arith) p q))
    go false e = refl

-- where no byte is left the groups end
groups_none : (w : ℕ) → Text.groups_from w 0 [] ≡ Text.groups_ended [] 0
unfolding Text.groups_from
groups_none w = refl

-- groups to their end by the rule are computed so
pub groups_only : {w : ℕ} {s cs : List ℕ} {n : ℕ} → Rules.Groups w s cs n → Text.groups_from w 0 s ≡ Text.groups_ended cs n
groups_only {w} Rules.at_end = groups_none w
groups_only {w} (Rules.closed {b = b} {r = r}) =
    let e : min 4 (length (92 ∷ 88 ∷ 48 ∷ b ∷ r)) ≡ 4 = omega arith in
    groups_stop w (92 ∷ 88 ∷ 48 ∷ b ∷ r) (omega arith) (slash_ends w (88 ∷ 48 ∷ b ∷ r)) ∙ ap (Text.groups_ended []) e
groups_only {w} Rules.closed_last = groups_stop w (92 ∷ 88 ∷ 48 ∷ []) (omega arith) (slash_ends w (88 ∷ 48 ∷ []))
groups_only {w} (Rules.another {r = r} h) =
    let e : Text.closing_taken (92 ∷ r) ≡ 0 = rw (unclosed r h) refl in
    groups_stop w (92 ∷ r) (omega arith) (slash_ends w r) ∙ ap (Text.groups_ended []) e
groups_only {w} (Rules.cut {b = b} {r = r} n h) =
    let e : Text.closing_taken (b ∷ r) ≡ 0 = rw (ne_eqb b 92 n) refl in
    let f : groups_end_here w (b ∷ r) ≡ true = rw (lt-ltb (length (b ∷ r)) w h) refl in
    groups_stop w (b ∷ r) (omega arith) f ∙ ap (Text.groups_ended []) e
groups_only {w} {s} (Rules.next {cs = cs} {c = c} {k = k} {n = n} g t) =
    let (l, b, p, q) = good_starts g in
    groups_char w s c k (omega arith) (group_starts w s l b) (good_only g) q ∙ ap (Text.with_char c k) (groups_only t)

-- where no backslash stands first, the test for one fails
unslashed : (s : List ℕ) → (Begins 92 s → ⊥) → Text.is s 0 92 ≡ false
unslashed s h = go (Text.is s 0 92) refl
  where
    go : (t : Bool) → Text.is s 0 92 ≡ t → t ≡ false
    go true e = absurd (h (drop 1 s, here s 0 92 (omega arith) e))
    go false e = refl

-- groups up to a bad one by the rule are computed so
pub broken_only : {d w : ℕ} {s cs : List ℕ} → Rules.GroupWidth d w → Rules.Broken w s cs → Text.groups_from w 0 s ≡ Text.groups_broken cs
broken_only {w = w} {s = s} n (Rules.bad b) = groups_wrong w s (omega (arith, b.whole, wide n)) (group_starts w s b.whole (unslashed s b.unmarked)) (good_none s n b.not_good)
  where
    wide : {d v : ℕ} → Rules.GroupWidth d v → 4 ≤ v
    wide Rules.two = omega arith
    wide Rules.four = omega arith
broken_only {w = w} {s = s} n (Rules.good {cs = cs} {c = c} {k = k} g t) =
    let (l, b, p, q) = good_starts g in
    groups_char w s c k (omega arith) (group_starts w s l b) (good_only g) q ∙ ap (Text.with_char c k) (broken_only n t)

-- what the groups as computed are by the rules: groups to their end, or groups up to a bad one
abbrev Run : ℕ → List ℕ → Text.GroupsRead → Type 0
Run w s (Text.groups_ended cs n) = Rules.Groups w s cs n
Run w s (Text.groups_broken cs) = Rules.Broken w s cs

-- one group more in front of groups that are as `Run` says: so are all of them
run_next : (w : ℕ) (s : List ℕ) (c k : ℕ) (g : Text.GroupsRead) → Rules.GoodGroup w s c k → Run w (drop k s) g → Run w s (Text.with_char c k g)
run_next w s c k (Text.groups_ended cs n) h t = Rules.next h t
run_next w s c k (Text.groups_broken cs) h t = Rules.good h t

-- the groups end at a backslash, and a `\X0` there is taken
run_slash : (w : ℕ) (r : List ℕ) → Rules.Groups w (92 ∷ r) [] (Text.closing_taken (92 ∷ r))
run_slash w r = go (Text.is r 0 88 && Text.is r 1 48) refl
  where
    last : (q : List ℕ) → Rules.Groups w (92 ∷ 88 ∷ 48 ∷ q) [] (min 4 (length (92 ∷ 88 ∷ 48 ∷ q)))
    last [] = Rules.closed_last
    last (b ∷ q) = let e : 4 ≡ min 4 (length (92 ∷ 88 ∷ 48 ∷ b ∷ q)) = omega arith in subst (Rules.Groups w (92 ∷ 88 ∷ 48 ∷ b ∷ q) []) e Rules.closed

    go : (t : Bool) → Text.is r 0 88 && Text.is r 1 48 ≡ t → Rules.Groups w (92 ∷ r) [] (pick t (min 4 (length (92 ∷ r))) 0)
    go true e =
        let (p, q) = both (Text.is r 0 88) (Text.is r 1 48) e in
        let f : 88 ∷ 48 ∷ drop 2 r ≡ r = sym (here_two r 88 48 (omega arith) (omega arith) p q) in
        subst (λ (z : List ℕ). Rules.Groups w (92 ∷ z) [] (min 4 (length (92 ∷ z)))) f (last (drop 2 r))
    go false e = Rules.another (λ q f. differ (Text.is r 0 88 && Text.is r 1 48) (ap (λ (z : List ℕ). Text.is z 0 88 && Text.is z 1 48) f) e)

-- where the groups end as computed, they do by the rule
run_stop : (w b : ℕ) (r : List ℕ) → groups_end_here w (b ∷ r) ≡ true → Rules.Groups w (b ∷ r) [] (Text.closing_taken (b ∷ r))
run_stop w b r e = go (eqb b 92) refl
  where
    short : (t u : Bool) → t || u ≡ true → u ≡ false → t ≡ true
    short true u p q = refl
    short false u p q = differ u p q

    go : (t : Bool) → eqb b 92 ≡ t → Rules.Groups w (b ∷ r) [] (Text.closing_taken (b ∷ r))
    go true p = subst (λ (z : ℕ). Rules.Groups w (z ∷ r) [] (Text.closing_taken (z ∷ r))) (sym (eqb-true b 92 p)) (run_slash w r)
    go false p =
        let f : 0 ≡ Text.closing_taken (b ∷ r) = rw p refl in
        subst (Rules.Groups w (b ∷ r) []) f (Rules.cut (eqb-false b 92 p) (ltb-true (length (b ∷ r)) w (short (ltb (length (b ∷ r)) w) (eqb b 92) e p)))

-- the groups as computed are as `Run` says, where those of shorter lists are
run_step : {d w : ℕ} (s : List ℕ) → Rules.GroupWidth d w → ((t : List ℕ) → length t < length s → Run w t (Text.groups_from w 0 t)) → Run w s (Text.groups_from w 0 s)
run_step {w = w} [] n ih = subst (Run w []) (sym (groups_none w)) Rules.at_end
run_step {w = w} (b ∷ r) n ih = go (groups_end_here w (b ∷ r)) refl
  where
    group : (g : Text.Group) → Text.group_of w (b ∷ r) ≡ g → groups_end_here w (b ∷ r) ≡ false → Run w (b ∷ r) (Text.groups_from w 0 (b ∷ r))
    group (Text.char c k) f e =
        let h = good_is (b ∷ r) c k n f in
        let (l, m, p, q) = good_starts h in
        let i : length (drop k (b ∷ r)) < length (b ∷ r) = omega (arith, length-drop k (b ∷ r)) in
        subst (Run w (b ∷ r)) (sym (groups_char w (b ∷ r) c k (omega arith) e f q)) (run_next w (b ∷ r) c k (Text.groups_from w 0 (drop k (b ∷ r))) h (ih (drop k (b ∷ r)) i))
    group Text.wrong f e =
        let (l, m) = neither (ltb (length (b ∷ r)) w) (eqb b 92) e in
        let u : Rules.BadGroup w (b ∷ r) = record {
          whole = ltb-false (length (b ∷ r)) w l;
          unmarked = λ (q, z). differ (eqb b 92) (ap (λ (y : List ℕ). Text.is y 0 92) z) m;
          not_good = λ c k h. apart c k (sym (good_only h) ∙ f);
        } in
        subst (Run w (b ∷ r)) (sym (groups_wrong w (b ∷ r) (omega arith) e f)) (Rules.bad u)

    go : (t : Bool) → groups_end_here w (b ∷ r) ≡ t → Run w (b ∷ r) (Text.groups_from w 0 (b ∷ r))
    go true e = subst (Run w (b ∷ r)) (sym (groups_stop w (b ∷ r) (omega arith) e)) (run_stop w b r e)
    go false e = group (Text.group_of w (b ∷ r)) refl e

-- the groups of a directive as computed are as `Run` says
run_is : {d w : ℕ} (s : List ℕ) → Rules.GroupWidth d w → Run w s (Text.groups_from w 0 s)
run_is {d} {w} s n = go (length s) s (omega arith)
  where
    go : (m : ℕ) (s : List ℕ) → length s ≤ m → Run w s (Text.groups_from w 0 s)
    go zero s h = run_step s n (λ t l. absurd (omega arith))
    go (suc m) s h = run_step s n (λ t l. go m t (omega arith))

-- groups that are computed to end do by the rule
pub groups_is : {d w : ℕ} (s cs : List ℕ) (n : ℕ) → Rules.GroupWidth d w → Text.groups_from w 0 s ≡ Text.groups_ended cs n → Rules.Groups w s cs n
groups_is {w = w} s cs n m e = subst (Run w s) e (run_is s m)

-- groups that are computed to be broken off are by the rule
pub broken_is : {d w : ℕ} (s cs : List ℕ) → Rules.GroupWidth d w → Text.groups_from w 0 s ≡ Text.groups_broken cs → Rules.Broken w s cs
broken_is {w = w} s cs m e = subst (Run w s) e (run_is s m)

-- ---- directives
-- the rule for what stands at the start of s, where page g is in force, gives this piece and leaves page h
abbrev Directs : ℕ → List ℕ → Text.Piece → ℕ → Type 0
Directs g s p h = Rules.Directive g s p.chars p.used h

-- the piece that is computed of a directive with groups is the one of the rule
extended_is : {d w : ℕ} (g : ℕ) (r : List ℕ) → Rules.GroupWidth d w → Directs g (92 ∷ 88 ∷ d ∷ 92 ∷ r) (Text.extended (Text.groups_from w 0 r)) g
extended_is {d} {w} g r n = go (Text.groups_from w 0 r) (run_is r n)
  where
    go : (e : Text.GroupsRead) → Run w r e → Directs g (92 ∷ 88 ∷ d ∷ 92 ∷ r) (Text.extended e) g
    go (Text.groups_ended cs k) h = Rules.long n h
    go (Text.groups_broken cs) h = Rules.long_bad n h

-- the directives with names of three bytes are computed by the digit in them
named_is : {d w : ℕ} (g : ℕ) (r : List ℕ) → Rules.GroupWidth d w → Text.piece_of g (92 ∷ 88 ∷ d ∷ 92 ∷ r) ≡ Text.extended (Text.groups_from w 0 r)
unfolding Text.piece_of Text.directive_of
named_is g r Rules.two = refl
named_is g r Rules.four = refl

-- two hex digits after `\X\` are computed to be one octet
octet_is : (g a b : ℕ) (r : List ℕ) → Text.hex_digit a ≡ true → Text.hex_digit b ≡ true → Text.piece_of g (92 ∷ 88 ∷ 92 ∷ a ∷ b ∷ r) ≡ Text.gives ((Text.hex_value a * 16 + Text.hex_value b) ∷ []) 5
unfolding Text.piece_of Text.directive_of
octet_is g a b r p q = rw (p, q) refl

-- what a directive gives by the rule is computed
pub directive_only : {g h k : ℕ} {s cs : List ℕ} → Rules.Directive g s cs k h → Text.piece_of g s ≡ Text.gives cs k
unfolding Text.piece_of Text.directive_of
directive_only Rules.backslash = refl
directive_only Rules.newline = refl
directive_only Rules.tab = refl
directive_only (Rules.page x) = refl
directive_only (Rules.shift {c = c} {d = d} {r = r} x) = rw (le-leb 4 (length (92 ∷ 83 ∷ 92 ∷ c ∷ r)) (omega arith), Page.code_only x) refl
directive_only {g} (Rules.octet {a = a} {b = b} {i = i} {j = j} {r = r} x y) =
    let (p, e) = hex_only x in
    let (q, f) = hex_only y in
    octet_is g a b r p q ∙ rw (e, f) refl
directive_only {g} (Rules.long {r = r} n e) = named_is g r n ∙ ap Text.extended (groups_only e)
directive_only {g} (Rules.long_bad {r = r} n e) = named_is g r n ∙ ap Text.extended (broken_only n e)

-- the page that a directive leaves by the rule is computed
pub directive_page : {g h k : ℕ} {s cs : List ℕ} → Rules.Directive g s cs k h → h ≡ Text.page_after g s
unfolding Text.page_after
directive_page Rules.backslash = refl
directive_page Rules.newline = refl
directive_page Rules.tab = refl
directive_page (Rules.page x) = Page.page_only x
directive_page (Rules.shift x) = refl
directive_page (Rules.octet x y) = refl
directive_page (Rules.long n e) = refl
directive_page (Rules.long_bad n e) = refl

-- each test that is computed at a backslash is the rule that it stands for
module _ (g : ℕ) (s : List ℕ) (o : Text.is s 0 92 ≡ true) where
  -- the test for `\\` is its rule
  backslash_is : Text.is s 1 92 ≡ true → Directs g s (Text.gives (92 ∷ []) 2) g
  backslash_is e = subst (λ (z : List ℕ). Directs g z (Text.gives (92 ∷ []) 2) g) (sym (here_two s 92 92 (omega arith) (omega arith) o e)) Rules.backslash

  -- where the test for a letter and a backslash passes, the list begins with `\`, that letter and `\`
  letter : (a : ℕ) → a < 256 → Text.is s 1 a && Text.is s 2 92 ≡ true → s ≡ 92 ∷ a ∷ 92 ∷ drop 3 s
  letter a h e =
      let (p, q) = both (Text.is s 1 a) (Text.is s 2 92) e in
      here_two s 92 a (omega arith) h o p ∙ ap (λ (z : List ℕ). 92 ∷ a ∷ z) (here s 2 92 (omega arith) q)

  -- the test for `\N\` is its rule
  newline_is : Text.is s 1 78 && Text.is s 2 92 ≡ true → Directs g s (Text.gives (10 ∷ []) 3) g
  newline_is e = subst (λ (z : List ℕ). Directs g z (Text.gives (10 ∷ []) 3) g) (sym (letter 78 (omega arith) e)) Rules.newline

  -- the test for `\T\` is its rule
  tab_is : Text.is s 1 84 && Text.is s 2 92 ≡ true → Directs g s (Text.gives (9 ∷ []) 3) g
  tab_is e = subst (λ (z : List ℕ). Directs g z (Text.gives (9 ∷ []) 3) g) (sym (letter 84 (omega arith) e)) Rules.tab

  -- where the test for `\P?\` passes, the list begins with these four bytes
  pub page_bytes : Text.is s 1 80 && Text.is s 3 92 ≡ true → s ≡ 92 ∷ 80 ∷ byte_at s 2 ∷ 92 ∷ drop 4 s
  page_bytes e =
      let (p, q) = both (Text.is s 1 80) (Text.is s 3 92) e in
      let l = is_within s 3 92 (omega arith) q in
      here_two s 92 80 (omega arith) (omega arith) o p ∙ ap (λ (z : List ℕ). 92 ∷ 80 ∷ z) (drop-cons s 2 256 (omega arith)) ∙ ap (λ (z : List ℕ). 92 ∷ 80 ∷ byte_at s 2 ∷ z) (here s 3 92 (omega arith) q)

  -- the test for `\P?\` is its rule
  page_is : Text.is s 1 80 && Text.is s 3 92 ≡ true → Directs g s (Text.gives [] 4) (page_of (byte_at s 2))
  page_is e = subst (λ (z : List ℕ). Directs g z (Text.gives [] 4) (page_of (byte_at s 2))) (sym (page_bytes e)) (Rules.page (Page.page_is (byte_at s 2)))

  -- the test for `\S\c` is its rule
  shift_is : Text.is s 1 83 && (Text.is s 2 92 && leb 4 (length s)) ≡ true → Directs g s (Text.gives (code_of g (byte_at s 3 + 128) ∷ []) 4) g
  shift_is e =
      let (p, x) = both (Text.is s 1 83) (Text.is s 2 92 && leb 4 (length s)) e in
      let (q, l) = both (Text.is s 2 92) (leb 4 (length s)) x in
      let h = leb-true 4 (length s) l in
      let f : s ≡ 92 ∷ 83 ∷ 92 ∷ byte_at s 3 ∷ drop 4 s =
      here_two s 92 83 (omega arith) (omega arith) o p ∙ ap (λ (z : List ℕ). 92 ∷ 83 ∷ z) (here s 2 92 (omega arith) q) ∙ ap (λ (z : List ℕ). 92 ∷ 83 ∷ 92 ∷ z) (drop-cons s 3 256 (omega arith)) in
      subst (λ (z : List ℕ). Directs g z (Text.gives (code_of g (byte_at s 3 + 128) ∷ []) 4) g) (sym f) (Rules.shift (Page.code_is g (byte_at s 3 + 128)))

  -- the test for `\X\HH` is its rule
  two_digits : Text.is s 1 88 && (Text.is s 2 92 && Text.two_at s 3) ≡ true → Directs g s (Text.gives (Text.two_of s 3 ∷ []) 5) g
  two_digits e =
      let (p, x) = both (Text.is s 1 88) (Text.is s 2 92 && Text.two_at s 3) e in
      let (q, y) = both (Text.is s 2 92) (Text.two_at s 3) x in
      let (u, v) = both (Text.hex_digit (byte_at s 3)) (Text.hex_digit (byte_at s 4)) y in
      let h = hex_within s 4 v in
      let f : s ≡ 92 ∷ 88 ∷ 92 ∷ byte_at s 3 ∷ byte_at s 4 ∷ drop 5 s =
      here_two s 92 88 (omega arith) (omega arith) o p ∙ ap (λ (z : List ℕ). 92 ∷ 88 ∷ z) (here s 2 92 (omega arith) q) ∙ ap (λ (z : List ℕ). 92 ∷ 88 ∷ 92 ∷ z) (drop-cons s 3 256 (omega arith)) ∙ ap (λ (z : List ℕ). 92 ∷ 88 ∷ 92 ∷ byte_at s 3 ∷ z) (drop-cons s 4 256 (omega arith)) in
      subst (λ (z : List ℕ). Directs g z (Text.gives (Text.two_of s 3 ∷ []) 5) g) (sym f) (Rules.octet (hex_is (byte_at s 3) u) (hex_is (byte_at s 4) v))

  -- the test for `\X2\` or `\X4\` is its rule
  long_is : {d w : ℕ} → Rules.GroupWidth d w → d < 256 → Text.is s 1 88 && (Text.is s 2 d && Text.is s 3 92) ≡ true → Directs g s (Text.extended (Text.groups_from w 0 (drop 4 s))) g
  long_is {d} {w} n h e =
      let (p, x) = both (Text.is s 1 88) (Text.is s 2 d && Text.is s 3 92) e in
      let (q, y) = both (Text.is s 2 d) (Text.is s 3 92) x in
      let f : s ≡ 92 ∷ 88 ∷ d ∷ 92 ∷ drop 4 s =
      here_two s 92 88 (omega arith) (omega arith) o p ∙ ap (λ (z : List ℕ). 92 ∷ 88 ∷ z) (here s 2 d h q) ∙ ap (λ (z : List ℕ). 92 ∷ 88 ∷ d ∷ z) (here s 3 92 (omega arith) y) in
      subst (λ (z : List ℕ). Directs g z (Text.extended (Text.groups_from w 0 (drop 4 s))) g) (sym f) (extended_is g (drop 4 s) n)

-- no test that is computed at a backslash passes
record Undirected (s : List ℕ) : Type 0 where
  no_backslash : Text.is s 1 92 ≡ false
  no_newline : Text.is s 1 78 && Text.is s 2 92 ≡ false
  no_tab : Text.is s 1 84 && Text.is s 2 92 ≡ false
  no_page : Text.is s 1 80 && Text.is s 3 92 ≡ false
  no_shift : Text.is s 1 83 && (Text.is s 2 92 && leb 4 (length s)) ≡ false
  no_octet : Text.is s 1 88 && (Text.is s 2 92 && Text.two_at s 3) ≡ false
  no_two : Text.is s 1 88 && (Text.is s 2 50 && Text.is s 3 92) ≡ false
  no_four : Text.is s 1 88 && (Text.is s 2 52 && Text.is s 3 92) ≡ false

-- where no test at a backslash passes, a backslash alone is computed
undirected_only : (g : ℕ) (s : List ℕ) → Undirected s → Text.directive_of g s ≡ Text.gives (92 ∷ []) 1
unfolding Text.directive_of
undirected_only g s u = rw (u.no_backslash, u.no_newline, u.no_tab, u.no_page, u.no_shift, u.no_octet, u.no_two, u.no_four) refl

-- true is not false
never : ◌≡◌ {A = Bool} true false → ⊥
never e = differ true refl e

-- a directive with groups passes its test
named_none : {d w : ℕ} (r : List ℕ) → Rules.GroupWidth d w → Undirected (92 ∷ 88 ∷ d ∷ 92 ∷ r) → ⊥
named_none r Rules.two u = never u.no_two
named_none r Rules.four u = never u.no_four

-- where no test at a backslash passes, no directive stands by the rule
undirected_none : {g h k : ℕ} {s cs : List ℕ} → Rules.Directive g s cs k h → Undirected s → ⊥
undirected_none Rules.backslash u = never u.no_backslash
undirected_none Rules.newline u = never u.no_newline
undirected_none Rules.tab u = never u.no_tab
undirected_none (Rules.page x) u = never u.no_page
undirected_none (Rules.shift {c = c} {r = r} x) u = never (sym (le-leb 4 (length (92 ∷ 83 ∷ 92 ∷ c ∷ r)) (omega arith)) ∙ u.no_shift)
undirected_none (Rules.octet x y) u = never (sym (rw ((hex_only x).0, (hex_only y).0) refl) ∙ u.no_octet)
undirected_none (Rules.long {r = r} n g) u = named_none r n u
undirected_none (Rules.long_bad {r = r} n g) u = named_none r n u

-- a test that cannot hold fails
fails : (t : Bool) → (t ≡ true → ⊥) → t ≡ false
fails true h = absurd (h refl)
fails false h = refl

-- where no directive stands by the rule, no test at a backslash passes
undirected_is : (g : ℕ) (s : List ℕ) → Text.is s 0 92 ≡ true → ((cs : List ℕ) (k h : ℕ) → Rules.Directive g s cs k h → ⊥) → Undirected s
undirected_is g s o n = record {
  no_backslash = fails _ (λ e. n _ _ _ (backslash_is g s o e));
  no_newline = fails _ (λ e. n _ _ _ (newline_is g s o e));
  no_tab = fails _ (λ e. n _ _ _ (tab_is g s o e));
  no_page = fails _ (λ e. n _ _ _ (page_is g s o e));
  no_shift = fails _ (λ e. n _ _ _ (shift_is g s o e));
  no_octet = fails _ (λ e. n _ _ _ (two_digits g s o e));
  no_two = fails _ (λ e. n _ _ _ (long_is g s o Rules.two (omega arith) e));
  no_four = fails _ (λ e. n _ _ _ (long_is g s o Rules.four (omega arith) e));
}

-- ---- pieces
-- the rules give this piece at the start of s, and leave the page that is in force
abbrev Says : ℕ → List ℕ → Text.Piece → Type 0
Says g s p = Rules.PieceReads g s p.chars p.used g

-- of two pieces that a test picks from, each is given by the rules, so the one picked is
pick_says : (g : ℕ) (s : List ℕ) (t : Bool) (p q : Text.Piece) → (t ≡ true → Says g s p) → (t ≡ false → Says g s q) → Says g s (pick t p q)
pick_says g s true p q x y = x refl
pick_says g s false p q x y = y refl

-- what is computed at a backslash that opens no `\P?\` is what the rules give
backslash_says : (g : ℕ) (s : List ℕ) → Text.is s 0 92 ≡ true → Text.is s 1 80 && Text.is s 3 92 ≡ false → Says g s (Text.directive_of g s)
unfolding Text.directive_of
backslash_says g s o m =
    pick_says g s (Text.is s 1 92) _ _ (λ e. Rules.directive (backslash_is g s o e)) (λ n1.
    pick_says g s (Text.is s 1 78 && Text.is s 2 92) _ _ (λ e. Rules.directive (newline_is g s o e)) (λ n2.
    pick_says g s (Text.is s 1 84 && Text.is s 2 92) _ _ (λ e. Rules.directive (tab_is g s o e)) (λ n3.
    pick_says g s (Text.is s 1 80 && Text.is s 3 92) _ _ (λ e. differ (Text.is s 1 80 && Text.is s 3 92) e m) (λ n4.
    pick_says g s (Text.is s 1 83 && (Text.is s 2 92 && leb 4 (length s))) _ _ (λ e. Rules.directive (shift_is g s o e)) (λ n5.
    pick_says g s (Text.is s 1 88 && (Text.is s 2 92 && Text.two_at s 3)) _ _ (λ e. Rules.directive (two_digits g s o e)) (λ n6.
    pick_says g s (Text.is s 1 88 && (Text.is s 2 50 && Text.is s 3 92)) _ _ (λ e. Rules.directive (long_is g s o Rules.two (omega arith) e)) (λ n7.
    pick_says g s (Text.is s 1 88 && (Text.is s 2 52 && Text.is s 3 92)) _ _ (λ e. Rules.directive (long_is g s o Rules.four (omega arith) e)) (λ n8.
    alone (record { no_backslash = n1; no_newline = n2; no_tab = n3; no_page = n4; no_shift = n5; no_octet = n6; no_two = n7; no_four = n8 })))))))))
  where
    alone : Undirected s → Says g s (Text.gives (92 ∷ []) 1)
    alone u =
        let f : s ≡ 92 ∷ drop 1 s = here s 0 92 (omega arith) o in
        subst (λ (z : List ℕ). Says g z (Text.gives (92 ∷ []) 1)) (sym f) (Rules.unknown (λ cs k h d. undirected_none d (subst Undirected f u)))

-- a sequence of a character from 80 up begins with a byte from 80 up
encoded_high : {c : ℕ} {bs : List ℕ} (r : List ℕ) → Encoded c bs → 128 ≤ c → 128 ≤ byte_at (bs ++ r) 0
encoded_high r (line_one (l, h)) k = absurd (omega arith)
encoded_high r (line_two {x = x} h e p q) k = omega arith
encoded_high r (line_three {x = x} h n e p q t) k = omega arith
encoded_high r (line_four {x = x} h e p q t u) k = omega arith

-- the bytes from 80 up: what is computed is what the rules give
raw_says : (g b : ℕ) (r : List ℕ) → 128 ≤ b → Says g (b ∷ r) (Text.raw_of b (lead_of (b ∷ r)))
raw_says g b r h = go (lead_of (b ∷ r)) refl
  where
    from : (c k : ℕ) → take k (b ∷ r) ≡ encode c → encode c ++ drop k (b ∷ r) ≡ b ∷ r
    from c k e = ap (λ (z : List ℕ). z ++ drop k (b ∷ r)) (sym e) ∙ take-append-drop k (b ∷ r)

    high : (c k : ℕ) → take k (b ∷ r) ≡ encode c → Dec (c < 128) → 128 ≤ c
    high c k e (yes l) =
        let f : c ∷ drop k (b ∷ r) ≡ b ∷ r = ap (λ (z : List ℕ). z ++ drop k (b ∷ r)) (sym (encode_one c l)) ∙ from c k e in
        let g : c ≡ b = ap (λ (z : List ℕ). byte_at z 0) f in
        omega arith
    high c k e (no l) = omega arith

    go : (l : LeadCharacter) → lead_of (b ∷ r) ≡ l → Says g (b ∷ r) (Text.raw_of b l)
    go (valid c k) e =
        let (s, t, n) = lead_is (b ∷ r) c k e in
        let q : Rules.PieceReads g (encode c ++ drop k (b ∷ r)) (c ∷ []) (length (encode c)) g = Rules.sequence (encode c) (drop k (b ∷ r)) (table_is c s) (high c k t (dec_lt c 128)) in
        let u : Rules.PieceReads g (b ∷ r) (c ∷ []) (length (encode c)) g = subst (λ (z : List ℕ). Rules.PieceReads g z (c ∷ []) (length (encode c)) g) (from c k t) q in
        subst (λ (z : ℕ). Rules.PieceReads g (b ∷ r) (c ∷ []) z g) (sym n) u
    go invalid e = Rules.latin h unled
      where
        unled : (c : ℕ) (bs q : List ℕ) → Encoded c bs → b ∷ r ≡ bs ++ q → ⊥
        unled c bs q t f =
            let (s, x) = table_only t in
            let g : valid c (length (encode c)) ≡ invalid = sym (encode_leads c q s) ∙ ap (λ (z : List ℕ). lead_of (z ++ q)) (sym x) ∙ ap lead_of (sym f) ∙ e in
            let z : ◌≡◌ {A = ℕ} 0 1 = cc in
            absurd (omega arith)

-- what is computed where no `\P?\` stands is what the rules give
piece_says : (g : ℕ) (s : List ℕ) → 0 < length s → Text.is s 0 92 && (Text.is s 1 80 && Text.is s 3 92) ≡ false → Says g s (Text.piece_of g s)
unfolding Text.piece_of
piece_says g [] h m = absurd (omega arith)
piece_says g (b ∷ r) h m =
    pick_says g (b ∷ r) (eqb b 92) _ _ (λ e. backslash_says g (b ∷ r) e (sym (rw e refl) ∙ m)) (λ n1.
    pick_says g (b ∷ r) (eqb b 39 && Text.is r 0 39) _ _ (λ e. doubled e) (λ n2.
    pick_says g (b ∷ r) (ltb b 128) _ _ (λ e. Rules.itself (ltb-true b 128 e) (eqb-false b 92 n1) (single n2)) (λ n3.
    raw_says g b r (ltb-false b 128 n3))))
  where
    doubled : eqb b 39 && Text.is r 0 39 ≡ true → Says g (b ∷ r) (Text.gives (39 ∷ []) 2)
    doubled e =
        let (p, q) = both (eqb b 39) (Text.is r 0 39) e in
        subst (λ (z : List ℕ). Says g z (Text.gives (39 ∷ []) 2)) (sym (here_two (b ∷ r) 39 39 (omega arith) (omega arith) p q)) Rules.quote

    single : eqb b 39 && Text.is r 0 39 ≡ false → b ≡ 39 → Begins 39 r → ⊥
    single n e (q, f) = differ (eqb b 39 && Text.is r 0 39) (rw (eq-eqb b 39 e) (ap (λ (z : List ℕ). Text.is z 0 39) f)) n

-- the rules give what is computed at the start of s, and leave the page that is computed
abbrev Told_of : ℕ → List ℕ → Type 0
Told_of g s = Rules.PieceReads g s (Text.piece_of g s).chars (Text.piece_of g s).used (Text.page_after g s)

-- where a `\P?\` stands, the rules give what is computed and leave the page that is computed
page_says : (g b : ℕ) (r : List ℕ) → Told_of g (92 ∷ 80 ∷ b ∷ 92 ∷ r)
unfolding Text.piece_of Text.directive_of Text.page_after
page_says g b r = Rules.directive (Rules.page (Page.page_is b))

-- what is computed at the start of a string's bytes is what the rules give, on every page
pub piece_is : (g : ℕ) (s : List ℕ) → 0 < length s → Rules.PieceReads g s (Text.piece_of g s).chars (Text.piece_of g s).used (Text.page_after g s)
piece_is g s h = go (Text.is s 0 92 && (Text.is s 1 80 && Text.is s 3 92)) refl
  where
    go : (t : Bool) → Text.is s 0 92 && (Text.is s 1 80 && Text.is s 3 92) ≡ t → Told_of g s
    go true e =
        let (o, p) = both (Text.is s 0 92) (Text.is s 1 80 && Text.is s 3 92) e in
        subst (Told_of g) (sym (page_bytes g s o p)) (page_says g (byte_at s 2) (drop 4 s))
    go false e = subst (Rules.PieceReads g s (Text.piece_of g s).chars (Text.piece_of g s).used) (sym (page_stays g s e)) (piece_says g s h e)

-- the two parts of a piece that is known
gives_parts : (p : Text.Piece) (cs : List ℕ) (k : ℕ) → p ≡ Text.gives cs k → (cs ≡ p.chars) × (k ≡ p.used)
gives_parts p cs k e = (sym (ap (λ (q : Text.Piece). q.chars) e), sym (ap (λ (q : Text.Piece). q.used) e))

-- a byte from 80 up is read raw
raw_only : (g : ℕ) (s : List ℕ) → 128 ≤ byte_at s 0 → Text.piece_of g s ≡ Text.raw_of (byte_at s 0) (lead_of s)
unfolding Text.piece_of
raw_only g s h = rw (ne_eqb (byte_at s 0) 92 (λ e. omega arith), ne_eqb (byte_at s 0) 39 (λ e. omega arith), le-ltb (byte_at s 0) 128 h) refl

-- where no sequence begins by the rule none is read
led_none : (s : List ℕ) → ((c : ℕ) (bs q : List ℕ) → Encoded c bs → s ≡ bs ++ q → ⊥) → lead_of s ≡ invalid
led_none s n = go (lead_of s) refl
  where
    go : (l : LeadCharacter) → lead_of s ≡ l → l ≡ invalid
    go (valid c k) e =
        let (t, x, m) = lead_is s c k e in
        absurd (n c (encode c) (drop k s) (table_is c t) (sym (ap (λ (z : List ℕ). z ++ drop k s) (sym x) ∙ take-append-drop k s)))
    go invalid e = refl

-- a byte below 80 that is itself by the rule is computed so
itself_only : (g b : ℕ) (r : List ℕ) → b < 128 → (b ≡ 92 → ⊥) → (b ≡ 39 → Begins 39 r → ⊥) → Text.piece_of g (b ∷ r) ≡ Text.gives (b ∷ []) 1
unfolding Text.piece_of
itself_only g b r h n q = rw (ne_eqb b 92 n, fails (eqb b 39 && Text.is r 0 39) single, lt-ltb b 128 h) refl
  where
    single : eqb b 39 && Text.is r 0 39 ≡ true → ⊥
    single e =
        let (x, y) = both (eqb b 39) (Text.is r 0 39) e in
        q (eqb-true b 39 x) (drop 1 r, here r 0 39 (omega arith) y)

-- an unknown directive by the rule is computed to be a backslash alone
unknown_only : (g : ℕ) (r : List ℕ) → ((cs : List ℕ) (k h : ℕ) → Rules.Directive g (92 ∷ r) cs k h → ⊥) → Text.piece_of g (92 ∷ r) ≡ Text.gives (92 ∷ []) 1
unfolding Text.piece_of
unknown_only g r n = undirected_only g (92 ∷ r) (undirected_is g (92 ∷ r) refl n)

-- two quotes are computed to be one quote
quote_only : (g : ℕ) (r : List ℕ) → Text.piece_of g (39 ∷ 39 ∷ r) ≡ Text.gives (39 ∷ []) 2
unfolding Text.piece_of
quote_only g r = refl

-- the piece that the rules give is computed
pub piece_reads_only : {g h k : ℕ} {s cs : List ℕ} → Rules.PieceReads g s cs k h → Text.piece_of g s ≡ Text.gives cs k
piece_reads_only {g} (Rules.quote {r = r}) = quote_only g r
piece_reads_only (Rules.directive d) = directive_only d
piece_reads_only {g} (Rules.unknown {r = r} n) = unknown_only g r n
piece_reads_only {g} (Rules.itself {b = b} {r = r} h n q) = itself_only g b r h n q
piece_reads_only {g} (Rules.sequence {c = c} bs r t h) =
    let (s, x) = table_only t in
    let l : lead_of (bs ++ r) ≡ valid c (length bs) = ap (λ (z : List ℕ). lead_of (z ++ r)) x ∙ encode_leads c r s ∙ ap (λ (z : List ℕ). valid c (length z)) (sym x) in
    raw_only g (bs ++ r) (encoded_high r t h) ∙ ap (Text.raw_of (byte_at (bs ++ r) 0)) l
piece_reads_only {g} (Rules.latin {b = b} {r = r} h n) = raw_only g (b ∷ r) h ∙ ap (Text.raw_of b) (led_none (b ∷ r) n)

-- no page is named at an unknown directive
unknown_stays : (g : ℕ) (r : List ℕ) → Undirected (92 ∷ r) → Text.page_after g (92 ∷ r) ≡ g
unknown_stays g r u = page_stays g (92 ∷ r) u.no_page

-- the page that the rules leave is computed
pub piece_reads_page : {g h k : ℕ} {s cs : List ℕ} → Rules.PieceReads g s cs k h → h ≡ Text.page_after g s
piece_reads_page {g} (Rules.quote {r = r}) = sym (plain_stays g (39 ∷ 39 ∷ r) (λ e. omega arith))
piece_reads_page (Rules.directive d) = directive_page d
piece_reads_page {g} (Rules.unknown {r = r} n) = sym (unknown_stays g r (undirected_is g (92 ∷ r) refl n))
piece_reads_page {g} (Rules.itself {b = b} {r = r} h n q) = sym (plain_stays g (b ∷ r) n)
piece_reads_page {g} (Rules.sequence bs r t h) = let k = encoded_high r t h in sym (plain_stays g (bs ++ r) (λ e. omega arith))
piece_reads_page {g} (Rules.latin {b = b} {r = r} h n) = sym (plain_stays g (b ∷ r) (λ e. omega arith))

-- the rules give no piece but the one that is computed, and leave no page but that one
pub piece_only : {g h k : ℕ} {s cs : List ℕ} → Rules.PieceReads g s cs k h → (cs ≡ (Text.piece_of g s).chars) × (k ≡ (Text.piece_of g s).used) × (h ≡ Text.page_after g s)
piece_only {g} {h} {k} {s} {cs} r = let (p, q) = gives_parts (Text.piece_of g s) cs k (piece_reads_only r) in (p, q, piece_reads_page r)

-- ---- texts
-- where a piece stands there is a byte
pub piece_reads_some : {g h k : ℕ} {s cs : List ℕ} → Rules.PieceReads g s cs k h → 0 < length s
piece_reads_some Rules.quote = omega arith
piece_reads_some (Rules.directive d) = directive_some d
  where
    directive_some : {g h k : ℕ} {s cs : List ℕ} → Rules.Directive g s cs k h → 0 < length s
    directive_some Rules.backslash = omega arith
    directive_some Rules.newline = omega arith
    directive_some Rules.tab = omega arith
    directive_some (Rules.page x) = omega arith
    directive_some (Rules.shift x) = omega arith
    directive_some (Rules.octet x y) = omega arith
    directive_some (Rules.long n g) = omega arith
    directive_some (Rules.long_bad n g) = omega arith
piece_reads_some (Rules.unknown n) = omega arith
piece_reads_some (Rules.itself h n q) = omega arith
piece_reads_some (Rules.sequence bs r t h) = encoded_some r t
  where
    encoded_some : {c : ℕ} {bs : List ℕ} (r : List ℕ) → Encoded c bs → 0 < length (bs ++ r)
    encoded_some r (line_one h) = omega arith
    encoded_some r (line_two h e p q) = omega arith
    encoded_some r (line_three h n e p q t) = omega arith
    encoded_some r (line_four h e p q t u) = omega arith
piece_reads_some (Rules.latin h n) = omega arith

-- no bytes have no characters, on every page
text_none : (g : ℕ) → Text.text_on g [] ≡ []
unfolding Text.text_on Text.text_from
text_none g = refl

-- the text as computed is one by the rules, where those of shorter lists are
text_step : (g : ℕ) (s : List ℕ) → ((h : ℕ) (t : List ℕ) → length t < length s → Rules.TextOn h t (Text.text_on h t)) → Rules.TextOn g s (Text.text_on g s)
text_step g [] ih = subst (Rules.TextOn g []) (sym (text_none g)) Rules.none
text_step g (b ∷ r) ih =
    let h : 0 < length (b ∷ r) = omega arith in
    let (l, u) = piece_fits g (b ∷ r) h in
    let k = (Text.piece_of g (b ∷ r)).used in
    let i : length (drop k (b ∷ r)) < length (b ∷ r) = omega (arith, length-drop k (b ∷ r)) in
    subst (Rules.TextOn g (b ∷ r)) (sym (text_goes g (b ∷ r) k h refl l))
    (Rules.more (piece_is g (b ∷ r) h) (ih (Text.page_after g (b ∷ r)) (drop k (b ∷ r)) i))

-- the text as computed is one by the rules, from every page on
pub text_on_is : (g : ℕ) (s : List ℕ) → Rules.TextOn g s (Text.text_on g s)
text_on_is g s = go (length s) g s (omega arith)
  where
    go : (n g : ℕ) (s : List ℕ) → length s ≤ n → Rules.TextOn g s (Text.text_on g s)
    go zero g s h = text_step g s (λ i t l. absurd (omega arith))
    go (suc n) g s h = text_step g s (λ i t l. go n i t (omega arith))

-- no text but the one that is computed is one by the rules, from every page on
pub text_on_only : {g : ℕ} {s cs : List ℕ} → Rules.TextOn g s cs → cs ≡ Text.text_on g s
text_on_only {g} Rules.none = sym (text_none g)
text_on_only {g} {s} (Rules.more {h = h} {k = k} {cs = cs} {ds = ds} r t) =
    let (p, q, e) = piece_only r in
    let b = piece_reads_some r in
    let (l, u) = piece_fits g s b in
    ap (λ (z : List ℕ). cs ++ z) (text_on_only t) ∙ ap (λ (z : List ℕ). z ++ Text.text_on h (drop k s)) p ∙ ap (λ (z : ℕ). (Text.piece_of g s).chars ++ Text.text_on z (drop k s)) e ∙ sym (text_goes g s k b q (omega arith))

-- a string's text as computed is its text by the rules
pub text_is_lem : (s : List ℕ) → Rules.Text s (Text.text_of s)
unfolding Text.text_of
text_is_lem s = text_on_is page_a s

-- no text but the one that is computed is a string's by the rules
pub text_only : {s cs : List ℕ} → Rules.Text s cs → cs ≡ Text.text_of s
unfolding Text.text_of
text_only t = text_on_only t
