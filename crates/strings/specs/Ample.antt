-- A text has at most twice as many bytes as its string. Every piece has, but for a bad group's, which gives characters whose digits are
-- read again: these digits give one byte each then, and no more than one byte each before. Assumes nothing.
use Rattle.std.specs.Prelude.{ℕ, zero, suc, ◌+◌, ◌-◌, ◌≤◌, ◌<◌, ◌≡◌, refl, Bool, true, false, ◌&&◌, ◌||◌, List, [], ◌∷◌, ◌++◌, eqb, leb, ltb, length, take, drop, get_or}
use Rattle.std.proofs.Common.{sym, ◌∙◌, ap, append-nil, arith, ltb-true, ltb-false, eqb-true, ne_eqb, length-append, length-take-le, get_or-drop}
use Rattle.std.proofs.lemmas.Bool.{lt-leb}
use Rattle.common.specs.Pick.{pick}
use Rattle.common.specs.Tests.{both}
use Rattle.utf8.specs.Utf8.{byte_at, encode, lead_of}
use Rattle.utf8.specs.Encoding.{encode_all}
use Rattle.utf8.specs.Answer.{LeadCharacter}
use Rattle.utf8.specs.Laws.{encode_one, encode_two, sized, LeadCases, led_one, led_two, led_three, led_four, led_none, lead_case_is}
use Rattle.pages.specs.Pages.{code_of}
use Rattle.pages.specs.Rules.{page_a}
use Rattle.strings.specs.Text
use Rattle.strings.specs.Hex.{Digit, decimal, capital, small, hex_digit_is, four_within}
use Rattle.strings.specs.Put.{encode_append}
use Rattle.strings.specs.Steps.{is_within, piece_fits, text_goes, text_skip}
use Rattle.strings.specs.PlainRuns.{special, text_plain, encode_plain}

-- how many bytes characters have in UTF-8
abbrev width : List ℕ → ℕ
width cs = length (encode_all cs)

-- the bytes in UTF-8 of two lists of characters are those of each
width_append : (xs ys : List ℕ) → width (xs ++ ys) ≡ width xs + width ys
width_append xs ys = ap length (encode_append xs ys) ∙ length-append (encode_all xs) (encode_all ys)

-- no characters have no bytes in UTF-8
width_none : width [] ≡ 0
unfolding encode_all
width_none = refl

-- a character more in front has at most four bytes more in UTF-8
width_more : (c : ℕ) (cs : List ℕ) → width (c ∷ cs) ≤ 4 + width cs
unfolding encode_all
width_more c cs = let k = (sized c (length (encode c)) refl).at_most in omega (arith, length-append (encode c) (encode_all cs))

-- a character has four bytes at most in UTF-8
width_four : (c : ℕ) → width (c ∷ []) ≤ 4
width_four c = omega (arith, width_more c [], width_none)

-- a character below 256 has two bytes at most in UTF-8
width_two : (c : ℕ) → c < 256 → width (c ∷ []) ≤ 2
unfolding encode_all
width_two c h = rw (append-nil (encode c)) (go (ltb c 128) refl)
  where
    go : (t : Bool) → ltb c 128 ≡ t → length (encode c) ≤ 2
    go true e = rw (encode_one c (ltb-true c 128 e)) (omega arith)
    go false e = rw (encode_two c (ltb-false c 128 e) (omega arith)) (omega arith)

-- a list begins with k hex digits
data Digits : ℕ → List ℕ → Type 0 where
  none : {t : List ℕ} → Digits 0 t
  more : {k b : ℕ} {r : List ℕ} → Text.hex_digit b ≡ true → Digits k r → Digits (suc k) (b ∷ r)

-- a list that begins with k hex digits has k bytes or more
digits_fit : {k : ℕ} {t : List ℕ} → Digits k t → k ≤ length t
digits_fit none = omega arith
digits_fit (more h d) = let k = digits_fit d in omega arith

-- a hex digit is unlike any byte that is none
hex_other : (b c : ℕ) → Text.hex_digit b ≡ true → Text.hex_digit c ≡ false → eqb b c ≡ false
hex_other b c e n = ne_eqb b c (λ z. let w : ◌≡◌ {A = Bool} true false = sym e ∙ ap Text.hex_digit z ∙ n in let u : ◌≡◌ {A = ℕ} 0 1 = ap (λ (t : Bool). pick t 0 1) w in omega arith)

-- a hex digit is no high byte
hex_low : (b : ℕ) → Text.hex_digit b ≡ true → b < 128
hex_low b e = go (hex_digit_is b e)
  where
    go : Digit b → b < 128
    go (decimal l h) = omega arith
    go (capital l h) = omega arith
    go (small l h) = omega arith

-- a hex digit is a plain byte
hex_plain : (b : ℕ) → Text.hex_digit b ≡ true → special b ≡ false
hex_plain b e = rw (hex_other b 39 e refl, hex_other b 92 e refl, lt-leb 128 b (hex_low b e)) refl

-- k hex digits are plain
digits_plain : {k : ℕ} {t : List ℕ} → Digits k t → Text.plain (take k t) ≡ true
unfolding Text.plain
digits_plain none = refl
digits_plain (more {b = b} h d) = rw (hex_plain b h) (digits_plain d)

-- k hex digits, and then m further ones
digits_join : {k : ℕ} {t : List ℕ} (m n : ℕ) → n ≡ k + m → Digits k t → Digits m (drop k t) → Digits n t
digits_join m n q none e = let z : n ≡ m = omega arith in rw z e
digits_join m zero q (more h d) e = absurd (omega arith)
digits_join m (suc n) q (more h d) e = more h (digits_join m n (omega arith) d e)

-- four hex digits as they are tested stand at the start of the list
digits_four : (s : List ℕ) → Text.four_at s 0 ≡ true → Digits 4 s
digits_four [] e = absurd (omega (arith, four_within [] 0 e))
digits_four (a ∷ []) e = absurd (omega (arith, four_within (a ∷ []) 0 e))
digits_four (a ∷ b ∷ []) e = absurd (omega (arith, four_within (a ∷ b ∷ []) 0 e))
digits_four (a ∷ b ∷ c ∷ []) e = absurd (omega (arith, four_within (a ∷ b ∷ c ∷ []) 0 e))
digits_four (a ∷ b ∷ c ∷ d ∷ r) e =
    let x = both (Text.hex_digit a && Text.hex_digit b) (Text.hex_digit c && Text.hex_digit d) e in
    let y = both (Text.hex_digit a) (Text.hex_digit b) x.0 in
    let z = both (Text.hex_digit c) (Text.hex_digit d) x.1 in
    more y.0 (more y.1 (more z.0 (more z.1 none)))

-- eight hex digits as they are tested stand at the start of the list
digits_eight : (s : List ℕ) → Text.four_at s 0 ≡ true → Text.four_at s 4 ≡ true → Digits 8 s
digits_eight s e f = digits_join 4 8 (omega arith) (digits_four s e) (digits_four (drop 4 s) (simp get_or-drop f))

-- a good group stands for hex digits at the start, as many as it takes, four at least
abbrev Held : List ℕ → Text.Group → Type 0
Held s (Text.char c k) = Digits k s × (4 ≤ k)
Held s Text.wrong = Unit

-- every good group is as many hex digits as it takes, four at least
group_held : (w : ℕ) (s : List ℕ) → Held s (Text.group_of w s)
unfolding Text.group_two Text.group_four
group_held w s = go (eqb w 4)
  where
    two : (t u v : Bool) → Text.four_at s 0 ≡ t → Text.high (Text.four_of s 0) ≡ u → Text.four_at s 4 ≡ v → Held s (Text.group_two s)
    two false u v p q r = rw p tt
    two true false v p q r = rw (p, q) (digits_four s p, omega arith)
    two true true false p q r = rw (p, q, r) tt
    two true true true p q r = rw (p, q, r) (digits_eight s p r, omega arith)

    four : (t v : Bool) → Text.four_at s 0 ≡ t → Text.four_at s 4 ≡ v → Held s (Text.group_four s)
    four false v p r = rw p tt
    four true false p r = rw (p, r) tt
    four true true p r = rw (p, r) (digits_eight s p r, omega arith)

    go : (t : Bool) → Held s (pick t (Text.group_two s) (Text.group_four s))
    go true = two (Text.four_at s 0) (Text.high (Text.four_of s 0)) (Text.four_at s 4) refl refl refl
    go false = four (Text.four_at s 0) (Text.four_at s 4) refl refl

-- the groups before a bad one are hex digits, as many as `count` says, and have no more bytes of text
record Broke (t cs : List ℕ) : Type 0 where
  count : ℕ
  digits : Digits count t
  least : width cs ≤ count

-- groups have no more bytes of text than of digits
abbrev Told : List ℕ → Text.GroupsRead → Type 0
Told t (Text.groups_ended cs n) = width cs ≤ n
Told t (Text.groups_broken cs) = Broke t cs

-- a group more in front of others: there are still no more bytes of text than of digits
told_more : (b : ℕ) (r : List ℕ) (c k : ℕ) (g : Text.GroupsRead) → Digits k (b ∷ r) × (4 ≤ k) → Told (drop (k - 1) r) g → Told (b ∷ r) (Text.with_char c k g)
told_more b r c k (Text.groups_ended cs n) h l = omega (arith, width_more c cs, h.1)
told_more b r c zero (Text.groups_broken cs) h l = absurd (omega (arith, h.1))
told_more b r c (suc k) (Text.groups_broken cs) h l = let z : suc k - 1 ≡ k = omega arith in record { count = suc k + l.count; digits = digits_join l.count (suc k + l.count) refl h.0 (rw z at l.digits); least = omega (arith, width_more c cs, h.1, l.least) }

-- the groups of every directive have no more bytes of text than of digits
groups_told : (w n : ℕ) (t : List ℕ) → Told (drop n t) (Text.groups_from w n t)
unfolding Text.groups_from
groups_told w zero [] = omega (arith, width_none)
groups_told w (suc n) [] = omega (arith, width_none)
groups_told w (suc n) (b ∷ r) = groups_told w n r
groups_told w zero (b ∷ r) = go (ltb (suc (length r)) w || eqb b 92) (Text.group_of w (b ∷ r)) (group_held w (b ∷ r)) (λ k. groups_told w (k - 1) r)
  where
    go : (t : Bool) (g : Text.Group) → Held (b ∷ r) g → ((k : ℕ) → Told (drop (k - 1) r) (Text.groups_from w (k - 1) r)) → Told (b ∷ r) (pick t (Text.groups_ended [] (Text.closing_taken (b ∷ r))) (Text.grouped g (λ k. Text.groups_from w (k - 1) r)))
    go true g h f = omega (arith, width_none)
    go false (Text.char c k) h f = told_more b r c k (Text.groups_from w (k - 1) r) h (f k)
    go false Text.wrong h f = record { count = 0; digits = none; least = omega (arith, width_none) }

-- how a piece weighs: at most two bytes for each byte read; or two bytes more than the digits after a directive's four bytes, which are read again
data Weighs (s : List ℕ) (p : Text.Piece) : Type 0 where
  light : width p.chars ≤ p.used + p.used → Weighs s p
  heavy : (a d k : ℕ) (t : List ℕ) → s ≡ a ∷ 88 ∷ d ∷ 92 ∷ t → special d ≡ false → Digits k t → p.used ≡ 1 → width p.chars ≤ k + 2 → Weighs s p

-- of two pieces that a test picks from, each weighs no more than `Weighs` allows, so the one picked does
pick_weighs : (s : List ℕ) (t : Bool) (p q : Text.Piece) → (t ≡ true → Weighs s p) → (t ≡ false → Weighs s q) → Weighs s (pick t p q)
pick_weighs s true p q f g = f refl
pick_weighs s false p q f g = g refl

-- a piece of one character for two bytes or more weighs no more than two bytes for each
one_weighs : (s : List ℕ) (c k : ℕ) → 2 ≤ k → Weighs s (Text.gives (c ∷ []) k)
one_weighs s c k h = light (omega (arith, width_four c))

-- a piece of one byte's number weighs no more than two bytes
byte_weighs : (s : List ℕ) (c : ℕ) → c < 256 → Weighs s (Text.gives (c ∷ []) 1)
byte_weighs s c h = light (omega (arith, width_two c h))

-- the piece of a directive with groups weighs no more than `Weighs` allows
extended_weighs : (w d : ℕ) (s : List ℕ) → d < 256 → special d ≡ false → Text.is s 1 88 && (Text.is s 2 d && Text.is s 3 92) ≡ true → Weighs s (Text.extended (Text.groups_from w 0 (drop 4 s)))
extended_weighs w d s h n e = shape s (is_within s 3 92 (omega arith) y.1) (eqb-true (byte_at s 1) 88 x.0) (eqb-true (byte_at s 2) d y.0) (eqb-true (byte_at s 3) 92 y.1)
  where
    x : (Text.is s 1 88 ≡ true) × (Text.is s 2 d && Text.is s 3 92 ≡ true)
    x = both (Text.is s 1 88) (Text.is s 2 d && Text.is s 3 92) e

    y : (Text.is s 2 d ≡ true) × (Text.is s 3 92 ≡ true)
    y = both (Text.is s 2 d) (Text.is s 3 92) x.1

    go : (a : ℕ) (s t : List ℕ) (g : Text.GroupsRead) → s ≡ a ∷ 88 ∷ d ∷ 92 ∷ t → Told t g → Weighs s (Text.extended g)
    go a s t (Text.groups_ended cs m) q l = light (omega arith)
    go a s t (Text.groups_broken cs) q l = heavy a d l.count t q n l.digits refl (omega (arith, width_append cs (92 ∷ []), width_two 92 (omega arith), l.least))

    shape : (s : List ℕ) → 3 < length s → byte_at s 1 ≡ 88 → byte_at s 2 ≡ d → byte_at s 3 ≡ 92 → Weighs s (Text.extended (Text.groups_from w 0 (drop 4 s)))
    shape [] l p q r = absurd (omega arith)
    shape (a ∷ []) l p q r = absurd (omega arith)
    shape (a ∷ b ∷ []) l p q r = absurd (omega arith)
    shape (a ∷ b ∷ c ∷ []) l p q r = absurd (omega arith)
    shape (a ∷ b ∷ c ∷ z ∷ t) l p q r = go a (a ∷ b ∷ c ∷ z ∷ t) t (Text.groups_from w 0 t) (rw (p, q, r) refl) (groups_told w 0 t)

-- the piece of a directive with groups, or of an unknown one, weighs no more than `Weighs` allows
long_weighs : (s : List ℕ) → Weighs s (Text.long_of s)
long_weighs s = pick_weighs s (Text.is s 1 88 && (Text.is s 2 50 && Text.is s 3 92)) _ _ (λ e. extended_weighs 4 50 s (omega arith) refl e) (λ n. pick_weighs s (Text.is s 1 88 && (Text.is s 2 52 && Text.is s 3 92)) _ _ (λ e. extended_weighs 8 52 s (omega arith) refl e) (λ m. byte_weighs s 92 (omega arith)))

-- the piece of every directive weighs no more than `Weighs` allows
directive_weighs : (g : ℕ) (s : List ℕ) → Weighs s (Text.directive_of g s)
unfolding Text.directive_of
directive_weighs g s =
    pick_weighs s (Text.is s 1 92) _ _ (λ e. one_weighs s 92 2 (omega arith)) (λ n1.
    pick_weighs s (Text.is s 1 78 && Text.is s 2 92) _ _ (λ e. one_weighs s 10 3 (omega arith)) (λ n2.
    pick_weighs s (Text.is s 1 84 && Text.is s 2 92) _ _ (λ e. one_weighs s 9 3 (omega arith)) (λ n3.
    pick_weighs s (Text.is s 1 80 && Text.is s 3 92) _ _ (λ e. light (omega (arith, width_none))) (λ n4.
    pick_weighs s (Text.is s 1 83 && (Text.is s 2 92 && leb 4 (length s))) _ _ (λ e. one_weighs s (code_of g (byte_at s 3 + 128)) 4 (omega arith)) (λ n5.
    pick_weighs s (Text.is s 1 88 && (Text.is s 2 92 && Text.two_at s 3)) _ _ (λ e. one_weighs s (Text.two_of s 3) 5 (omega arith)) (λ n6. long_weighs s))))))

-- every piece of a list of bytes weighs no more than `Weighs` allows
piece_weighs : (g : ℕ) (s : List ℕ) → byte_at s 0 < 256 → Weighs s (Text.piece_of g s)
unfolding Text.piece_of
piece_weighs g s h =
    pick_weighs s (Text.is s 0 92) _ _ (λ e. directive_weighs g s) (λ n1.
    pick_weighs s (Text.is s 0 39 && Text.is s 1 39) _ _ (λ e. one_weighs s 39 2 (omega arith)) (λ n2.
    pick_weighs s (ltb (byte_at s 0) 128) _ _ (λ e. byte_weighs s (byte_at s 0) h) (λ n3. go (lead_of s) (lead_case_is s))))
  where
    go : (l : LeadCharacter) → LeadCases s l → Weighs s (Text.raw_of (byte_at s 0) l)
    go _ (led_one b) = byte_weighs s (byte_at s 0) h
    go _ (led_two a b t) = one_weighs s _ 2 (omega arith)
    go _ (led_three a b t u) = one_weighs s _ 3 (omega arith)
    go _ (led_four a b t u v) = one_weighs s _ 4 (omega arith)
    go _ led_none = byte_weighs s (byte_at s 0) h

-- a backslash before a hex digit is itself, and names no page
lone_piece : (g b : ℕ) (r : List ℕ) → Text.hex_digit b ≡ true → (Text.piece_of g (92 ∷ b ∷ r) ≡ Text.gives (92 ∷ []) 1) × (Text.page_after g (92 ∷ b ∷ r) ≡ g)
unfolding Text.piece_of Text.directive_of Text.page_after
lone_piece g b r e = (rw (hex_other b 92 e refl, hex_other b 78 e refl, hex_other b 84 e refl, hex_other b 80 e refl, hex_other b 83 e refl, hex_other b 88 e refl) refl, rw (hex_other b 80 e refl) refl)

-- the bytes of a text from a place on, where the bytes before it are plain
width_plain : (g n : ℕ) (s : List ℕ) → n ≤ length s → Text.plain (take n s) ≡ true → width (Text.text_on g s) ≡ n + width (Text.text_on g (drop n s))
width_plain g n s h p =
    let e : width (take n s) ≡ n = ap length (encode_plain (take n s) p) ∙ length-take-le n s h in
    omega (arith, ap width (text_plain g n s h p), width_append (take n s) (Text.text_on g (drop n s)))

-- hex digits behind a backslash, read as text: two bytes and one for each digit at most, and the text after them
width_lone : (g k : ℕ) (t : List ℕ) → 0 < k → Digits k t → width (Text.text_on g (92 ∷ t)) ≤ 2 + k + width (Text.text_on g (drop k t))
width_lone g k t h none = absurd (omega arith)
width_lone g k t h (more {b = b} {r = r} x d) =
    let (p, q) = lone_piece g b r x in
    let e : Text.text_on g (92 ∷ b ∷ r) ≡ (92 ∷ []) ++ Text.text_on g (b ∷ r) = text_goes g (92 ∷ b ∷ r) 1 (omega arith) (sym (ap (λ (z : Text.Piece). z.used) p)) (omega arith) ∙ ap (λ (z : Text.Piece). z.chars ++ Text.text_on (Text.page_after g (92 ∷ b ∷ r)) (b ∷ r)) p ∙ ap (λ (z : ℕ). 92 ∷ Text.text_on z (b ∷ r)) q in
    let m : Digits k (b ∷ r) = more x d in
    omega (arith, ap width e, width_append (92 ∷ []) (Text.text_on g (b ∷ r)), width_two 92 (omega arith), width_plain g k (b ∷ r) (digits_fit m) (digits_plain m))

-- the first bytes of a directive with a bad group, read again as text: four bytes and one for each digit at most, and the text after them
width_again : (g d k : ℕ) (t : List ℕ) → special d ≡ false → 0 < k → Digits k t → width (Text.text_on g (88 ∷ d ∷ 92 ∷ t)) ≤ 4 + k + width (Text.text_on g (drop k t))
unfolding Text.plain
width_again g d k t n h m = omega (arith, width_plain g 2 (88 ∷ d ∷ 92 ∷ t) (omega arith) (rw n refl), width_lone g k t h m)

-- past three bytes of a directive's name and k + 1 others
drop_three : (k d : ℕ) (t : List ℕ) → drop (4 + k) (88 ∷ d ∷ 92 ∷ t) ≡ drop (suc k) t
drop_three k d t = let e : 4 + k ≡ suc (suc (suc (suc k))) = omega arith in rw e refl

-- a piece that weighs no more than `Weighs` allows, and the text of what follows it on a page
module _ (b : ℕ) (r : List ℕ) (g : ℕ) (ih : (n : ℕ) → width (Text.text_from g n r) ≤ (length r - n) + (length r - n)) where
  -- a piece of at most two bytes for each byte read, with the text after it, has at most twice the string's bytes
  light_ample : (p : Text.Piece) → width p.chars ≤ p.used + p.used → (0 < p.used) × (p.used ≤ length (b ∷ r)) → width p.chars + width (Text.text_from g (p.used - 1) r) ≤ (length (b ∷ r) - 0) + (length (b ∷ r) - 0)
  light_ample p l f = let k = ih (p.used - 1) in omega (arith, f.0, f.1)

  -- every piece, also one whose digits are read again, with the text after it, has at most twice the string's bytes
  piece_ample : (p : Text.Piece) → Weighs (b ∷ r) p → (0 < p.used) × (p.used ≤ length (b ∷ r)) → width p.chars + width (Text.text_from g (p.used - 1) r) ≤ (length (b ∷ r) - 0) + (length (b ∷ r) - 0)
  piece_ample p (light l) f = light_ample p l f
  piece_ample p (heavy a d zero t q n m u l) f = light_ample p (omega arith) f
  piece_ample p (heavy a d (suc k) t q n m u l) f =
      let e : r ≡ 88 ∷ d ∷ 92 ∷ t = cc in
      let x : p.used - 1 ≡ 0 = omega arith in
      let y : width (Text.text_from g (p.used - 1) r) ≡ width (Text.text_on g (88 ∷ d ∷ 92 ∷ t)) = ap (λ (z : ℕ). width (Text.text_from g z r)) x ∙ ap width (text_skip g 0 r) ∙ ap (λ (z : List ℕ). width (Text.text_on g z)) e in
      let z : width (Text.text_from g (4 + k) r) ≡ width (Text.text_on g (drop (suc k) t)) = ap width (text_skip g (4 + k) r) ∙ ap (λ (w : List ℕ). width (Text.text_on g (drop (4 + k) w))) e ∙ ap (λ (w : List ℕ). width (Text.text_on g w)) (drop_three k d t) in
      omega (arith, y, z, ih (4 + k), width_again g d (suc k) t n (omega arith) m, digits_fit m, ap length e)

-- from any place on, on any page, a text has at most twice as many bytes as its string
from_ample : (g n : ℕ) (s : List ℕ) → ((i : ℕ) → get_or s i 0 < 256) → width (Text.text_from g n s) ≤ (length s - n) + (length s - n)
unfolding Text.text_from
from_ample g zero [] h = omega (arith, width_none)
from_ample g (suc n) [] h = omega (arith, width_none)
from_ample g (suc n) (b ∷ r) h = let k = from_ample g n r (λ i. h (suc i)) in omega arith
from_ample g zero (b ∷ r) h =
    rw (width_append (Text.piece_of g (b ∷ r)).chars (Text.text_from (Text.page_after g (b ∷ r)) ((Text.piece_of g (b ∷ r)).used - 1) r))
    (piece_ample b r (Text.page_after g (b ∷ r)) (λ n. from_ample (Text.page_after g (b ∷ r)) n r (λ i. h (suc i))) (Text.piece_of g (b ∷ r)) (piece_weighs g (b ∷ r) (h 0)) (piece_fits g (b ∷ r) (omega arith)))

-- a text has at most twice as many bytes as its string, whatever pages it names: a code of a page takes up to three bytes, and its `\S\` took four
pub text_ample : (s : List ℕ) → ((i : ℕ) → get_or s i 0 < 256) → length (Text.bytes_of s) ≤ length s + length s
unfolding Text.bytes_of Text.text_of
text_ample s h = omega (arith, from_ample page_a 0 s h, ap width (text_skip page_a 0 s))
