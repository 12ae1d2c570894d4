-- The parts of a text: that it can always be taken apart so, and what the walks of Text.antt do with such a part.
-- Assumes nothing.
use Rattle.std.specs.Prelude.{ℕ, ◌+◌, ◌*◌, ◌-◌, ◌^◌, ◌≡◌, Bool, true, false, length}
use Rattle.std.proofs.Math.Path.{refl}
use Rattle.std.proofs.Common.{◌∙◌, ap, arith}
use mathlib.Core.List.{List, [], ◌∷◌, ◌++◌}
use Rattle.std.proofs.Math.Nat.{pow-succ'}
use Rattle.common.specs.Pick.{pick}
use Rattle.common.specs.Compare.{clash}
use Rattle.lex.specs.Byte.{white}
use Rattle.common.specs.Walk.{Turn, on, walk}
use Rattle.record.specs.Text.{past, number_and_rest, number_from}
use Rattle.record.specs.Byte.{digit}
use Rattle.record.specs.Form.{All, NotFirst, NotLast, SkippedBytes, Gap, NoGapLast, value_of}

-- where whatever answers is a, and something answers, a answers
pub sole : {A : Type 0} (P : A → Type 0) {a : A} → ((x : A) → P x → x ≡ a) → (x : A) × P x → P a
sole P only (x, h) = rw (only x h) at h

-- an empty list does not begin with a byte of the kind p
pub empty_not_first : (p : ℕ → Bool) → NotFirst p []
empty_not_first p c r e = clash (cc)

-- a list whose first byte is not of the kind p does not begin with such a byte
pub first_other : (p : ℕ → Bool) (c : ℕ) (xs : List ℕ) → p c ≡ false → NotFirst p (c ∷ xs)
first_other p c xs h d r e = ap p (cc) ∙ h

-- where a list does not begin with a byte of the kind p, its front part does not either
pub first_part : (p : ℕ → Bool) (t z : List ℕ) → NotFirst p (t ++ z) → NotFirst p t
first_part p t z h c r e = h c (r ++ z) (cc)

-- the front part of bytes that are all of the kind p is all of that kind
pub all_front : (p : ℕ → Bool) (f g : List ℕ) → All p (f ++ g) → All p f
all_front p [] g h = tt
all_front p (c ∷ f) g (h, t) = (h, all_front p f g t)

-- the back part of bytes that are all of the kind p is all of that kind
pub all_back : (p : ℕ → Bool) (f g : List ℕ) → All p (f ++ g) → All p g
all_back p [] g h = h
all_back p (c ∷ f) g (h, t) = all_back p f g t

-- two lists of bytes that are all of the kind p, joined, are all of that kind
pub all_join : (p : ℕ → Bool) (f g : List ℕ) → All p f → All p g → All p (f ++ g)
all_join p [] g h k = k
all_join p (c ∷ f) g (h, t) k = (h, all_join p f g t k)

-- all bytes of a list are of the kind that every byte is of
pub all_any : (f : List ℕ) → All (λ c. true) f
all_any [] = tt
all_any (c ∷ f) = (refl, all_any f)

-- bytes that are all of the kind p are all of the kind q, where each byte of p is of q
pub all_kind : (p q : ℕ → Bool) (f : List ℕ) → ((c : ℕ) → p c ≡ true → q c ≡ true) → All p f → All q f
all_kind p q [] g h = tt
all_kind p q (c ∷ f) g (h, t) = (g c h, all_kind p q f g t)

-- a list as all its bytes of the kind p at the start, and what follows them
abbrev pub SplitAfter : (ℕ → Bool) → List ℕ → Type 0
SplitAfter p xs = (f r : List ℕ) × (xs ≡ f ++ r) × SkippedBytes p f r

-- every list splits into its bytes of the kind p at the start and what follows them
pub split_is : (p : ℕ → Bool) (xs : List ℕ) → SplitAfter p xs
split_is p [] = ([], [], refl, record { all = tt; over = empty_not_first p })
split_is p (c ∷ xs) = go (p c) refl (split_is p xs)
  where
    go : (t : Bool) → p c ≡ t → SplitAfter p xs → SplitAfter p (c ∷ xs)
    go true h (f, r, e, s) = (c ∷ f, r, cc, record { all = (h, s.all); over = s.over })
    go false h s = ([], c ∷ xs, refl, record { all = tt; over = first_other p c xs h })

-- an empty list does not end in a byte of the kind p
pub last_none : (p : ℕ → Bool) → NotLast p []
last_none p [] c e = clash (cc)
last_none p (b ∷ r) c e = clash (cc)

last_more : (p : ℕ → Bool) (c : ℕ) (k : List ℕ) → (k ≡ [] → p c ≡ false) → NotLast p k → NotLast p (c ∷ k)
last_more p c k g h [] d e = ap p (cc) ∙ g (cc)
last_more p c k g h (b ∷ r) d e = h r d (cc)

last_next : (p : ℕ → Bool) (c : ℕ) (k : List ℕ) → NotLast p (c ∷ k) → NotLast p k
last_next p c k h r d e = h (c ∷ r) d (cc)

-- a list as the gap at its end, and what stands before that
abbrev pub Tailed : List ℕ → Type 0
Tailed xs = (k w : List ℕ) × (xs ≡ k ++ w) × Gap w × NoGapLast k

-- every list splits into the gap at its end and what stands before that
pub tail_split : (xs : List ℕ) → Tailed xs
tail_split [] = ([], [], refl, tt, last_none white)
tail_split (c ∷ xs) = go (white c) refl (tail_split xs)
  where
    go : (t : Bool) → white c ≡ t → Tailed xs → Tailed (c ∷ xs)
    go true h ([], w, e, a, l) = ([], c ∷ w, cc, (h, a), l)
    go true h (d ∷ k, w, e, a, l) = (c ∷ d ∷ k, w, cc, a, last_more white c (d ∷ k) (λ n. clash (cc)) l)
    go false h (k, w, e, a, l) = (c ∷ k, w, cc, a, last_more white c k (λ n. h) l)

-- `past` passes over the bytes f of the kind p
pub past_pass : (p : ℕ → Bool) (f r : List ℕ) → All p f → past p (f ++ r) ≡ past p r
unfolding past walk
past_pass p [] r h = refl
past_pass p (c ∷ f) r (h, t) = rw h (past_pass p f r t)

-- `past` passes over nothing where the first byte is not of the kind p
pub past_halt : (p : ℕ → Bool) (r : List ℕ) → NotFirst p r → past p r ≡ r
unfolding past walk
past_halt p [] h = refl
past_halt p (c ∷ r) h = rw (h c r refl)

-- the arithmetic of one digit more: d comes after the digits that gave n
ten : (n d v e : ℕ) → (n * 10 + d) * e + v ≡ n * (10 * e) + (d * e + v)
ten n d v e = omega arith

-- `number_from` over the digits ds goes on from the number that n and ds make
pub number_pass : (n : ℕ) (ds r : List ℕ) → All digit ds → number_from n (ds ++ r) ≡ number_from (n * 10 ^ length ds + value_of ds) r
unfolding number_from walk value_of
number_pass n [] r h = ap (λ (m : ℕ). number_from m r) (omega arith)
number_pass n (d ∷ ds) r (h, t) =
    rw (h, pow-succ') (number_pass (n * 10 + (d - 48)) ds r t ∙ ap (λ (m : ℕ). number_from m r) (ten n (d - 48) (value_of ds) (10 ^ length ds)))

-- `number_from` ends where no digit follows
pub number_halt : (n : ℕ) (r : List ℕ) → NotFirst digit r → number_from n r ≡ number_and_rest n r
unfolding number_from walk
number_halt n [] h = refl
number_halt n (c ∷ r) h = rw (h c r refl)

-- a walk that keeps what follows the last byte that is not white, over bytes of a kind q
module _ {A : Type 0} (t : List ℕ → ℕ → List ℕ → Turn (List ℕ) A) (z : List ℕ → A) (q : ℕ → Bool)
    (goes : (c : ℕ) → q c ≡ true → (e r : List ℕ) → t e c r ≡ on (pick (white c) e r)) where
  blank_pass : (e w y : List ℕ) → All q w → All white w → walk t z e (w ++ y) ≡ walk t z e y
  unfolding walk
  blank_pass e [] y a b = refl
  blank_pass e (c ∷ w) y (a, u) (b, v) = rw (goes c a e (w ++ y), b) (blank_pass e w y u v)

  word_some : (e : List ℕ) (c : ℕ) (k y : List ℕ) → All q (c ∷ k) → NotLast white (c ∷ k) → walk t z e (c ∷ (k ++ y)) ≡ walk t z y y
  unfolding walk
  word_some e c [] y (a, u) l = rw (goes c a e y, l [] c refl)
  word_some e c (d ∷ k) y (a, u) l =
      rw (goes c a e (d ∷ (k ++ y))) (word_some (pick (white c) e (d ∷ (k ++ y))) d k y u (last_next white c (d ∷ k) l))

  pub word_pass : (k w y : List ℕ) → All q k → NotLast white k → All q w → All white w
      → walk t z (k ++ (w ++ y)) (k ++ (w ++ y)) ≡ walk t z (w ++ y) y
  word_pass [] w y a l b h = blank_pass (w ++ y) w y b h
  word_pass (c ∷ k) w y a l b h = word_some (c ∷ (k ++ (w ++ y))) c k (w ++ y) a l ∙ blank_pass (w ++ y) w y b h
