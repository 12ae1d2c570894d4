-- What the loops keep true, and that each turn keeps it. Laws for the proofs; no promise names them. Assumes nothing.
use Rattle.std.specs.Prelude.{ℕ, zero, suc, ◌+◌, ◌-◌, ◌*◌, ◌/◌, ◌%◌, ◌^◌, ◌≤◌, ◌<◌, ◌≡◌, refl, Bool, List, [], ◌∷◌, ◌||◌, not, eqb, ltb, length, take, drop, get_or, set}
use Rattle.std.proofs.Common.{sym, ◌∙◌, ap, subst, mul-le-mul, div-add-mod', div-lt_iff_lt-mul, mod-lt, add-one, arith, inl, inr, ne_eqb, lt-ltb, le-ltb, length-set, drop-set-lt, take-take, drop-drop, get_or-drop, get_or-take, get_or-set_same}
use Rattle.std.specs.List.{list_any}
use Rattle.std.proofs.Math.Decide.{dec_lt}
use Rattle.std.proofs.lemmas.List.{take-set-le}
use Rattle.std.proofs.Math.Seq.{take-length, drop-length}
use Rattle.limbs.specs.Worth.{worth, Scaled, Divided, Highest}
use Rattle.limbs.specs.Laws.{power_more, worth_take, worth_drop}

-- two lists that agree from i on have the same digit at i
at_drop : (xs ys : List ℕ) (i : ℕ) → drop i xs ≡ drop i ys → get_or xs i 0 ≡ get_or ys i 0
at_drop xs ys i e =
    let z : i + 0 ≡ i = omega arith in
    ap (λ (k : ℕ). get_or xs k 0) (sym z)
    ∙ sym (get_or-drop i xs 0 0)
    ∙ ap (λ (l : List ℕ). get_or l 0 0) e
    ∙ get_or-drop i ys 0 0
    ∙ ap (λ (k : ℕ). get_or ys k 0) z

-- two lists that agree from i on agree from i + 1 on too
drop_next : (xs ys : List ℕ) (i : ℕ) → drop i xs ≡ drop i ys → drop (suc i) xs ≡ drop (suc i) ys
drop_next xs ys i e =
    let z : i + 1 ≡ suc i = omega arith in
    ap (λ (k : ℕ). drop k xs) (sym z)
    ∙ sym (drop-drop 1 i xs)
    ∙ ap (drop 1) e
    ∙ drop-drop 1 i ys
    ∙ ap (λ (k : ℕ). drop k ys) z

-- ---- multiplication
-- a product of two digits leaves room for a carry in 64 binary digits
pub product_le : (x m : ℕ) → x < 4294967296 → m < 4294967296 → x * m ≤ 18446744065119617025
product_le x m h k = let a : x ≤ 4294967295 = omega arith in let b : m ≤ 4294967295 = omega arith in mul-le-mul a b

-- a multiplication after i digits: these are multiplied, those above are as they were, and c is carried
pub record Scaling (xs : List ℕ) (m a : ℕ) (ys : List ℕ) (c i : ℕ) : Type 0 where
  pub within : i ≤ length xs
  pub same : length ys ≡ length xs
  pub ahead : drop i ys ≡ drop i xs
  pub whole : worth (take i ys) + c * 2 ^ (32 * i) ≡ worth (take i xs) * m + a
  pub small : c < 4294967296

-- before the first digit is multiplied: nothing is done, and a is carried
pub scaling_starts : (xs : List ℕ) (m a : ℕ) → a < 4294967296 → Scaling xs m a xs a 0
unfolding worth
scaling_starts xs m a h = record { within = omega arith; same = refl; ahead = refl; whole = omega arith; small = h }

-- the sum of a turn of multiplication, by its digit and its carry
turn_splits : (m a p q w v x c : ℕ) → q ≡ 4294967296 * p → w + c * p ≡ v * m + a → w + p * ((x * m + c) % 4294967296) + (x * m + c) / 4294967296 * q ≡ (v + p * x) * m + a
turn_splits m a p q w v x c e h =
    let t = x * m + c in
    let f : t / 4294967296 * 4294967296 + t % 4294967296 ≡ t = div-add-mod' t 4294967296 in
    let g : p * t ≡ p * (t / 4294967296 * 4294967296 + t % 4294967296) = ap (λ (n : ℕ). p * n) (sym f) in
    rw e (put (t / 4294967296) (t % 4294967296) g)
  where
    put : (d r : ℕ) → p * (x * m + c) ≡ p * (d * 4294967296 + r) → w + p * r + d * (4294967296 * p) ≡ (v + p * x) * m + a
    put d r g = omega arith

-- one more digit multiplied, and its carry
pub scaling_goes : (xs : List ℕ) (m a : ℕ) (ys : List ℕ) (c i : ℕ) → get_or ys i 0 < 4294967296 → m < 4294967296 → i < length ys → Scaling xs m a ys c i
    → Scaling xs m a (set ys i ((get_or ys i 0 * m + c) % 4294967296)) ((get_or ys i 0 * m + c) / 4294967296) (i + 1)
scaling_goes xs m a ys c i d n h s =
    let x = get_or ys i 0 in
    let v = (x * m + c) % 4294967296 in
    let b = product_le x m d n in
    let k = s.small in
    let e : x ≡ get_or xs i 0 = at_drop ys xs i s.ahead in
    let l = s.same in
    rw add-one (record {
      within = omega arith;
      same = length-set ys i v ∙ s.same;
      ahead = drop-set-lt (suc i) ys i v (omega arith) ∙ drop_next ys xs i s.ahead;
      whole =
          ap (λ (n : ℕ). n + (x * m + c) / 4294967296 * 2 ^ (32 * suc i)) (worth_take (set ys i v) i (rw length-set h) ∙ worth_set ys i v h)
          ∙ turn_splits m a (2 ^ (32 * i)) (2 ^ (32 * suc i)) (worth (take i ys)) (worth (take i xs)) x c (power_more i) s.whole
          ∙ ap (λ (n : ℕ). (worth (take i xs) + 2 ^ (32 * i) * n) * m + a) e
          ∙ ap (λ (n : ℕ). n * m + a) (sym (worth_take xs i (omega arith)));
      small = (div-lt_iff_lt-mul {k = 4294967296} {x = x * m + c} {y = 4294967296} (omega arith)).1 (omega arith);
    })
  where
    worth_set : (l : List ℕ) (i v : ℕ) → i < length l → worth (take i (set l i v)) + 2 ^ (32 * i) * get_or (set l i v) i 0 ≡ worth (take i l) + 2 ^ (32 * i) * v
    worth_set l i v h =
        ap (λ (z : List ℕ). worth z + 2 ^ (32 * i) * get_or (set l i v) i 0) (take-set-le i l i v (omega arith))
        ∙ ap (λ (n : ℕ). worth (take i l) + 2 ^ (32 * i) * n) (get_or-set_same l i v 0 h)

-- after the last digit is multiplied: ys is the number in xs times m and a more, and c is what no longer fits
pub scaling_ends : (xs : List ℕ) (m a : ℕ) (ys : List ℕ) (c i : ℕ) → length ys ≤ i → Scaling xs m a ys c i → Scaled xs m a ys c
scaling_ends xs m a ys c i h s =
    let l = s.same in
    let w = s.within in
    let e : i ≡ length ys = omega arith in
    let f : i ≡ length xs = omega arith in
    record {
      same = l;
      whole =
          ap (λ (z : List ℕ). worth z + c * 2 ^ (32 * length xs)) (sym (ap (λ (k : ℕ). take k ys) e ∙ take-length ys))
          ∙ ap (λ (k : ℕ). worth (take i ys) + c * 2 ^ (32 * k)) (sym f)
          ∙ s.whole
          ∙ ap (λ (z : List ℕ). worth z * m + a) (ap (λ (k : ℕ). take k xs) f ∙ take-length xs);
    }

-- ---- division
-- lists that agree in their first j + 1 digits agree in the first j
take_fewer : (xs ys : List ℕ) (j : ℕ) → take (suc j) ys ≡ take (suc j) xs → take j ys ≡ take j xs
take_fewer xs ys j e =
    let l : j ≤ suc j = omega arith in
    sym (take-take j (suc j) ys l) ∙ ap (take j) e ∙ take-take j (suc j) xs l

-- lists that agree in their first j + 1 digits agree in digit j
at_take : (xs ys : List ℕ) (j : ℕ) → take (suc j) ys ≡ take (suc j) xs → get_or ys j 0 ≡ get_or xs j 0
at_take xs ys j e =
    let l : j < suc j = omega arith in
    sym (get_or-take (suc j) ys j 0 l) ∙ ap (λ (z : List ℕ). get_or z j 0) e ∙ get_or-take (suc j) xs j 0 l

-- a digit x of a division, with the rest r of the digit above brought down
abbrev pub brought : ℕ → ℕ → ℕ
brought r x = r * 4294967296 + x

-- a digit of a quotient has 32 binary digits, where what is left above is below the divisor
pub digit_lt : (x d r : ℕ) → x < 4294967296 → r < d → brought r x / d < 4294967296
digit_lt x d r h k = (div-lt_iff_lt-mul {k = d} {x = brought r x} {y = 4294967296} (omega arith)).1 (omega arith)

-- a division down to digit i: it and those above are divided, those below are as they were, and r is left
pub record Dividing (xs : List ℕ) (d : ℕ) (ys : List ℕ) (r i : ℕ) : Type 0 where
  pub within : i ≤ length xs
  pub same : length ys ≡ length xs
  pub ahead : take i ys ≡ take i xs
  pub whole : worth (drop i ys) * d + r ≡ worth (drop i xs)
  pub small : r < d

-- before the first digit is divided, which is the highest: nothing is done, and nothing is left
pub dividing_starts : (xs : List ℕ) (d : ℕ) → 0 < d → Dividing xs d xs 0 (length xs)
unfolding worth
dividing_starts xs d h = record { within = omega arith; same = refl; ahead = refl; whole = rw drop-length (omega arith); small = h }

-- one more digit divided: that at j
dividing_at : (xs : List ℕ) (d : ℕ) (ys : List ℕ) (r j : ℕ) → Dividing xs d ys r (suc j)
    → Dividing xs d (set ys j (brought r (get_or ys j 0) / d)) (brought r (get_or ys j 0) % d) j
dividing_at xs d ys r j s =
    let t = brought r (get_or ys j 0) in
    let v = t / d in
    let k = s.small in
    let p : 0 < d = omega arith in
    let l = s.same in
    let w = s.within in
    let f : j < length ys = omega arith in
    let g : j < length (set ys j v) = rw length-set f in
    let u = s.whole in
    let x : get_or ys j 0 ≡ get_or xs j 0 = at_take xs ys j s.ahead in
    let n : v * d + t % d ≡ t = div-add-mod' t d in
    record {
      within = omega arith;
      same = length-set ys j v ∙ l;
      ahead = take-set-le j ys j v (omega arith) ∙ take_fewer xs ys j s.ahead;
      whole =
          ap (λ (n : ℕ). n * d + t % d) (worth_drop (set ys j v) j g ∙ ap (λ (n : ℕ). n + 4294967296 * worth (drop (suc j) (set ys j v))) (get_or-set_same ys j v 0 f) ∙ ap (λ (z : List ℕ). v + 4294967296 * worth z) (drop-set-lt (suc j) ys j v (omega arith)))
          ∙ put v (t % d) (get_or ys j 0) (get_or xs j 0) (worth (drop (suc j) ys)) (worth (drop (suc j) xs)) n x u
          ∙ sym (worth_drop xs j (omega arith));
      small = mod-lt t p;
    }
  where
    put : (v q x y a b : ℕ) → v * d + q ≡ brought r x → x ≡ y → a * d + r ≡ b → (v + 4294967296 * a) * d + q ≡ y + 4294967296 * b
    put v q x y a b n e u = omega arith

-- one more digit divided: the one below i
pub dividing_goes : (xs : List ℕ) (d : ℕ) (ys : List ℕ) (r i : ℕ) → 0 < i → Dividing xs d ys r i
    → Dividing xs d (set ys (i - 1) (brought r (get_or ys (i - 1) 0) / d)) (brought r (get_or ys (i - 1) 0) % d) (i - 1)
dividing_goes xs d ys r zero h s = absurd (omega arith)
dividing_goes xs d ys r (suc j) h s =
    let z : j ≡ suc j - 1 = omega arith in
    subst (λ (k : ℕ). Dividing xs d (set ys k (brought r (get_or ys k 0) / d)) (brought r (get_or ys k 0) % d) k) z (dividing_at xs d ys r j s)

-- after the last digit is divided: ys is the number in xs by d, and r is left
pub dividing_ends : (xs : List ℕ) (d : ℕ) (ys : List ℕ) (r i : ℕ) → i ≤ 0 → Dividing xs d ys r i → Divided xs d ys r
dividing_ends xs d ys r zero h s = let p = s.small in record { same = s.same; by_zero = λ e. absurd (omega arith); quotient = λ l. (s.whole, s.small) }
dividing_ends xs d ys r (suc i) h s = absurd (omega arith)

-- by 0 nothing is divided, and 0 is left
pub divided_none : (xs : List ℕ) (d : ℕ) → d ≡ 0 → Divided xs d xs 0
divided_none xs d e = record { same = refl; by_zero = λ h. (refl, refl); quotient = λ l. absurd (omega arith) }

-- ---- looking for a digit that is not 0
-- a digit 0 on top of the first n - 1 adds nothing to the number
pub without_top : (xs : List ℕ) (n : ℕ) → 0 < n → n ≤ length xs → get_or xs (n - 1) 0 ≡ 0 → worth (take n xs) ≡ worth xs → worth (take (n - 1) xs) ≡ worth xs
without_top xs zero p h z e = absurd (omega arith)
without_top xs (suc j) p h z e =
    let f : suc j - 1 ≡ j = omega arith in
    let g : get_or xs j 0 ≡ 0 = ap (λ (k : ℕ). get_or xs k 0) (sym f) ∙ z in
    ap (λ (k : ℕ). worth (take k xs)) f ∙ put (worth (take j xs)) (worth (take (suc j) xs)) (2 ^ (32 * j)) (get_or xs j 0) (worth_take xs j (omega arith)) g ∙ e
  where
    put : (a b p x : ℕ) → b ≡ a + p * x → x ≡ 0 → a ≡ b
    put a b p x e z = sym (e ∙ ap (λ (n : ℕ). a + p * n) z ∙ omega arith)

-- a number is not 0 just where its digits moved up by one are not
moved : (w : ℕ) → Dec (0 < w) → ltb 0 w ≡ ltb 0 (0 + 4294967296 * w)
moved w (yes h) = lt-ltb 0 w h ∙ sym (lt-ltb 0 (0 + 4294967296 * w) (omega arith))
moved w (no h) = le-ltb 0 w (omega arith) ∙ sym (le-ltb 0 (0 + 4294967296 * w) (omega arith))

-- one digit more below: it or the others tell whether the number is not 0
any_more : (x w : ℕ) (b : Bool) → b ≡ ltb 0 w → Dec (0 < x) → (not (eqb x 0) || b) ≡ ltb 0 (x + 4294967296 * w)
any_more x w b e (yes h) =
    let l : 0 < x + 4294967296 * w = omega arith in
    rw (ne_eqb x 0 (omega arith), lt-ltb 0 (x + 4294967296 * w) l) refl
any_more x w b e (no h) =
    let z : x ≡ 0 = omega arith in
    rw z (e ∙ moved w (dec_lt 0 w))

-- whether one of some digits is not 0 tells whether their number is not 0
pub any_worth : (xs : List ℕ) → list_any (λ (x : ℕ). not (eqb x 0)) xs ≡ ltb 0 (worth xs)
unfolding worth
any_worth [] = refl
any_worth (x ∷ xs) = any_more x (worth xs) (list_any (λ (y : ℕ). not (eqb y 0)) xs) (any_worth xs) (dec_lt 0 x)

-- where the digit at i - 1 is not 0, and those from i on add nothing, i is how many digits there are
pub highest_found : (xs : List ℕ) (i : ℕ) → 0 < i → i ≤ length xs → (get_or xs (i - 1) 0 ≡ 0 → ⊥) → worth (take i xs) ≡ worth xs → Highest xs (i - 1 + 1)
highest_found xs i p h n e =
    let z : i ≡ i - 1 + 1 = omega arith in
    let r : Highest xs i = record { within = h; same = e; leads = inr (omega arith) } in
    subst (Highest xs) z r

-- where all digits add nothing, there are none
pub highest_none : (xs : List ℕ) (i : ℕ) → i ≤ 0 → worth (take i xs) ≡ worth xs → Highest xs 0
highest_none xs i h e =
    let z : 0 ≡ i = omega arith in
    record { within = omega arith; same = ap (λ (k : ℕ). worth (take k xs)) z ∙ e; leads = inl refl }
