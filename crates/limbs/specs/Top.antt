-- The leading 64 binary digits of a number: how its three highest digits are joined, and what is left below. Laws for the proofs; no promise
-- names them. Assumes nothing.
use Rattle.std.specs.Prelude.{ℕ, zero, suc, ◌+◌, ◌-◌, ◌*◌, ◌/◌, ◌%◌, ◌^◌, ◌≤◌, ◌<◌, ◌≡◌, refl, Bool, false, not, ◌||◌, ◌⊎◌, List, [], ◌∷◌, eqb, ltb, length, take, get_or}
use Rattle.std.proofs.Common.{sym, ◌∙◌, ap, subst, inl, inr, mul-le-mul_right, mul-le-mul_left, mul-pos, one-mul, mod-lt, div-add-mod', arith, lt-ltb, ne_eqb, pow-add, pow_pos, shl_exact, shr_lt}
use Rattle.std.specs.Int.Count.{count_leading_zeros}
use Rattle.std.proofs.lemmas.Nat.{leading_top}
use Rattle.limbs.specs.Worth.{worth, LimbDigits, Highest, LeadingDigitsOf}
use Rattle.limbs.specs.Laws.{power_more, worth_take, worth_take_lt}

-- ---- a short number
-- a number of one digit is that digit
pub one_digit : (xs : List ℕ) (n : ℕ) → n ≡ 1 → n ≤ length xs → get_or xs 0 0 ≡ worth (take n xs)
unfolding worth
one_digit [] n e h = absurd (omega arith)
one_digit (x ∷ xs) n e h = rw e (omega arith)

-- a number of two digits is the upper moved up by 32 binary digits, and the lower
pub two_digits : (xs : List ℕ) (n : ℕ) → n ≡ 2 → n ≤ length xs → get_or xs 1 0 * 4294967296 + get_or xs 0 0 ≡ worth (take n xs)
unfolding worth
two_digits [] n e h = absurd (omega arith)
two_digits (x ∷ []) n e h = let l : n ≤ 1 = h in absurd (omega arith)
two_digits (x ∷ (y ∷ xs)) n e h = rw e (omega arith)

-- a number of no digits is 0
pub no_limb : (xs : List ℕ) (n : ℕ) → n ≡ 0 → 0 ≡ worth (take n xs)
unfolding worth
no_limb xs n e = rw e refl

-- ---- joining three digits
module _ (h m l b : ℕ) (p : 0 < b) (q : b ≤ 32) (f : h < 2 ^ b) (g : m < 4294967296) (k : l < 4294967296) where
  -- the upper two of three digits, the highest of b binary digits, have b + 32 binary digits
  upper_lt : h * 4294967296 + m < 2 ^ (b + 32)
  upper_lt = let e = pow-add 2 b 32 in omega arith

  -- the upper two of three digits, moved up by 32 - b, still fit a `u64`
  pub top_shifted : (h * 4294967296 + m) * 2 ^ (32 - b) % 18446744073709551616 ≡ (h * 4294967296 + m) * 2 ^ (32 - b)
  top_shifted = shl_exact {a = h * 4294967296 + m} (b + 32) (32 - b) 64 upper_lt (omega arith)

  -- what the lowest of three digits adds to the head is below 2 ^ (32 - b)
  added_lt : l / 2 ^ b < 2 ^ (32 - b)
  added_lt = let e : 32 ≡ 32 - b + b = omega arith in shr_lt {n = l} (32 - b) b (subst (λ (n : ℕ). l < 2 ^ n) e k)

  -- three digits joined to a head have at most 64 binary digits
  pub joined_lt : (h * 4294967296 + m) * 2 ^ (32 - b) + l / 2 ^ b < 18446744073709551616
  joined_lt =
      let a = added_lt in
      let u : h * 4294967296 + m + 1 ≤ 2 ^ (b + 32) = let v = upper_lt in omega arith in
      let w : (h * 4294967296 + m + 1) * 2 ^ (32 - b) ≤ 2 ^ (b + 32) * 2 ^ (32 - b) = mul-le-mul_right (2 ^ (32 - b)) u in
      let z : b + 32 + (32 - b) ≡ 64 = omega arith in
      let e : 2 ^ (b + 32) * 2 ^ (32 - b) ≡ 18446744073709551616 = sym (pow-add 2 (b + 32) (32 - b)) ∙ ap (λ (n : ℕ). 2 ^ n) z in
      put ((h * 4294967296 + m) * 2 ^ (32 - b)) (2 ^ (32 - b)) (l / 2 ^ b) ((h * 4294967296 + m + 1) * 2 ^ (32 - b)) (omega arith) a (subst (λ (n : ℕ). (h * 4294967296 + m + 1) * 2 ^ (32 - b) ≤ n) e w)
    where
      put : (x y z t : ℕ) → t ≡ x + y → z < y → t ≤ 18446744073709551616 → x + z < 18446744073709551616
      put x y z t e a b = omega arith

  -- the head of three digits as the code sums it, none of it lost
  pub joins : (h * 4294967296 + m) * 2 ^ (32 - b) % 18446744073709551616 + l / 2 ^ b ≡ (h * 4294967296 + m) * 2 ^ (32 - b) + l / 2 ^ b
  joins = ap (λ (n : ℕ). n + l / 2 ^ b) top_shifted

-- ---- the three highest digits
-- a number by its digits k + 2, k + 1 and k and those below
three_at : (xs : List ℕ) (k : ℕ) → suc (suc (suc k)) ≤ length xs
    → worth (take (suc (suc (suc k))) xs) ≡ worth (take k xs) + 2 ^ (32 * k) * ((get_or xs (suc (suc k)) 0 * 4294967296 + get_or xs (suc k) 0) * 4294967296 + get_or xs k 0)
three_at xs k h =
    put (worth (take k xs)) (worth (take (suc k) xs)) (worth (take (suc (suc k)) xs)) (worth (take (suc (suc (suc k))) xs)) (2 ^ (32 * k)) (2 ^ (32 * suc k)) (2 ^ (32 * suc (suc k))) (get_or xs k 0) (get_or xs (suc k) 0) (get_or xs (suc (suc k)) 0) (worth_take xs k (omega arith)) (worth_take xs (suc k) (omega arith)) (worth_take xs (suc (suc k)) (omega arith)) (power_more k) (power_more (suc k))
  where
    put : (w v u t p q r x y z : ℕ) → v ≡ w + p * x → u ≡ v + q * y → t ≡ u + r * z → q ≡ 4294967296 * p → r ≡ 4294967296 * q → t ≡ w + p * ((z * 4294967296 + y) * 4294967296 + x)
    put w v u t p q r x y z d e f g h =
        let a : q * y ≡ 4294967296 * p * y = ap (λ (n : ℕ). n * y) g in
        let b : r * z ≡ 4294967296 * (4294967296 * p) * z = ap (λ (n : ℕ). n * z) (h ∙ ap (λ (n : ℕ). 4294967296 * n) g) in
        omega arith

-- a number by its three highest digits and those below
three_top : (xs : List ℕ) (n : ℕ) → 3 ≤ n → n ≤ length xs
    → worth (take n xs) ≡ worth (take (n - 3) xs) + 2 ^ (32 * (n - 3)) * ((get_or xs (n - 1) 0 * 4294967296 + get_or xs (n - 2) 0) * 4294967296 + get_or xs (n - 3) 0)
three_top xs n l h =
    let e : n ≡ suc (suc (suc (n - 3))) = omega arith in
    let f : suc (suc (n - 3)) ≡ n - 1 = omega arith in
    let g : suc (n - 3) ≡ n - 2 = omega arith in
    ap (λ (i : ℕ). worth (take i xs)) e
    ∙ three_at xs (n - 3) (omega arith)
    ∙ ap (λ (i : ℕ). worth (take (n - 3) xs) + 2 ^ (32 * (n - 3)) * ((get_or xs i 0 * 4294967296 + get_or xs (suc (n - 3)) 0) * 4294967296 + get_or xs (n - 3) 0)) f
    ∙ ap (λ (i : ℕ). worth (take (n - 3) xs) + 2 ^ (32 * (n - 3)) * ((get_or xs (n - 1) 0 * 4294967296 + get_or xs i 0) * 4294967296 + get_or xs (n - 3) 0)) g

-- ---- how many binary digits the highest has
-- how many binary digits a digit has without its leading zeros
abbrev pub bits_of : ℕ → ℕ
bits_of x = 32 - count_leading_zeros 32 x

-- a digit that is not 0 has 1 to 32 binary digits, and moved up by the rest its first is the 64th
pub bits_are : (x : ℕ) → 0 < x → x < 4294967296 → (0 < bits_of x) × (bits_of x ≤ 32) × (x < 2 ^ bits_of x) × (9223372036854775808 ≤ x * 4294967296 * 2 ^ (32 - bits_of x))
bits_are x p h =
    let t = leading_top 32 x p h in
    let j = t.0 in
    let e : count_leading_zeros 32 x + suc j ≡ 32 = t.1 in
    let b : suc j ≡ bits_of x = omega arith in
    let s : j + 32 + (32 - bits_of x) ≡ 63 = omega arith in
    let m : 2 ^ j * 4294967296 ≤ x * 4294967296 = mul-le-mul_right 4294967296 t.2 in
    let w : 2 ^ j * 4294967296 * 2 ^ (32 - bits_of x) ≡ 9223372036854775808 = ap (λ (n : ℕ). n * 2 ^ (32 - bits_of x)) (sym (pow-add 2 j 32)) ∙ sym (pow-add 2 (j + 32) (32 - bits_of x)) ∙ ap (λ (n : ℕ). 2 ^ n) s in (
      omega arith,
      omega arith,
      subst (λ (n : ℕ). x < 2 ^ n) b t.3,
      subst (λ (n : ℕ). n ≤ x * 4294967296 * 2 ^ (32 - bits_of x)) w (mul-le-mul_right (2 ^ (32 - bits_of x)) m),
    )

-- 2 ^ b, as the machine shifts 1, is 2 ^ b where b is at most 32
pub bits_unit_is : (b : ℕ) → b ≤ 32 → 1 * 2 ^ b % 18446744073709551616 ≡ 2 ^ b
bits_unit_is b h = shl_exact {a = 1} 1 b 64 (omega arith) (omega arith) ∙ one-mul (2 ^ b)

-- ---- the head
-- the head's digits and what is left below them make the number again
head_whole : (b u l w k : ℕ) → b ≤ 32 → (u * 2 ^ (32 - b) + l / 2 ^ b) * 2 ^ (32 * k + b) + (w + 2 ^ (32 * k) * (l % 2 ^ b)) ≡ w + 2 ^ (32 * k) * (u * 4294967296 + l)
head_whole b u l w k h =
    let z : 32 - b + b ≡ 32 = omega arith in
    put (2 ^ (32 - b)) (2 ^ b) (2 ^ (32 * k)) (2 ^ (32 * k + b)) (l / 2 ^ b) (l % 2 ^ b) (pow-add 2 (32 * k) b) (sym (pow-add 2 (32 - b) b) ∙ ap (λ (n : ℕ). 2 ^ n) z) (div-add-mod' l (2 ^ b))
  where
    put : (c d p s q r : ℕ) → s ≡ p * d → c * d ≡ 4294967296 → q * d + r ≡ l → (u * c + q) * s + (w + p * r) ≡ w + p * (u * 4294967296 + l)
    put c d p s q r e f g =
        let a : p * u * (c * d) ≡ p * u * 4294967296 = ap (λ (n : ℕ). p * u * n) f in
        let b : p * (q * d + r) ≡ p * l = ap (λ (n : ℕ). p * n) g in
        rw e (omega arith)

-- what is left below a head is less than one of its last digit
head_under : (b l w k : ℕ) → w < 2 ^ (32 * k) → w + 2 ^ (32 * k) * (l % 2 ^ b) < 2 ^ (32 * k + b)
head_under b l w k h =
    let m : l % 2 ^ b < 2 ^ b = mod-lt l (pow_pos b) in
    let s : l % 2 ^ b + 1 ≤ 2 ^ b = omega arith in
    let v : 2 ^ (32 * k) * (l % 2 ^ b + 1) ≤ 2 ^ (32 * k) * 2 ^ b = mul-le-mul_left (2 ^ (32 * k)) s in
    subst (λ (n : ℕ). w + 2 ^ (32 * k) * (l % 2 ^ b) < n) (sym (pow-add 2 (32 * k) b)) (omega arith)

-- whether anything is left below a head: in the digit that was cut, or in those below it
head_left : (p r w : ℕ) → 0 < p → not (eqb r 0) || ltb 0 w ≡ ltb 0 (w + p * r)
head_left p zero w h = let e : w ≡ w + p * 0 = omega arith in ap (ltb 0) e
head_left p (suc r) w h = rw (ne_eqb (suc r) 0 (λ e. omega arith)) (sym (lt-ltb 0 (w + p * suc r) (let m : 0 < p * suc r = mul-pos h (omega arith) in omega arith)))

-- the first of a head's 64 binary digits is not 0
head_leads : (x y c z : ℕ) → 9223372036854775808 ≤ x * 4294967296 * c → 9223372036854775808 ≤ (x * 4294967296 + y) * c + z
head_leads x y c z h = omega arith

-- the head of a number of one or two digits is the number itself, and nothing is left
pub head_short : (xs : List ℕ) (n d : ℕ) → Highest xs n → d ≡ worth (take n xs) → LeadingDigitsOf (worth xs) (record { digits = d; limbs = 0; bits = 0; more = false })
head_short xs n d h e = let m = h.same in record { rest = 0; whole = omega arith; under = omega arith; left = refl; leads = inl (refl, refl) }

-- the head of a number of three digits or more
module _ (xs : List ℕ) (n : ℕ) (each : LimbDigits xs) (high : Highest xs n) (more : 3 ≤ n) where
  -- the highest digit is not 0
  pub high_pos : 0 < get_or xs (n - 1) 0
  high_pos = pos high.leads
    where
      pos : (n ≡ 0) ⊎ (0 < get_or xs (n - 1) 0) → 0 < get_or xs (n - 1) 0
      pos (inl e) = absurd (omega arith)
      pos (inr h) = h

  -- the highest digit has 1 to 32 binary digits, and moved up its first is the 64th
  pub high_bits : (0 < bits_of (get_or xs (n - 1) 0)) × (bits_of (get_or xs (n - 1) 0) ≤ 32) × (get_or xs (n - 1) 0 < 2 ^ bits_of (get_or xs (n - 1) 0)) × (9223372036854775808 ≤ get_or xs (n - 1) 0 * 4294967296 * 2 ^ (32 - bits_of (get_or xs (n - 1) 0)))
  high_bits = bits_are (get_or xs (n - 1) 0) high_pos (each (n - 1))

  -- what the code puts together from the three highest digits, and from whether any below is not 0, is the number's head
  pub head_long : (d : ℕ) (t : Bool) → d ≡ (get_or xs (n - 1) 0 * 4294967296 + get_or xs (n - 2) 0) * 2 ^ (32 - bits_of (get_or xs (n - 1) 0)) + get_or xs (n - 3) 0 / 2 ^ bits_of (get_or xs (n - 1) 0) → t ≡ ltb 0 (worth (take (n - 3) xs))
      → LeadingDigitsOf (worth xs) (record { digits = d; limbs = n - 3; bits = bits_of (get_or xs (n - 1) 0); more = not (eqb (get_or xs (n - 3) 0 % (1 * 2 ^ bits_of (get_or xs (n - 1) 0) % 18446744073709551616)) 0) || t })
  head_long d t e f =
      let b = bits_of (get_or xs (n - 1) 0) in
      let w = worth (take (n - 3) xs) in
      let l = get_or xs (n - 3) 0 in
      let u = get_or xs (n - 1) 0 * 4294967296 + get_or xs (n - 2) 0 in
      let k = high_bits in
      let i = high.within in
      record {
        rest = w + 2 ^ (32 * (n - 3)) * (l % 2 ^ b);
        whole =
            ap (λ (v : ℕ). v * 2 ^ (32 * (n - 3) + b) + (w + 2 ^ (32 * (n - 3)) * (l % 2 ^ b))) e
            ∙ head_whole b u l w (n - 3) k.1
            ∙ sym (three_top xs n more i)
            ∙ high.same;
        under = head_under b l w (n - 3) (worth_take_lt (n - 3) xs each (omega arith));
        left =
            ap (λ (v : ℕ). not (eqb (l % v) 0) || t) (bits_unit_is b k.1)
            ∙ ap (λ (v : Bool). not (eqb (l % 2 ^ b) 0) || v) f
            ∙ head_left (2 ^ (32 * (n - 3))) (l % 2 ^ b) w (pow_pos (32 * (n - 3)));
        leads = inr (k.0, k.1, subst (λ (v : ℕ). 9223372036854775808 ≤ v) (sym e) (head_leads (get_or xs (n - 1) 0) (get_or xs (n - 2) 0) (2 ^ (32 - b)) (l / 2 ^ b) k.3));
      }
